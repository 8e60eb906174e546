-- What the search for repeated marks gives: none exactly when no two rows of the listing are orders with the same mark; else the least pair, by the earlier row, then the later.
-- Assumes nothing.
use mathlib.Core.Path.{◌≡◌, refl, sym, ap, ◌∙◌, subst}
use mathlib.Core.Logic.{◌⊎◌, inl, inr}
use mathlib.Core.Bool.{Bool, true, false}
use Prim.Native.Nat.{ℕ, suc, ◌≤◌, ◌<◌}
use native.Mathlib.Omega.{arith}
use mathlib.Core.List.{List, [], ◌∷◌, ◌++◌}
use lib.ListN.{length}
use borrow.Author.Tests.{eq-eqb}
use Rattle.page.specs.Fault.{verdict_of}
use Rattle.page.specs.Rows.{visible_rows, first_with}
use Rattle.page.specs.declared.Row.{Row}
use Rattle.std.specs.Prelude.{Option, Some, None, Result, Ok, Err}
use Rattle.refusals.specs.declared.Verdict.{Verdict}
use Rattle.page.proofs.Picks.{never}
use Rattle.intake.specs.Orders.{order_of, same_mark, pair_or, repeated_in, orders_repeated}
use Rattle.intake.specs.declared.RepeatedOrders.{RepeatedOrders}

-- rows of a list: r behind the rows a, q behind r and the rows b
abbrev pub Stand : List Row → List Row → Row → List Row → Row → List Row → Type 0
Stand rs a r b q c = rs ≡ a ++ (r ∷ (b ++ (q ∷ c)))

abbrev head_row : Row → List Row → Row
head_row d [] = d
head_row d (r ∷ rs) = r

abbrev tail_rows : List Row → List Row
tail_rows [] = []
tail_rows (r ∷ rs) = rs

-- ---- the first row that passes a test

-- it stands behind rows that do not
record Split (f : Row → Bool) (rs : List Row) (q : Row) : Type 0 where
  pub before : List Row
  pub behind : List Row
  pub is : rs ≡ before ++ (q ∷ behind)
  pub passes : f q ≡ true
  pub first : (a c : List Row) (x : Row) → rs ≡ a ++ (x ∷ c) → f x ≡ true → length before ≤ length a

data Search (f : Row → Bool) (rs : List Row) : Type 0 where
  met : (q : Row) → first_with f rs ≡ Some q → Split f rs q → Search f rs
  over : first_with f rs ≡ None → ((a c : List Row) (x : Row) → rs ≡ a ++ (x ∷ c) → f x ≡ false) → Search f rs

nil_not : (a c : List Row) (x : Row) → [] ≡ a ++ (x ∷ c) → ⊥
nil_not [] c x e = absurd (omega (arith, ap length e))
nil_not (y ∷ a) c x e = absurd (omega (arith, ap length e))

search : (f : Row → Bool) (rs : List Row) → Search f rs
unfolding first_with
search f [] = over refl (λ a c x e. absurd (nil_not a c x e))
search f (r ∷ rs) = go (f r) refl (search f rs)
  where
    none_of : f r ≡ false → ((a c : List Row) (x : Row) → rs ≡ a ++ (x ∷ c) → f x ≡ false) → (a c : List Row) (x : Row) → r ∷ rs ≡ a ++ (x ∷ c) → f x ≡ false
    none_of e h [] c x z = let w : r ≡ x = ap (head_row r) z in rw (← w) e
    none_of e h (y ∷ a) c x z = h a c x (ap tail_rows z)

    first_of : f r ≡ false → (b : List Row) → ((a c : List Row) (x : Row) → rs ≡ a ++ (x ∷ c) → f x ≡ true → length b ≤ length a) → (a c : List Row) (x : Row) → r ∷ rs ≡ a ++ (x ∷ c) → f x ≡ true → length (r ∷ b) ≤ length a
    first_of e b h [] c x z t = let w : r ≡ x = ap (head_row r) z in never (sym e ∙ ap f w ∙ t)
    first_of e b h (y ∷ a) c x z t = omega (arith, h a c x (ap tail_rows z) t)

    go : (t : Bool) → f r ≡ t → Search f rs → Search f (r ∷ rs)
    go true e w = met r (rw e) (record { before = []; behind = rs; is = refl; passes = e; first = λ a c x z t. omega arith })
    go false e (met q h w) = met q (rw e h) (record { before = r ∷ w.before; behind = w.behind; is = ap (λ (l : List Row). r ∷ l) w.is; passes = w.passes; first = first_of e w.before w.first })
    go false e (over h w) = over (rw e h) (none_of e w)

-- ---- pairs

-- one answer
abbrev answer_in : Result (Option RepeatedOrders) Verdict → Option RepeatedOrders
answer_in (Ok g) = g
answer_in (Err v) = None

ok-same : {g h : Option RepeatedOrders} → ◌≡◌ {A = Result (Option RepeatedOrders) Verdict} (Ok g) (Ok h) → g ≡ h
ok-same e = ap answer_in e

module _ (s : List ℕ) where
  -- a pair that is there: two rows, orders with the same mark, and the least such, by the earlier, then the later
  pub record Pair (rs : List Row) (g : RepeatedOrders) : Type 0 where
    pub before : List Row
    pub earlier : Row
    pub between : List Row
    pub later : Row
    pub behind : List Row
    pub stand : Stand rs before earlier between later behind
    pub same : same_mark s earlier later ≡ true
    pub first : g.first ≡ order_of s earlier
    pub second : g.second ≡ order_of s later
    pub least : (a b c : List Row) (r q : Row) → Stand rs a r b q c → same_mark s r q ≡ true → (length before < length a) ⊎ ((length before ≡ length a) × (length between ≤ length b))

  -- none of them are orders with the same mark
  abbrev pub NoneSame : List Row → Type 0
  NoneSame rs = (a b c : List Row) (r q : Row) → Stand rs a r b q c → same_mark s r q ≡ false

  -- what the search answers of some rows: the least pair, or none exactly where there is none
  abbrev pub Found : List Row → Option RepeatedOrders → Type 0
  Found rs None = NoneSame rs
  Found rs (Some g) = Pair rs g

  stand-not : (a b c : List Row) (r q : Row) → Stand [] a r b q c → ⊥
  stand-not a b c r q e = nil_not a (b ++ (q ∷ c)) r e

  found : (rs : List Row) → Found rs (repeated_in s rs)
  unfolding repeated_in
  found [] = λ a b c r q e. absurd (stand-not a b c r q e)
  found (x ∷ rs) = go (search (same_mark s x) rs) (repeated_in s rs) (found rs)
    where
      -- a pair whose earlier row is x, or one of the others
      none_of : ((a c : List Row) (y : Row) → rs ≡ a ++ (y ∷ c) → same_mark s x y ≡ false) → ((a b c : List Row) (r q : Row) → Stand rs a r b q c → same_mark s r q ≡ false)
          → (a b c : List Row) (r q : Row) → Stand (x ∷ rs) a r b q c → same_mark s r q ≡ false
      none_of u v [] b c r q e = let w : x ≡ r = ap (head_row x) e in rw (← w) (u b c q (ap tail_rows e))
      none_of u v (y ∷ a) b c r q e = v a b c r q (ap tail_rows e)

      least-here : (d : List Row) → ((a c : List Row) (y : Row) → rs ≡ a ++ (y ∷ c) → same_mark s x y ≡ true → length d ≤ length a)
          → (a b c : List Row) (r q : Row) → Stand (x ∷ rs) a r b q c → same_mark s r q ≡ true → (0 < length a) ⊎ ((0 ≡ length a) × (length d ≤ length b))
      least-here d u [] b c r q e t = let w : x ≡ r = ap (head_row x) e in inr (refl, u b c q (ap tail_rows e) (rw w t))
      least-here d u (y ∷ a) b c r q e t = inl (omega arith)

      least-later : ((a c : List Row) (y : Row) → rs ≡ a ++ (y ∷ c) → same_mark s x y ≡ false) → (g : RepeatedOrders) (p : Pair rs g) → (a b c : List Row) (r q : Row) → Stand (x ∷ rs) a r b q c → same_mark s r q ≡ true
          → (length (x ∷ p.before) < length a) ⊎ ((length (x ∷ p.before) ≡ length a) × (length p.between ≤ length b))
      least-later u g p [] b c r q e t = let w : x ≡ r = ap (head_row x) e in never (sym (u b c q (ap tail_rows e)) ∙ rw w t)
      least-later u g p (y ∷ a) b c r q e t = up (p.least a b c r q (ap tail_rows e) t)
        where
          up : (length p.before < length a) ⊎ ((length p.before ≡ length a) × (length p.between ≤ length b)) → (suc (length p.before) < suc (length a)) ⊎ ((suc (length p.before) ≡ suc (length a)) × (length p.between ≤ length b))
          up (inl l) = inl (omega arith)
          up (inr l) = inr (omega (arith, l.0), l.1)

      go : Search (same_mark s x) rs → (later : Option RepeatedOrders) → Found rs later → Found (x ∷ rs) (pair_or s x (first_with (same_mark s x) rs) later)
      go (met q h w) later f =
          rw h (record {
            before = [];
            earlier = x;
            between = w.before;
            later = q;
            behind = w.behind;
            stand = ap (λ (l : List Row). x ∷ l) w.is;
            same = w.passes;
            first = refl;
            second = refl;
            least = least-here w.before w.first;
          })
      go (over h w) (Some g) p =
          rw h (record {
            before = x ∷ p.before;
            earlier = p.earlier;
            between = p.between;
            later = p.later;
            behind = p.behind;
            stand = ap (λ (l : List Row). x ∷ l) p.stand;
            same = p.same;
            first = p.first;
            second = p.second;
            least = least-later w g p;
          })
      go (over h w) None v = rw h (none_of w v)

  -- ---- on pages that verification accepts

  module _ (magic : ℕ) (ok : (verdict_of magic s).number ≡ 0) where
    -- it answers
    pub taken : orders_repeated magic s ≡ Ok (repeated_in s (visible_rows s))
    unfolding orders_repeated
    taken = rw (eq-eqb _ _ ok)

    -- none exactly when no two rows of the listing are orders with the same mark
    pub none-repeated : orders_repeated magic s ≡ Ok None → NoneSame (visible_rows s)
    none-repeated e = subst (Found (visible_rows s)) (ok-same (sym taken ∙ e)) (found (visible_rows s))

    pub repeated-none : NoneSame (visible_rows s) → orders_repeated magic s ≡ Ok None
    repeated-none w = taken ∙ ap Ok (go (repeated_in s (visible_rows s)) (found (visible_rows s)))
      where
        go : (g : Option RepeatedOrders) → Found (visible_rows s) g → g ≡ None
        go None f = refl
        go (Some g) p = never (sym (w p.before p.between p.behind p.earlier p.later p.stand) ∙ p.same)

    -- the pair is the least
    pub repeated-least : (g : RepeatedOrders) → orders_repeated magic s ≡ Ok (Some g) → Pair (visible_rows s) g
    repeated-least g e = subst (Found (visible_rows s)) (ok-same (sym taken ∙ e)) (found (visible_rows s))
