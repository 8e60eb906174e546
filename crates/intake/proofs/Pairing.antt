-- The least pair of places is the least pair of rows.
-- Assumes nothing.
use mathlib.Core.Path.{◌≡◌, refl, sym, ap, ◌∙◌, subst}
use mathlib.Core.Bool.{Bool, true, false}
use Prim.Native.Nat.{ℕ, ◌≤◌}
use native.Mathlib.Omega.{arith}
use native.Mathlib.Decide.{dec_le}
use mathlib.Core.List.{List, [], ◌∷◌}
use lib.Dec.{eqb}
use lib.ListN.{length}
use Rattle.endian.specs.Pick.{pick, cons_if}
use Rattle.endian.specs.Numbers.{Bytes}
use Rattle.page.specs.Fault.{verdict_of}
use Rattle.page.specs.Rows.{row_payload, visible_rows, first_with, Listable}
use Rattle.page.specs.declared.Row.{Row}
use Rattle.std.specs.Prelude.{Option, Some, None}
use Rattle.std.specs.Option.{option_map}
use Rattle.page.proofs.ListedRows.{Each}
use Rattle.page.proofs.Picks.{never}
use Rattle.page.proofs.Verdicts.{accepted-size}
use Rattle.intake.specs.Orders.{mark_of, is_order, bears, same_mark, pair_or, repeated_in}
use Rattle.intake.specs.declared.RepeatedOrders.{RepeatedOrders}
use Rattle.intake.specs.Places.{place_of, mark_at, order_at, places_of, places_from, Has, Place, Places}
use Rattle.intake.specs.Blocks.{next_same, pair_with, least_pair}
use Rattle.intake.specs.declared.pairs.Pair.{Pair}
use Rattle.intake.proofs.OrderRows.{short_row, place-mark, place-order, place-good}
use Rattle.intake.proofs.Walking.{Sound, rows-sound, places-all}
use Rattle.intake.proofs.Counting.{places-none}
use Rattle.intake.proofs.Scanning.{head, rest, cons-cases, has-head, has-tail}

-- the answer of a pair of places
abbrev pub answer_of : List ℕ → Option Pair → Option RepeatedOrders
answer_of s None = None
answer_of s (Some p) = Some (record { first = order_at s p.first; second = order_at s p.second })

module _ (s : List ℕ) (few : length s ≤ 1073741824) where
  -- an order's row
  record OrderRow (r : Row) : Type 0 where
    pub sound : Sound s r
    pub long : 48 ≤ r.length

  -- a row that was found is one
  abbrev OrderIf : Option Row → Type 0
  OrderIf None = Unit {0}
  OrderIf (Some q) = OrderRow q

  order_is : (r : Row) → Sound s r → is_order (row_payload s r) ≡ true → 48 ≤ r.length
  order_is r h e =
      elim (dec_le 48 r.length) [
        | yes l ↦ l
        | no l ↦ never (sym (short_row s r h.stands (omega arith)) ∙ e)
      ]

  module _ (r : Row) (mark : ℕ) where
    -- the search behind an order, by rows and by places
    next-is : (rs : List Row) → Each (Sound s) rs → next_same (mark_at s) mark (places_of s rs) ≡ option_map place_of (first_with (λ q. bears mark (row_payload s q)) rs)
    unfolding next_same places_of first_with bears
    next-is [] u = refl
    next-is (q ∷ rs) u = go (is_order (row_payload s q)) refl (next-is rs u.1)
      where
        go : (t : Bool) → is_order (row_payload s q) ≡ t → next_same (mark_at s) mark (places_of s rs) ≡ option_map place_of (first_with (λ x. bears mark (row_payload s x)) rs)
            → next_same (mark_at s) mark (cons_if t (place_of q) (places_of s rs)) ≡ option_map place_of (pick (pick t (eqb (mark_of (row_payload s q)) mark) false) (Some q) (first_with (λ x. bears mark (row_payload s x)) rs))
        go true e f = rw (place-mark s q u.0.stands few (order_is q u.0 e)) (by (eqb (mark_of (row_payload s q)) mark))
          where
            by : (b : Bool) → pick b (Some (place_of q)) (next_same (mark_at s) mark (places_of s rs)) ≡ option_map place_of (pick b (Some q) (first_with (λ x. bears mark (row_payload s x)) rs))
            by true = refl
            by false = f
        go false e f = f

    found-row : (rs : List Row) → Each (Sound s) rs → OrderIf (first_with (λ q. bears mark (row_payload s q)) rs)
    unfolding first_with bears
    found-row [] u = tt
    found-row (q ∷ rs) u = go (is_order (row_payload s q)) refl (eqb (mark_of (row_payload s q)) mark) (found-row rs u.1)
      where
        go : (t : Bool) → is_order (row_payload s q) ≡ t → (b : Bool) → OrderIf (first_with (λ x. bears mark (row_payload s x)) rs) → OrderIf (pick (pick t b false) (Some q) (first_with (λ x. bears mark (row_payload s x)) rs))
        go true e true f = record { sound = u.0; long = order_is q u.0 e }
        go true e false f = f
        go false e b f = f

  same-is : (r : Row) (rs : List Row) → is_order (row_payload s r) ≡ true → first_with (same_mark s r) rs ≡ first_with (λ q. bears (mark_of (row_payload s r)) (row_payload s q)) rs
  unfolding first_with same_mark
  same-is r [] e = refl
  same-is r (q ∷ rs) e = go (is_order (row_payload s r)) e (same-is r rs e)
    where
      go : (t : Bool) → t ≡ true → first_with (same_mark s r) rs ≡ first_with (λ x. bears (mark_of (row_payload s r)) (row_payload s x)) rs
          → pick (pick t (bears (mark_of (row_payload s r)) (row_payload s q)) false) (Some q) (first_with (same_mark s r) rs) ≡ pick (bears (mark_of (row_payload s r)) (row_payload s q)) (Some q) (first_with (λ x. bears (mark_of (row_payload s r)) (row_payload s x)) rs)
      go t z f = rw z (ap (λ (x : Option Row). pick (bears (mark_of (row_payload s r)) (row_payload s q)) (Some q) x) f)

  same_none : (r : Row) (rs : List Row) → is_order (row_payload s r) ≡ false → first_with (same_mark s r) rs ≡ None
  unfolding first_with same_mark
  same_none r [] e = refl
  same_none r (q ∷ rs) e = go (is_order (row_payload s r)) e (same_none r rs e)
    where
      go : (t : Bool) → t ≡ false → first_with (same_mark s r) rs ≡ None → pick (pick t (bears (mark_of (row_payload s r)) (row_payload s q)) false) (Some q) (first_with (same_mark s r) rs) ≡ None
      go t z f = rw z f

  pub pair-rows : (rs : List Row) → Each (Sound s) rs → answer_of s (least_pair (mark_at s) (places_of s rs)) ≡ repeated_in s rs
  unfolding least_pair places_of repeated_in
  pair-rows [] u = refl
  pair-rows (r ∷ rs) u = go (is_order (row_payload s r)) refl (pair-rows rs u.1)
    where
      order : is_order (row_payload s r) ≡ true → answer_of s (least_pair (mark_at s) (places_of s rs)) ≡ repeated_in s rs → (x : Option Row) → OrderIf x
          → answer_of s (pair_with (place_of r) (option_map place_of x) (least_pair (mark_at s) (places_of s rs))) ≡ pair_or s r x (repeated_in s rs)
      order e f (Some q) h = rw (place-order s r u.0.stands few (order_is r u.0 e), place-order s q h.sound.stands few h.long)
      order e f None h = f

      go : (t : Bool) → is_order (row_payload s r) ≡ t → answer_of s (least_pair (mark_at s) (places_of s rs)) ≡ repeated_in s rs
          → answer_of s (least_pair (mark_at s) (cons_if t (place_of r) (places_of s rs))) ≡ pair_or s r (first_with (same_mark s r) rs) (repeated_in s rs)
      go true e f =
          let m : mark_at s (place_of r) ≡ mark_of (row_payload s r) = place-mark s r u.0.stands few (order_is r u.0 e) in
          rw (same-is r rs e, m, next-is r (mark_of (row_payload s r)) rs u.1) (order e f (first_with (λ q. bears (mark_of (row_payload s r)) (row_payload s q)) rs) (found-row r (mark_of (row_payload s r)) rs u.1))
      go false e f = rw (same_none r rs e) f

  -- what stands among the places of orders is one
  pub rows-places : Bytes s → (rs : List Row) → Each (Sound s) rs → Places s (places_of s rs)
  unfolding places_of
  rows-places b [] u = places-none s
  rows-places b (r ∷ rs) u = go (is_order (row_payload s r)) refl (rows-places b rs u.1)
    where
      go : (t : Bool) → is_order (row_payload s r) ≡ t → Places s (places_of s rs) → Places s (cons_if t (place_of r) (places_of s rs))
      go true e g = record { at = λ x h. elim (cons-cases x (place_of r) (places_of s rs) h) [ head q ↦ rw q (place-good s r u.0.stands few (order_is r u.0 e) b (omega (arith, u.0.lent))) | rest w ↦ g.at x w ] }
      go false e g = g

-- a pair that was found is of places
abbrev HasIf : List ℕ → Option ℕ → Type 0
HasIf l None = Unit {0}
HasIf l (Some y) = Has y l

abbrev BothIn : List ℕ → Option Pair → Type 0
BothIn l None = Unit {0}
BothIn l (Some p) = Has p.first l × Has p.second l

same-has : (k : ℕ → ℕ) (t : ℕ) (l : List ℕ) → HasIf l (next_same k t l)
unfolding next_same
same-has k t [] = tt
same-has k t (y ∷ l) = go (eqb (k y) t) (next_same k t l) (same-has k t l)
  where
    go : (b : Bool) (n : Option ℕ) → HasIf l n → HasIf (y ∷ l) (pick b (Some y) n)
    go true n f = has-head y l
    go false None f = tt
    go false (Some x) f = has-tail x y l f

pair-has : (k : ℕ → ℕ) (l : List ℕ) → BothIn l (least_pair k l)
unfolding least_pair
pair-has k [] = tt
pair-has k (x ∷ l) = go (next_same k (k x) l) (same-has k (k x) l) (least_pair k l) (pair-has k l)
  where
    go : (n : Option ℕ) → HasIf l n → (p : Option Pair) → BothIn l p → BothIn (x ∷ l) (pair_with x n p)
    go (Some y) h p f = (has-head x l, has-tail y x l h)
    go None h None f = tt
    go None h (Some p) f = (has-tail p.first x l f.0, has-tail p.second x l f.1)

-- ---- the whole answer

module _ (s : List ℕ) (few : length s ≤ 1073741824) (fine : Listable s) where
  pub answer : (p : Option Pair) → p ≡ least_pair (mark_at s) (places_from s 0 0) → answer_of s p ≡ repeated_in s (visible_rows s)
  answer p is = ap (answer_of s) (is ∙ ap (least_pair (mark_at s)) (places-all s)) ∙ pair-rows s few (visible_rows s) (rows-sound s fine)

  pub pair-places : (p : Pair) → Some p ≡ least_pair (mark_at s) (places_from s 0 0) → Bytes s → Place s p.first × Place s p.second
  pair-places p is b =
      let g : Places s (places_from s 0 0) = rw (places-all s) (rows-places s few b (visible_rows s) (rows-sound s fine)) in
      let w : BothIn (places_from s 0 0) (Some p) = subst (BothIn (places_from s 0 0)) (sym is) (pair-has (mark_at s) (places_from s 0 0)) in
      (g.at p.first w.0, g.at p.second w.1)

-- pages that verification accepts are few
pub area-few : (magic : ℕ) (s : List ℕ) → (verdict_of magic s).number ≡ 0 → length s ≤ 1073741824
area-few magic s e = let r = accepted-size magic s 0 e in omega (arith, r.0, r.1)
