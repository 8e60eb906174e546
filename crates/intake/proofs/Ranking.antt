-- Looking a mark up in a sorted block: the loop's invariant, and the first place of a mark.
-- Assumes nothing.
use mathlib.Core.Path.{◌≡◌, refl, sym, ap, ◌∙◌}
use mathlib.Core.Bool.{Bool, true, false}
use Prim.Native.Nat.{ℕ, ◌≤◌, ◌<◌}
use native.Mathlib.Omega.{arith}
use mathlib.Core.List.{List}
use lib.ListN.{length, get_or}
use lib.Dec.{eqb, leb, ltb}
use Rattle.std.specs.Prelude.{Some, None}
use borrow.Author.Tests.{eqb-true, eqb-false, leb-true, leb-false, ltb-true, ltb-false, lt-ltb}
use Rattle.intake.specs.Places.{mark_at, Places}
use Rattle.intake.specs.Blocks.{rank_at, Sorted, Around, Firstly}
use Rattle.sorting.specs.Parts.{Falls, Parted}
use Rattle.intake.proofs.Counting.{has-at, at_has}
use Rattle.intake.proofs.Sorting.{marks-rise, places-rise}

module _ {s l : List ℕ} (g : Places s l) (o : Sorted (rank_at s) l) where
  -- the marks do not fall
  weak : (i j : ℕ) → i ≤ j → j < length l → mark_at s (get_or l i 0) ≤ mark_at s (get_or l j 0)
  weak i j h b = go (eqb i j) refl
    where
      go : (t : Bool) → eqb i j ≡ t → mark_at s (get_or l i 0) ≤ mark_at s (get_or l j 0)
      go true e = let z : i ≡ j = eqb-true i j e in rw z (omega arith)
      go false e = let n : i ≡ j → ⊥ = eqb-false i j e in marks-rise s g o i j (omega arith) b

  -- the search by halves
  pub falls : (t : ℕ) → Falls (λ i. ltb (mark_at s (get_or l i 0)) t) (length l)
  falls t i j a b e = lt-ltb (mark_at s (get_or l i 0)) t (omega (arith, marks-rise s g o i j a b, ltb-true (mark_at s (get_or l j 0)) t e))

  pub around : (t r : ℕ) → r ≤ length l → Parted (λ i. ltb (mark_at s (get_or l i 0)) t) r r (length l) → Around (mark_at s) l t r
  around t r h p = record { end = h; lows = λ i b. ltb-true (mark_at s (get_or l i 0)) t (p.front i b); highs = λ i b c. ltb-false (mark_at s (get_or l i 0)) t (p.back i b c) }

  module _ {t r : ℕ} (w : Around (mark_at s) l t r) where
    -- an element with that mark does not stand before r
    behind : (x : ℕ) (i : ℕ) → i < length l → get_or l i 0 ≡ x → mark_at s x ≡ t → r ≤ i
    behind x i b e m = go (leb r i) refl
      where
        go : (q : Bool) → leb r i ≡ q → r ≤ i
        go true z = leb-true r i z
        go false z = let n = w.lows i (leb-false r i z) in let y : mark_at s (get_or l i 0) ≡ t = ap (mark_at s) e ∙ m in absurd (omega arith)

    pub firstly-past : length l ≤ r → Firstly (mark_at s) t l None
    firstly-past h x p m = let a = at_has x l p in omega (arith, behind x a.index a.below a.is m, a.below)

    pub firstly-here : r < length l → mark_at s (get_or l r 0) ≡ t → Firstly (mark_at s) t l (Some (get_or l r 0))
    firstly-here h e = (has-at l r h, e, λ x p m. least x (at_has x l p).index (at_has x l p).below (at_has x l p).is m)
      where
        least : (x i : ℕ) → i < length l → get_or l i 0 ≡ x → mark_at s x ≡ t → get_or l r 0 ≤ x
        least x i b q m = go (eqb r i) refl
          where
            go : (v : Bool) → eqb r i ≡ v → get_or l r 0 ≤ x
            go true z = let y : r ≡ i = eqb-true r i z in omega (arith, ap (λ (j : ℕ). get_or l j 0) y, q)
            go false z =
                let n : r ≡ i → ⊥ = eqb-false r i z in
                omega (arith, q, places-rise s g o r i (omega (arith, behind x i b q m)) b (e ∙ sym (ap (mark_at s) q ∙ m)))

    pub firstly-none : r < length l → (mark_at s (get_or l r 0) ≡ t → ⊥) → Firstly (mark_at s) t l None
    firstly-none h n x p m =
        let a = at_has x l p in
        n (omega (arith, w.highs r (omega arith) h, weak r a.index (behind x a.index a.below a.is m) a.below, ap (mark_at s) a.is, m))
