-- Numbers of two halves: when they are the same, and which is less.
-- Assumes nothing.
use mathlib.Core.Path.{◌≡◌, refl, sym, ap, ◌∙◌}
use mathlib.Core.Bool.{Bool, true, false}
use Prim.Native.Nat.{ℕ, ◌+◌, ◌<◌, ◌≤◌}
use native.Mathlib.Omega.{arith}
use mathlib.Core.List.{List}
use lib.Dec.{eqb, ltb}
use borrow.Author.Tests.{eq-eqb, ne_eqb, eqb-true, eqb-false, lt-ltb, le-ltb, ltb-true, ltb-false}
use Rattle.endian.specs.Numbers.{number_at}
use Rattle.endian.proofs.Numbers.{number-split}
use Rattle.intake.specs.Places.{tuple_at, low_at, high_at, mark_at, wide}

-- sixteen bytes are two halves
pub halves-at : (at : ℕ) (s : List ℕ) → number_at 16 at s ≡ wide (number_at 8 at s) (number_at 8 (at + 8) s)
halves-at at s = number-split 8 8 at s

module _ (a b low high : ℕ) (small : a < 18446744073709551616) (lows : low < 18446744073709551616) where
  pub other-low : (a ≡ low → ⊥) → false ≡ eqb (wide a b) (wide low high)
  other-low n = sym (ne_eqb (wide a b) (wide low high) (λ e. n (omega arith)))

  pub same_low : a ≡ low → eqb b high ≡ eqb (wide a b) (wide low high)
  same_low e = go (eqb b high) refl
    where
      go : (t : Bool) → eqb b high ≡ t → t ≡ eqb (wide a b) (wide low high)
      go true q = let z : b ≡ high = eqb-true b high q in sym (eq-eqb (wide a b) (wide low high) (omega arith))
      go false q = sym (ne_eqb (wide a b) (wide low high) (λ w. eqb-false b high q (omega arith)))

  pub lower_high : b < high → true ≡ ltb (wide a b) (wide low high)
  lower_high h = sym (lt-ltb (wide a b) (wide low high) (omega arith))

  pub higher-high : high < b → false ≡ ltb (wide a b) (wide low high)
  higher-high h = sym (le-ltb (wide a b) (wide low high) (omega arith))

  pub same-high : high ≤ b → b ≤ high → ltb a low ≡ ltb (wide a b) (wide low high)
  same-high p q = go (ltb a low) refl
    where
      go : (t : Bool) → ltb a low ≡ t → t ≡ ltb (wide a b) (wide low high)
      go true e = sym (lt-ltb (wide a b) (wide low high) (omega (arith, ltb-true a low e)))
      go false e = sym (le-ltb (wide a b) (wide low high) (omega (arith, ltb-false a low e)))

-- the mark of a tuple, half by half as code reads it
module _ (s : List ℕ) (at low high x : ℕ) (is : x ≡ number_at 8 (at + 24) s) (small : x < 18446744073709551616) (lows : low < 18446744073709551616) where
  whole : number_at 16 (at + 24) s ≡ wide x (number_at 8 (at + 32) s)
  whole = let z : at + 24 + 8 ≡ at + 32 = omega arith in halves-at (at + 24) s ∙ rw (z, ← is)

  pub mark-other : (x ≡ low → ⊥) → false ≡ eqb (number_at 16 (at + 24) s) (wide low high)
  mark-other n = rw whole (other-low x (number_at 8 (at + 32) s) low high small lows n)

  pub mark-same : (y : ℕ) → y ≡ number_at 8 (at + 32) s → x ≡ low → eqb y high ≡ eqb (number_at 16 (at + 24) s) (wide low high)
  mark-same y e q = rw (whole, ← e) (same_low x y low high small lows q)

-- and as a test of it finds it, at the tuple of a place
module _ (s : List ℕ) (x at : ℕ) (is : at ≡ tuple_at x) (t : ℕ) (b : Bool) where
  at_place : number_at 16 (at + 24) s ≡ mark_at s x
  unfolding low_at high_at
  at_place = let z : tuple_at x + 24 + 8 ≡ tuple_at x + 32 = omega arith in ap (λ (p : ℕ). number_at 16 (p + 24) s) is ∙ halves-at (tuple_at x + 24) s ∙ rw z

  module _ (test : b ≡ eqb (number_at 16 (at + 24) s) t) where
    pub mark-is : b ≡ true → mark_at s x ≡ t
    mark-is e = sym at_place ∙ eqb-true (number_at 16 (at + 24) s) t (sym test ∙ e)

    pub mark-not : b ≡ false → mark_at s x ≡ t → ⊥
    mark-not e q = eqb-false (number_at 16 (at + 24) s) t (sym test ∙ e) (at_place ∙ q)
