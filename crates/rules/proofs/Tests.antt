-- What a test that passed or failed tells of its parts.
-- Assumes nothing.
use mathlib.Core.Path.{◌≡◌, refl, sym}
use mathlib.Core.Bool.{Bool, true, false, not}
use Prim.Native.Nat.{ℕ}
use native.Mathlib.Omega.{arith}
use Rattle.endian.specs.Pick.{pick}
use Rattle.rules.specs.Shape.{both, either}

pub false-true : {A : Type 0} → false ≡ true → A
false-true h = let z : ◌≡◌ {A = ℕ} 0 1 = cc in absurd (omega arith)

pub both_true : (a b : Bool) → both a b ≡ true → (a ≡ true) × (b ≡ true)
both_true true b h = (refl, h)
both_true false b h = false-true h

pub true-both : {a b : Bool} → a ≡ true → b ≡ true → both a b ≡ true
true-both {a} {b} h k = rw (h, k)

pub both-none : (b : Bool) → both b false ≡ false
both-none true = refl
both-none false = refl

pub either-none : (b : Bool) → either b false ≡ b
either-none true = refl
either-none false = refl

pub either-false : (a b : Bool) → either a b ≡ false → (a ≡ false) × (b ≡ false)
either-false true b h = false-true (sym h)
either-false false b h = (refl, h)

pub not-true : (a : Bool) → not a ≡ true → a ≡ false
not-true true h = false-true h
not-true false h = refl

-- a choice that is none of what one way gives went the other way
pub into : {A : Type 0} (b : Bool) {x y z : A} → (y ≡ z → ⊥) → pick b x y ≡ z → (b ≡ true) × (x ≡ z)
into true n h = (refl, h)
into false n h = absurd (n h)

pub past : {A : Type 0} (b : Bool) {x y z : A} → (x ≡ z → ⊥) → pick b x y ≡ z → (b ≡ false) × (y ≡ z)
past true n h = absurd (n h)
past false n h = (refl, h)

pub either_true : (a b : Bool) → either a b ≡ true → (a ≡ false → b ≡ true)
either_true true b h k = false-true (sym k)
either_true false b h k = h
