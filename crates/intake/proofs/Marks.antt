-- Two marks are the same number exactly when they are the same sixteen bytes.
-- Assumes nothing.
use mathlib.Core.Path.{◌≡◌, refl, sym, ap, ap₂, ◌∙◌}
use mathlib.Core.Bool.{true}
use Prim.Native.Nat.{ℕ, suc, ◌≤◌}
use native.Mathlib.Omega.{arith}
use mathlib.Core.List.{List, [], ◌∷◌}
use lib.ListN.{length, take}
use lib.Seq.{length-take-le}
use borrow.Author.Tests.{le-leb, eq-eqb}
use Rattle.endian.specs.Numbers.{number_of, number_at, Bytes}
use Rattle.endian.proofs.Bytes.{bytes_take}
use Rattle.endian.proofs.Places.{number_same, part-take}
use Rattle.intake.specs.Orders.{mark_of, is_order, bears}

numbers_apart : (a b : List ℕ) → Bytes a → Bytes b → length a ≡ length b → number_of a ≡ number_of b → a ≡ b
unfolding number_of
numbers_apart [] [] p q l e = refl
numbers_apart [] (y ∷ b) p q l e = absurd (omega arith)
numbers_apart (x ∷ a) [] p q l e = absurd (omega arith)
numbers_apart (x ∷ a) (y ∷ b) p q l e =
    let z : x ≡ y = omega (arith, p.at 0, q.at 0) in
    let w : number_of a ≡ number_of b = omega (arith, p.at 0, q.at 0) in
    ap₂ (λ (u : ℕ) (v : List ℕ). u ∷ v) z (numbers_apart a b (record { at = λ i. p.at (suc i) }) (record { at = λ i. q.at (suc i) }) (omega arith) w)

module _ (p m : List ℕ) where
  pub same_bytes : take 16 p ≡ take 16 m → mark_of p ≡ mark_of m
  same_bytes e = number_same 16 0 0 p m e

  pub same-mark : Bytes p → Bytes m → 16 ≤ length p → 16 ≤ length m → mark_of p ≡ mark_of m → take 16 p ≡ take 16 m
  unfolding number_at
  same-mark bp bm lp lm e = numbers_apart (take 16 p) (take 16 m) (bytes_take 16 bp) (bytes_take 16 bm) (length-take-le 16 p lp ∙ sym (length-take-le 16 m lm)) e

-- a payload of 24 bytes or more that begins with the mark bears it
pub begins-bears : (p m : List ℕ) → 24 ≤ length p → take 16 p ≡ m → bears (mark_of m) p ≡ true
unfolding bears is_order
begins-bears p m l e =
    let z : mark_of p ≡ mark_of m = same_bytes p m (sym (part-take 0 16 16 p (omega arith)) ∙ ap (take 16) e) in
    rw (le-leb 24 (length p) l) (eq-eqb (mark_of p) (mark_of m) z)
