-- One verdict after another.
-- Assumes nothing.
use mathlib.Core.Path.{◌≡◌, refl}
use mathlib.Core.Bool.{Bool, true, false}
use lib.Dec.{eqb}
use borrow.Author.Tests.{eqb-true, eqb-false, eq-eqb, ne_eqb}
use Rattle.endian.specs.Pick.{pick}
use Rattle.refusals.specs.Verdict.{◌then◌}
use Rattle.refusals.specs.declared.Verdict.{Verdict}

pub then-refused : (v w : Verdict) → (v.number ≡ 0 → ⊥) → (v then w) ≡ v
then-refused v w h = rw (ne_eqb v.number 0 h)

pub then-accepted : (v w : Verdict) → v.number ≡ 0 → (v then w) ≡ w
then-accepted v w h = rw (eq-eqb v.number 0 h)

pub then-zero : (v w : Verdict) → (v then w).number ≡ 0 → (v.number ≡ 0) × (w.number ≡ 0)
then-zero v w h = go (eqb v.number 0) refl h
  where
    go : (b : Bool) → eqb v.number 0 ≡ b → (pick b w v).number ≡ 0 → (v.number ≡ 0) × (w.number ≡ 0)
    go true e k = (eqb-true v.number 0 e, k)
    go false e k = absurd (eqb-false v.number 0 e k)

pub zero-then : (v w : Verdict) → v.number ≡ 0 → w.number ≡ 0 → (v then w).number ≡ 0
zero-then v w h k = rw (eq-eqb v.number 0 h) k
