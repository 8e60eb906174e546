-- What is answered where a verdict accepts, read off an Ok or an Err.
-- Beside what `refusals Told` says of a result and its verdict. Assumes nothing.
use mathlib.Core.Path.{◌≡◌, refl, sym}
use mathlib.Core.Bool.{Bool, true, false}
use lib.Dec.{eqb}
use borrow.Author.Tests.{eqb-true, eqb-false, eq-eqb, ne_eqb}
use Rattle.std.specs.Prelude.{Result, Ok, Err}
use Rattle.std.specs.Result.{result_unwrap_or}
use Rattle.endian.specs.Pick.{pick}
use Rattle.refusals.specs.Verdict.{told_by, by_number, answered, ◌then◌}
use Rattle.refusals.specs.declared.Refused.{Refused}
use Rattle.refusals.specs.declared.Verdict.{Verdict}
use Rattle.refusals.proofs.Then.{then-refused, then-accepted}

module _ {T : Type 0} (v : Verdict) (x : T) where
  pub ok-answered : v.number ≡ 0 → Ok x ≡ answered v x
  ok-answered z = sym (rw (eq-eqb v.number 0 z))

  pub err-answered : (v.number ≡ 0 → ⊥) → Err v ≡ answered v x
  err-answered h = sym (rw (ne_eqb v.number 0 h))

  pub answered-ok : (y : T) → Ok y ≡ answered v x → (v.number ≡ 0) × (y ≡ x)
  answered-ok y e = by-test (eqb v.number 0) refl e
    where
      by-test : (t : Bool) → eqb v.number 0 ≡ t → ◌≡◌ {A = Result T Verdict} (Ok y) (pick t (Ok x) (Err v)) → (v.number ≡ 0) × (y ≡ x)
      by-test true q k = (eqb-true v.number 0 q, cc)
      by-test false q k = absurd (cc)

  pub answered-err : (w : Verdict) → Err w ≡ answered v x → (v.number ≡ 0 → ⊥) × (w ≡ v)
  answered-err w e = by-test (eqb v.number 0) refl e
    where
      by-test : (t : Bool) → eqb v.number 0 ≡ t → ◌≡◌ {A = Result T Verdict} (Err w) (pick t (Ok x) (Err v)) → (v.number ≡ 0 → ⊥) × (w ≡ v)
      by-test true q k = absurd (cc)
      by-test false q k = (eqb-false v.number 0 q, cc)

-- refused, whatever it would answer
pub err-other : {S T : Type 0} (v : Verdict) (y : S) (x : T) (w : Verdict) → Err w ≡ answered v y → Err w ≡ answered v x
err-other v y x w e = let r = answered-err v y w e in rw r.1 (err-answered v x r.0)

-- the first of two refuses, or the second answers
module _ {S T : Type 0} (v w : Verdict) (y : S) (x : T) where
  pub then_err : (u : Verdict) → Err u ≡ answered v y → Err u ≡ answered (v then w) x
  then_err u e =
      let r = answered-err v y u e in
      rw (then-refused v w r.0) (err-other v y x u e)

  pub then_ok : (z : S) → Ok z ≡ answered v y → answered w x ≡ answered (v then w) x
  then_ok z e = rw (then-accepted v w (answered-ok v y z e).0)

-- or else another answer
pub or-else : {T : Type 0} (r : Result T Refused) (v : Verdict) (x y : T) → by_number r ≡ answered v x → result_unwrap_or r y ≡ pick (eqb v.number 0) x y
or-else (Ok z) v x y e = let a = answered-ok v x z e in rw (eq-eqb v.number 0 a.0) a.1
or-else (Err d) v x y e = let a = answered-err v x (told_by d) e in rw (ne_eqb v.number 0 a.0)
