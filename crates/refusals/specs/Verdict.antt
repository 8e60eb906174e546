-- A verdict: a refusal's number and place, or number 0 (paper 01, Numbers given back).
use Rattle.std.specs.Prelude.{ℕ, Result, Ok, Err, eqb}
use Rattle.endian.specs.Pick.{pick}
use Rattle.refusals.specs.declared.Refusal.{Refusal}
use Rattle.refusals.specs.declared.Refused.{Refused}
use Rattle.refusals.specs.declared.Verdict.{Verdict}
use Rattle.refusals.specs.Refusal.{number_of}

abbrev pub verdict : ℕ → ℕ → Verdict
verdict n at = record { number = n; place = at }

abbrev pub accepted : Verdict
accepted = verdict 0 0

-- the first of two that refuses
abbrev pub ◌then◌ : Verdict → Verdict → Verdict
v then w = pick (eqb v.number 0) w v

infixr 20 ◌then◌
-- the verdict that an error tells of
abbrev pub told_by : Refused → Verdict
told_by e = verdict (number_of e.refusal) e.place

-- the verdict that a result tells of
abbrev pub told : {T : Type 0} → Result T Refused → Verdict
told (Ok x) = accepted
told (Err e) = told_by e

-- the number of the refusal that a result tells of, 0 for none
abbrev pub fault_number : {T : Type 0} → Result T Refusal → ℕ
fault_number (Ok x) = 0
fault_number (Err e) = number_of e

-- a result, its error as a verdict
abbrev pub by_number : {T : Type 0} → Result T Refused → Result T Verdict
by_number (Ok x) = Ok x
by_number (Err e) = Err (told_by e)

-- what is answered where a verdict accepts
abbrev pub answered : {T : Type 0} → Verdict → T → Result T Verdict
answered v x = pick (eqb v.number 0) (Ok x) (Err v)
