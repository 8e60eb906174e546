use mathlib.Core.Path.{sym, ap, ◌∙◌}
use Prim.Native.Nat.{ℕ, ◌+◌}
use native.Mathlib.Omega.{arith}
use Rattle.std.specs.Prelude.{Ok}
use Rattle.endian.specs.Numbers.{Bytes}
use Rattle.refusals.specs.Refusal.{number_of}
use Rattle.summary.specs.Inner.{Ends}
use Rattle.refusals.proofs.Told.{refused-at}
use Rattle.summary.proofs.Places.{taken, end-found, read-early, read-misspelt, value-fits, read-well, read-single}
use Rattle.summary.proofs.numbers.read.Goals as goal
use Rattle.summary.proofs.numbers.read.Goals.{In-Some}

bytes : (c : In-Some) → Bytes c.args.file.now
bytes c = record { at = λ i. (c.type_inv.file i).fits }

-- the last group is there
ends : (c : In-Some) → Ends c.args.file.now c.args.at c.in-Some.end
ends c = end-found c.args.file.now c.args.at c.in-Some.end c.in-Some.ensures

pub returns-then-file-at-lt128 : goal.returns-then-file-at-lt128
returns-then-file-at-lt128 c =
    ap (λ (v : ℕ). Ok (taken v (c.args.at + 1))) c.from.ensures
    ∙ read-single c.args.file.now c.args.at (record { at = λ i. (c.type_inv.file i).fits }) c.if-at-file.true c.if-file-at-lt128.true

pub returns-in_default : goal.returns-in_default
returns-in_default c = rw (refused-at c.at.result 28 c.args.at (ap number_of c.at.ensures.why) c.at.ensures.place) (read-early c.args.file.now c.args.at c.in_default.ensures)

pub is_misspelt-requires : goal.is_misspelt-requires
is_misspelt-requires c = ends c

pub returns-then-is_misspelt : goal.returns-then-is_misspelt
returns-then-is_misspelt c =
    let s = (goal.at.returns-then-is_misspelt c).In-Some in
    rw (refused-at c.at-then-is_misspelt.result 29 c.args.at (ap number_of c.at-then-is_misspelt.ensures.why) c.at-then-is_misspelt.ensures.place)
    (read-misspelt c.args.file.now c.args.at c.in-Some.end (bytes s) (ends s) (sym c.if-is_misspelt.ensures))

pub value-requires-clause-ends : goal.value-requires-clause-ends
value-requires-clause-ends c = ends (goal.at.value-requires-clause-ends c).In-Some

pub value-requires-clause-at_bound : goal.value-requires-clause-at_bound
value-requires-clause-at_bound c =
    let s = (goal.at.value-requires-clause-at_bound c).In-Some in
    value-fits c.args.file.now c.args.at c.in-Some.end (bytes s) (ends s) (sym c.if-is_misspelt.ensures)

pub overflow_add-result-2 : goal.overflow_add-result-2
overflow_add-result-2 c = record { fits = omega (arith, (ends (goal.at.overflow_add-result-2 c).In-Some).within) }

pub returns : goal.returns
returns c =
    let s = (goal.at.returns c).In-Some in
    ap (λ (v : ℕ). Ok (taken v (c.in-Some.end + 1))) c.value.ensures ∙ read-well c.args.file.now c.args.at c.in-Some.end (bytes s) (ends s) (sym c.if-is_misspelt.ensures)
