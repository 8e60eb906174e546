use mathlib.Core.Path.{◌≡◌, sym, ap, ◌∙◌}
use Prim.Native.Nat.{ℕ, ◌+◌, ◌-◌}
use native.Mathlib.Omega.{arith}
use Rattle.refusals.specs.Refusal.{number_of}
use Rattle.summary.specs.Summary.{rows_verdict}
use Rattle.refusals.proofs.Told.{told-on, refused-at}
use Rattle.summary.proofs.RowLaws.{row-refused, row-passed, row_low, rows-left-over, rows_end}
use Rattle.summary.proofs.reader.judge.Goals as goal

pub loop-init : goal.loop-init
loop-init c = let e : c.args.count - 0 ≡ c.args.count = omega arith in ap (λ (n : ℕ). rows_verdict n 0 0 c.args.file.now c.args.first) e

pub returns-in_err-s : goal.returns-in_err-s
returns-in_err-s c =
    told-on _ _ c.from_residual.ensures.1
    ∙ row-refused c.loop.page c.loop.slot c.args.file.now c.loop.at (c.args.count - c.loop.counter) (omega arith) _ c.in_err-s.ensures
    ∙ c.loop.invariant

pub loop-preserved : goal.loop-preserved
loop-preserved c =
    let s = c.in_ok-s.s in
    let e : c.args.count - (c.loop.counter + 1) ≡ c.args.count - c.loop.counter - 1 = omega arith in
    ap (λ (n : ℕ). rows_verdict n s.row.page.0 (s.row.slot + 1) c.args.file.now s.after) e
    ∙ sym (row-passed c.loop.page c.loop.slot c.args.file.now c.loop.at s c.in_ok-s.ensures (c.args.count - c.loop.counter) (omega arith))
    ∙ c.loop.invariant

pub overflow_add-slot : goal.overflow_add-slot
overflow_add-slot c = record { fits = omega (arith, row_low c.loop.page c.loop.slot c.args.file.now c.loop.at c.in_ok-s.s c.in_ok-s.ensures) }

pub returns-then-at-file : goal.returns-then-at-file
returns-then-at-file c =
    refused-at c.at.result 33 c.loop.at (ap number_of c.at.ensures.why) c.at.ensures.place
    ∙ rows-left-over c.loop.page c.loop.slot c.args.file.now c.loop.at (c.args.count - c.loop.counter) (omega arith) c.if-at-file.true
    ∙ c.loop.invariant

pub returns : goal.returns
returns c = rows_end c.loop.page c.loop.slot c.args.file.now c.loop.at (c.args.count - c.loop.counter) (omega arith) c.if-at-file.false ∙ c.loop.invariant
