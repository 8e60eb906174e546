use mathlib.Core.Path.{◌≡◌, sym, ap, ap₂, ◌∙◌}
use Prim.Native.Nat.{ℕ, suc, ◌+◌, ◌-◌}
use native.Mathlib.Omega.{arith}
use lib.ListN.{get_or}
use Rattle.summary.specs.Summary.{step_rows, no_row}
use Rattle.summary.specs.declared.SummaryStep.{SummaryStep}
use Rattle.summary.proofs.RowLaws.{nth-more, nth_last}
use Rattle.summary.proofs.reader.nth.Goals as goal

pub loop-init : goal.loop-init
loop-init c =
    let e : c.args.n - 0 ≡ c.args.n = omega arith in
    ap (λ (n : ℕ). get_or (step_rows (suc n) c.args.file.now c.args.first) n no_row) e

pub loop-preserved : goal.loop-preserved
loop-preserved c =
    let e : c.args.n - (c.loop.counter + 1) ≡ c.args.n - c.loop.counter - 1 = omega arith in
    ap₂ (λ (n p : ℕ). get_or (step_rows (suc n) c.args.file.now p) n no_row) e (ap (λ (s : SummaryStep). s.after) c.step-at.ensures)
    ∙ sym (nth-more c.args.file.now c.loop.at (c.args.n - c.loop.counter) (omega arith))
    ∙ c.loop.invariant

pub returns : goal.returns
returns c = ap (λ (s : SummaryStep). s.row) c.step.ensures ∙ sym (nth_last c.args.file.now c.loop.at (c.args.n - c.loop.counter) (omega arith)) ∙ c.loop.invariant
