use mathlib.Core.Path.{refl, ◌∙◌}
use Rattle.refusals.specs.Verdict.{accepted, told_by}
use Rattle.refusals.proofs.Told.{refused-some}
use Rattle.refusals.proofs.Told.{handed-on}
use Rattle.summary.proofs.RowLaws.{head-refused, file-refused, file-taken}
use Rattle.summary.proofs.read.Goals as goal

pub returns-in_err-s : goal.returns-in_err-s
returns-in_err-s c = handed-on _ _ c.from_residual.ensures.1 ∙ head-refused c.args.file.now _ c.in_err-s.ensures

pub returns-in_err-judge : goal.returns-in_err-judge
returns-in_err-judge c =
    let e = c.in_err-judge.field-0.0 in
    handed-on _ _ c.from_residual-in_err-judge.ensures.1 ∙ file-refused c.args.file.now c.in_ok-s.s c.in_ok-s.ensures (told_by e) c.in_err-judge.ensures (refused-some e)

pub returns : goal.returns
returns c = file-taken c.args.file.now c.in_ok-s.s c.in_ok-s.ensures accepted c.in_ok-judge.ensures refl
