use mathlib.Core.Path.{◌∙◌}
use Rattle.summary.specs.Number.{any_number}
use Rattle.summary.specs.Summary.{row_step}
use Rattle.refusals.proofs.Told.{handed-on}
use Rattle.summary.proofs.Threes.{first-refused, second-refused, third-refused, all-taken}
use Rattle.summary.proofs.reader.unjudged_row.Goals as goal

pub returns-in_err-p : goal.returns-in_err-p
returns-in_err-p c =
    handed-on _ _ c.from_residual.ensures.1
    ∙ first-refused any_number (λ n. any_number) any_number c.args.file.now c.args.at (row_step c.args.file.now c.args.at) _ c.in_err-p.ensures

pub returns-in_err-s : goal.returns-in_err-s
returns-in_err-s c =
    handed-on _ _ c.from_residual-in_err-s.ensures.1
    ∙ second-refused any_number (λ n. any_number) any_number c.args.file.now c.args.at (row_step c.args.file.now c.args.at) c.in_ok-p.p c.in_ok-p.ensures _ c.in_err-s.ensures

pub returns-in_err-l : goal.returns-in_err-l
returns-in_err-l c =
    handed-on _ _ c.from_residual-in_err-l.ensures.1
    ∙ third-refused any_number (λ n. any_number) any_number c.args.file.now c.args.at (row_step c.args.file.now c.args.at) c.in_ok-p.p c.in_ok-p.ensures c.in_ok-s.s c.in_ok-s.ensures _ c.in_err-l.ensures

pub returns : goal.returns
returns c =
    let t = all-taken any_number (λ n. any_number) any_number c.args.file.now c.args.at (row_step c.args.file.now c.args.at) c.in_ok-p.p c.in_ok-p.ensures c.in_ok-s.s c.in_ok-s.ensures c.in_ok-l.l c.in_ok-l.ensures in
    rw (t.value₁, t.value₂, t.value₃, t.after₃) t.answer
