use mathlib.Core.Path.{◌∙◌}
use Rattle.refusals.proofs.Told.{handed-on}
use Rattle.summary.proofs.RowLaws.{numbered-refused, numbered-past, numbered-there}
use Rattle.summary.proofs.row.Goals as goal

pub returns-in_err-s : goal.returns-in_err-s
returns-in_err-s c = handed-on _ _ c.from_residual.ensures.1 ∙ numbered-refused c.args.file.now c.args.n _ c.in_err-s.ensures

pub returns-then-s-n : goal.returns-then-s-n
returns-then-s-n c = numbered-past c.args.file.now c.args.n c.in_ok-s.s c.in_ok-s.ensures c.if-s-n.true

pub returns : goal.returns
returns c = numbered-there c.args.file.now c.args.n c.in_ok-s.s c.in_ok-s.ensures c.if-s-n.false c.nth.result c.nth.ensures
