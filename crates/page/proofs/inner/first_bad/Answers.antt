use mathlib.Core.Path.{sym, ap, ◌∙◌}
use Rattle.std.proofs.Common.{arith}
use Rattle.refusals.proofs.Told.{told-on}
use Rattle.page.specs.Fault.{late_of, page_verdict}
use Rattle.page.proofs.Verdicts.{bad-err, bad-ok, bad-end}
use Rattle.page.proofs.inner.first_bad.Goals as goal

pub returns-in_err-page_verdict : goal.returns-in_err-page_verdict
returns-in_err-page_verdict c =
    let e = c.page_verdict.ensures ∙ ap (page_verdict (late_of c.args.known) c.args.magic c.loop-i.i) c.page_at.ensures.bytes in
    told-on _ _ c.from_residual.ensures.1 ∙ bad-err _ _ _ _ c.loop-i.i (omega arith) e c.in_err-page_verdict.was ∙ c.loop-i.invariant

pub loop-i-preserved : goal.loop-i-preserved
loop-i-preserved c =
    let e = c.page_verdict.ensures ∙ ap (page_verdict (late_of c.args.known) c.args.magic c.loop-i.i) c.page_at.ensures.bytes in
    bad-ok _ _ _ _ c.loop-i.i (omega arith) e c.in_ok-page_verdict.was ∙ c.loop-i.invariant

pub returns : goal.returns
returns c = sym (bad-end _ _ _ _ c.loop-i.i (omega arith)) ∙ c.loop-i.invariant
