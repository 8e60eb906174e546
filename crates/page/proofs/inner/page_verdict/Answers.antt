use mathlib.Core.Path.{sym, ap, ◌∙◌}
use Rattle.std.proofs.Common.{arith}
use Rattle.page.specs.Fault.{late_of}
use Rattle.page.proofs.Verdicts.{page-fault, page-late, fine-page}
use Rattle.page.proofs.FaultCases.{low-slot}
use Rattle.page.proofs.inner.page_verdict.Goals as goal

pub refused-requires : goal.refused-requires
refused-requires c = (omega arith, low-slot c.args.magic c.args.index c.args.page.now _ (sym c.in-Some.ensures))

pub returns-in-Some : goal.returns-in-Some
returns-in-Some c = page-fault _ _ _ _ _ c.refused.result (sym c.in-Some.ensures) c.refused.ensures

pub returns-then-is_late : goal.returns-then-is_late
returns-then-is_late c = rw (c.at.ensures.why, c.at.ensures.place) (page-late _ _ _ _ (sym c.fault.ensures ∙ c.in_default.is) (sym (c.is_late.ensures ∙ ap (late_of c.args.known) c.lsn.ensures) ∙ c.if-is_late.true))

pub returns : goal.returns
returns c = sym (fine-page _ _ _ _ (sym c.fault.ensures ∙ c.in_default.is) (sym (c.is_late.ensures ∙ ap (late_of c.args.known) c.lsn.ensures) ∙ c.if-is_late.false))
