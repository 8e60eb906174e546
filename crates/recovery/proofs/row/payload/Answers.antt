-- The payload is cut out of the source.
use Rattle.std.proofs.Common.{sym, ◌∙◌}
use Rattle.recovery.proofs.RowLaws.{payload-none, payload-logged, payload-paged}
use Rattle.recovery.proofs.row.payload.Goals as goal

pub returns-then-m-eq0 : goal.returns-then-m-eq0
returns-then-m-eq0 c = sym (payload-none _ _ _ c.requires.lies c.if-m-eq0.true)

pub returns-in-Log : goal.returns-in-Log
returns-in-Log c = c.cut.ensures ∙ sym (payload-logged _ _ _ c.requires.lies c.requires.fact c.if-m-eq0.false c.in-Log.is)

pub returns-in-Page : goal.returns-in-Page
returns-in-Page c = c.cut-in-Page.ensures ∙ sym (payload-paged _ _ _ c.requires.lies c.requires.fact c.if-m-eq0.false c.in-Page.is)
