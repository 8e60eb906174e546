-- Refused or empty, the header is zero; else it is that of the tuple.
use Rattle.std.proofs.Common.{◌∙◌}
use Rattle.recovery.proofs.Heads.{tuple-empty, tuple-logged, tuple-paged}
use Rattle.recovery.proofs.Heads.{spot-head}
use Rattle.recovery.proofs.row.head.Goals as goal

pub returns-then-m-eq0 : goal.returns-then-m-eq0
returns-then-m-eq0 c = c.unfilled-then-m-eq0.ensures ∙ spot-head _ _ _ _ _ c.if-s-ne0.false (tuple-empty _ _ _ c.requires.lies c.if-m-eq0.true)

pub returns-in-Log : goal.returns-in-Log
returns-in-Log c = c.head_in.ensures ∙ spot-head _ _ _ _ _ c.if-s-ne0.false (tuple-logged _ _ _ c.in-Log.is)

pub returns-in-Page : goal.returns-in-Page
returns-in-Page c = c.head_in-in-Page.ensures ∙ spot-head _ _ _ _ _ c.if-s-ne0.false (tuple-paged _ _ _ c.in-Page.is)
