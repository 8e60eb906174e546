use Rattle.std.proofs.Common.{◌∙◌}
use Rattle.page.proofs.SlotLaws.{fine-empty, fine-tuple}
use Rattle.page.proofs.faults.slot_fits.Goals as goal

pub returns-then-o-n-eq0 : goal.returns-then-o-n-eq0
returns-then-o-n-eq0 c = fine-empty _ _ _ _ _ c.slot_off-o.ensures.0 c.slot_len-n.ensures.0 c.if-o-n-eq0.true

pub returns : goal.returns
returns c = c.tuple_fits.ensures ∙ fine-tuple _ _ _ _ _ c.slot_off-o.ensures.0 c.slot_len-n.ensures.0 c.if-o-n-eq0.false
