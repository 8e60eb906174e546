-- Where recovery's tuple stands, and what the page holds.
use Rattle.std.proofs.Common.{◌∙◌}
use Rattle.audit.proofs.Slotwise.{agrees-by}
use Rattle.audit.proofs.pages.slot_agrees.Goals as goal

pub returns : goal.returns
returns c = c.same_tuple.ensures ∙ agrees-by _ _ _ c.image-m.ensures.stood c.kept_image-o.ensures.in_page c.kept_image-o.ensures.paged_at
