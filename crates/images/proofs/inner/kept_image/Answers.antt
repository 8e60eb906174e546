-- A slot past the count holds nothing, and another one what its offset and length say.
use Rattle.std.proofs.Common.{arith}
use Rattle.images.proofs.Kept.{kept-none, kept-some}
use Rattle.images.proofs.inner.kept_image.Goals as goal

pub returns-then-count-k-clause-in_page : goal.returns-then-count-k-clause-in_page
returns-then-count-k-clause-in_page c = (kept-none c.requires _ (omega arith) c.in_page.ensures).0

pub returns-clause-in_page : goal.returns-clause-in_page
returns-clause-in_page c = (kept-some c.requires _ (omega arith) c.slot_off.ensures.0 c.slot_len.ensures.0 c.in_page-2.ensures).0
