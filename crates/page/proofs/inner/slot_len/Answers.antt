use Rattle.std.proofs.Common.{◌∙◌}
use borrow.Author.Rules.{rules}
use Rattle.page.proofs.Reading.{len-at}
use Rattle.page.proofs.inner.slot_len.Goals as goal

pub returns : goal.returns
returns c = (c.u16_at.ensures ∙ len-at _ _, search rules)
