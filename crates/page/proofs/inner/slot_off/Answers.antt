use Rattle.std.proofs.Common.{◌∙◌}
use borrow.Author.Rules.{rules}
use Rattle.page.proofs.Reading.{off_at}
use Rattle.page.proofs.inner.slot_off.Goals as goal

pub returns : goal.returns
returns c = (c.u16_at.ensures ∙ off_at _ _, search rules)
