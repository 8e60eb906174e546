use Rattle.std.proofs.Common.{ap, ◌∙◌}
use Rattle.crc32c.specs.Crc.{crc32c, finished}
use Rattle.crc32c.proofs.crc32c.Goals as goal

pub returns : goal.returns
unfolding crc32c
returns c = c.finish.ensures ∙ ap finished c.update.ensures
