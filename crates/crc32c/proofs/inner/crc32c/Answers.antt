use Rattle.std.proofs.Common.{ap}
use Rattle.crc32c.specs.Crc.{crc32c, finished}
use Rattle.crc32c.proofs.inner.crc32c.Goals as goal

pub returns : goal.returns
unfolding crc32c finished
returns c = ap finished c.update.ensures
