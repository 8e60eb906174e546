use Rattle.std.proofs.Common.{refl}
use Rattle.crc32c.specs.Crc.{finished}
use Rattle.crc32c.proofs.finish.Goals as goal

pub returns : goal.returns
unfolding finished
returns c = refl
