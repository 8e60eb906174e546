use Rattle.std.proofs.Common.{refl}
use Rattle.crc32c.proofs.Filled.{later}
use Rattle.crc32c.proofs.inner.entry.Goals as goal

pub returns : goal.returns
returns c = later c.args.words.now c.args.k _ c.requires.0 refl c.requires.2
