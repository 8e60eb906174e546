use Rattle.std.proofs.Common.{arith}
use Rattle.endian.proofs.Places.{set-byte}
use Rattle.endian.proofs.inner.put_u8.Goals as goal

pub returns : goal.returns
returns c = set-byte c.args.s.now c.args.at c.args.n (omega arith) c.ranges.n.fits
