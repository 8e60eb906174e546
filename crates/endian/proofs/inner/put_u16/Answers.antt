use Rattle.endian.proofs.Places.{stored-two}
use Rattle.endian.proofs.inner.put_u16.Goals as goal

pub returns : goal.returns
returns c = stored-two _ _ _ c.requires c.ranges.n.fits
