use Rattle.std.proofs.Common.{◌+◌}
use Rattle.endian.proofs.Places.{number-byte}
use Rattle.wal.proofs.inner.fields_at.Goals as goal

pub returns : goal.returns
returns c = cc (number-byte (c.args.place + 20) c.args.log.now)
