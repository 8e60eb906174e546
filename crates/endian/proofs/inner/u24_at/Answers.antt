use Rattle.std.proofs.Common.{◌+◌, arith}
use Rattle.endian.proofs.Numbers.{number-split}
use Rattle.endian.proofs.Places.{number-byte}
use Rattle.endian.proofs.inner.u24_at.Goals as goal

pub returns : goal.returns
returns c =
    let at = c.args.at in
    let s = c.args.s.now in
    omega (arith, number-split 2 1 at s, number-split 1 1 at s, number-byte at s, number-byte (at + 1) s, number-byte (at + 2) s)
