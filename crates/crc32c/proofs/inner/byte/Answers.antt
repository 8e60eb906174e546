use Rattle.std.proofs.Common.{arith}
use Rattle.crc32c.proofs.Filled.{bit, bits}
use Rattle.crc32c.proofs.inner.byte.Goals as goal

pub loop-preserved : goal.loop-preserved
loop-preserved c = bit c.loop.counter c.loop.r _ (omega arith) c.loop.invariant

pub returns : goal.returns
returns c = bits c.loop.counter c.loop.r _ (omega arith) c.loop.invariant
