use Rattle.std.proofs.Common.{arith}
use Rattle.order.proofs.Tellings.{telling}
use Rattle.order.proofs.inner.block.tested.Goals as goal

pub invariant_of-block : goal.invariant_of-block
invariant_of-block c = record { telling = telling c.args.b.stop c.requires.blocked (omega arith) }
