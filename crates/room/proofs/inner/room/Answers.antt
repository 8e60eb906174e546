-- Each slot takes four bytes and those of its tuple.
use Rattle.std.proofs.Common.{arith}
use Rattle.room.proofs.Summing.{summing-none, summing-next, summing-all, slots-few}
use Rattle.room.proofs.inner.room.Goals as goal

pub loop-k-init : goal.loop-k-init
loop-k-init c = summing-none

pub overflow_add-sum-in-loop-k : goal.overflow_add-sum-in-loop-k
overflow_add-sum-in-loop-k c =
    omega (arith, c.loop-k.invariant.small, c.image.ensures.stood.lies.short, slots-few c.args.slots.now.decided c.requires.n_value c.requires.sound)

pub loop-k-preserved : goal.loop-k-preserved
loop-k-preserved c = summing-next c.loop-k.invariant c.image.ensures.stood

pub returns : goal.returns
returns c = summing-all c.requires.n_value (omega arith) c.loop-k.invariant
