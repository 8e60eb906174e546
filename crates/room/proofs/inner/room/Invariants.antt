-- The sum is what the slots passed and their tuples need.
use Rattle.room.proofs.Summing.{Summing}
use Rattle.room.proofs.inner.room.Given as goal

abbrev pub invariant-loop-k : goal.invariant-loop-k
invariant-loop-k l = Summing l.slots.log.now l.slots.page.now l.slots.i l.k l.sum
