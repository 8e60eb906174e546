-- The slots passed are packed.
use Rattle.std.proofs.Common.{◌≡◌, length}
use Rattle.page.proofs.Packing.{Packing}
use Rattle.mend.proofs.Filling.{wanted}
use Rattle.mend.proofs.inner.fill.Given as goal

abbrev pub invariant-loop-k : goal.invariant-loop-k
invariant-loop-k l = (length l.work ≡ length l.fn.work) × Packing l.work l.k l.top (wanted l.slots.log.now l.slots.i l.slots.page.now)
