use Rattle.std.proofs.Common.{◌≡◌, length}
use Rattle.intake.specs.Places.{mark_at, places_from}
use Rattle.intake.specs.Blocks.{least_pair}
use Rattle.intake.proofs.pairs.least.Given as goal

-- the least pair of what is left is the least of all
abbrev pub invariant-loop-b : goal.invariant-loop-b
invariant-loop-b l = (least_pair (mark_at l.pages) (places_from l.pages l.i l.k) ≡ least_pair (mark_at l.pages) (places_from l.pages 0 0)) × (length l.a ≡ length l.fn.a)

abbrev pub decreases-loop-b : goal.decreases-loop-b
decreases-loop-b l = length (places_from l.pages l.i l.k)
