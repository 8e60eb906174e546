use Rattle.std.proofs.Common.{length}
use Rattle.intake.specs.Places.{mark_at, places_from}
use Rattle.intake.proofs.Scanning.{Scan}
use Rattle.intake.proofs.pairs.pass.Given as goal

-- the best pair is the least of the orders passed
abbrev pub invariant-loop-n : goal.invariant-loop-n
invariant-loop-n l = Scan (mark_at l.pages) l.a (places_from l.pages l.fn.index l.fn.slot) (places_from l.pages l.i l.k) l.best

abbrev pub decreases-loop-n : goal.decreases-loop-n
decreases-loop-n l = length (places_from l.pages l.i l.k)
