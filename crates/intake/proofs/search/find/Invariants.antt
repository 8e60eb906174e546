use Rattle.intake.specs.Places.{wide}
use Rattle.intake.proofs.Searching.{Gone}
use Rattle.intake.proofs.search.find.Given as goal

-- the pages before page i are good, and were gone over
abbrev pub invariant-loop-i : goal.invariant-loop-i
invariant-loop-i l = Gone l.magic l.pages (wide l.low l.high) l.i l.known
