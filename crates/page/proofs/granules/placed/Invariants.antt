use Rattle.page.specs.Layout.{body_of}
use Rattle.page.specs.Granules.{Singly, Placed}
use Rattle.page.proofs.granules.placed.Given as goal

abbrev pub invariant-loop-k : goal.invariant-loop-k
invariant-loop-k l = Singly (body_of l.page) l.end l.k × Placed (body_of l.page) l.k l.grid
