use Rattle.page.specs.Layout.{body_of}
use Rattle.page.proofs.SlotLaws.{Ordered}
use Rattle.page.proofs.faults.in_order.Given as goal

abbrev pub invariant-loop-k : goal.invariant-loop-k
invariant-loop-k l = Ordered (body_of l.page) l.end l.count l.k l.top
