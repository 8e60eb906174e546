use Rattle.std.proofs.Common.{◌-◌}
use Rattle.clash.specs.Group.{Group}
use Rattle.clash.proofs.FirstLaws.{Sweeping}
use Rattle.clash.proofs.inner.clash_in.Given as goal

abbrev pub invariant-loop-at : goal.invariant-loop-at
invariant-loop-at l = Sweeping l.log l.opens l.limit l.lo l.hi l.at × Group l.log l.starts l.space l.limit l.lo l.hi l.at

abbrev pub decreases-loop-at : goal.decreases-loop-at
decreases-loop-at l = l.limit - l.at
