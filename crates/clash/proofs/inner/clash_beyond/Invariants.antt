use Rattle.std.proofs.Common.{◌-◌, ◌^◌}
use Rattle.clash.proofs.FirstLaws.{Sweeping}
use Rattle.clash.proofs.inner.clash_beyond.Given as goal

abbrev pub invariant-loop-at : goal.invariant-loop-at
invariant-loop-at l = Sweeping l.log l.opens l.limit l.n (2 ^ 64) l.at

abbrev pub decreases-loop-at : goal.decreases-loop-at
decreases-loop-at l = l.limit - l.at
