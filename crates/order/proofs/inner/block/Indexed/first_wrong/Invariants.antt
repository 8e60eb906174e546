-- No entry before `at` is wrong.
use Rattle.std.proofs.Common.{◌≤◌, ◌-◌}
use Rattle.order.specs.Blocks.{RightBefore}
use Rattle.order.proofs.inner.block.Indexed.first_wrong.Given as goal

abbrev pub invariant-loop-v : goal.invariant-loop-v
invariant-loop-v l = record { right : RightBefore l.self.log.now l.self.lo.0 l.self.hi.0 l.at; low : l.at ≤ l.stop }

abbrev pub decreases-loop-v : goal.decreases-loop-v
decreases-loop-v l = l.stop - l.at
