-- Of the entries before `at`, the arrays hold what they must.
use Rattle.std.proofs.Common.{◌≤◌, ◌-◌, length}
use Rattle.wal.specs.Prefix.{Met}
use Rattle.order.specs.Blocks.{Gathered}
use Rattle.order.proofs.inner.block.collect.Given as goal

abbrev pub invariant-loop-v : goal.invariant-loop-v
invariant-loop-v l = record {
  roomy : (2 ≤ length l.begins) × (2 ≤ length l.ends);
  met : Met l.log l.at;
  low : l.at ≤ l.stop;
  gathered : Gathered l.log l.lo.0 l.at l.held l.begins l.ends;
}

abbrev pub decreases-loop-v : goal.decreases-loop-v
decreases-loop-v l = l.stop - l.at
