use Rattle.std.proofs.Common.{◌≡◌, ◌-◌, length}
use Rattle.wal.specs.Walk.{views_from, end_from, end_of}
use Rattle.wal.proofs.inner.end_of.Given as goal

abbrev pub invariant-loop-v : goal.invariant-loop-v
invariant-loop-v l = end_from l.at (views_from l.log l.at) ≡ end_of l.log

abbrev pub decreases-loop-v : goal.decreases-loop-v
decreases-loop-v l = length l.log - l.at
