-- No entry before `at` breaks one of these rules, and while the walk is sure none breaks rule 8.
use Rattle.std.proofs.Common.{◌-◌, length}
use Rattle.order.specs.First.{full_of}
use Rattle.order.specs.Scanning.{Scanning}
use Rattle.order.specs.Turns.{TurningAfter}
use Rattle.order.proofs.inner.scan.scan.Given as goal

abbrev pub invariant-loop-v : goal.invariant-loop-v
invariant-loop-v l = record { scanning : Scanning (full_of l.records) l.log l.at l.seen; turning : TurningAfter l.log l.at l.turns l.opens }

abbrev pub decreases-loop-v : goal.decreases-loop-v
decreases-loop-v l = length l.log - l.at
