-- What is still to be found from the present place on is what was to be found from the first.
use Rattle.std.proofs.Common.{◌≡◌, ◌-◌}
use Rattle.wal.specs.Prefix.{Met, onward}
use Rattle.fates.specs.Fate.{ending_of}
use Rattle.fates.proofs.inner.look.Given as goal

abbrev pub invariant-loop-at : goal.invariant-loop-at
invariant-loop-at l = record { met : Met l.log l.at; same : ending_of l.t.0 (onward l.log l.at) ≡ ending_of l.t.0 (onward l.log l.from) }

abbrev pub decreases-loop-at : goal.decreases-loop-at
decreases-loop-at l = l.end - l.at
