-- What is still to come, from the present entry on, is the whole.
use Rattle.std.proofs.Common.{◌≡◌, ◌-◌}
use Rattle.wal.specs.Walk.{entries}
use Rattle.wal.specs.Prefix.{Met, onward}
use Rattle.rules.specs.Recover.{stray_from}
use Rattle.checks.proofs.inner.first_stray.Given as goal

abbrev pub invariant-loop-at : goal.invariant-loop-at
invariant-loop-at l = Met l.log l.at × (stray_from l.pages (entries l.log) 32 ≡ stray_from l.pages (onward l.log l.at) l.at)

abbrev pub decreases-loop-at : goal.decreases-loop-at
decreases-loop-at l = l.end - l.at
