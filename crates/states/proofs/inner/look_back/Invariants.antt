use Rattle.std.proofs.Common.{◌≡◌}
use Rattle.wal.specs.Prefix.{Met, before}
use Rattle.states.specs.State.{state_of}
use Rattle.states.proofs.inner.look_back.Given as goal

abbrev pub invariant-loop-v : goal.invariant-loop-v
invariant-loop-v l = Met l.log l.p × (state_of l.t.0 (before l.log l.p) ≡ state_of l.t.0 (before l.log l.place))

abbrev pub decreases-loop-v : goal.decreases-loop-v
decreases-loop-v l = l.p
