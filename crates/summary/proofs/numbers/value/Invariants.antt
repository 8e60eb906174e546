use Rattle.std.proofs.Common.{◌≡◌, ◌+◌, ◌-◌, ◌≤◌}
use Rattle.endian.specs.Numbers.{part}
use Rattle.summary.specs.Number.{value_of}
use Rattle.summary.proofs.numbers.value.Given as goal

abbrev pub invariant-loop-p : goal.invariant-loop-p
invariant-loop-p l = record { below : l.at ≤ l.p; above : l.p ≤ l.end + 1; so-far : l.n ≡ value_of (part l.p (l.end + 1 - l.p) l.file) }

abbrev pub decreases-loop-p : goal.decreases-loop-p
decreases-loop-p l = l.p - l.at
