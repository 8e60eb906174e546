use Rattle.std.proofs.Common.{◌≡◌, ◌≤◌, min, length, drop}
use Rattle.endian.specs.Numbers.{number_of}
use Rattle.endian.proofs.inner.short_at.Given as goal

abbrev pub invariant-loop-i : goal.invariant-loop-i
invariant-loop-i l = (l.i ≤ length l.s) × (min l.at (length l.s) ≤ l.i) × (l.n ≡ number_of (drop l.i l.s))
