use Rattle.std.proofs.Common.{◌≡◌, ◌≤◌, length, take}
use Rattle.index.specs.Collect.{Lowered}
use Rattle.index.proofs.inner.collect.fill.Given as goal

-- of the places passed, the array holds the first of each number of the range
abbrev pub invariant-loop-p : goal.invariant-loop-p
invariant-loop-p l = (length l.a ≡ length l.fn.a) × (l.held.len ≤ length l.a) × Lowered l.log l.lo.0 18446744073709551615 (take l.p-index l.places) l.held.hi.0 (take l.held.len l.a)
