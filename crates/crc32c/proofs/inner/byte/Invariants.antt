use Rattle.std.proofs.Common.{◌≡◌, ◌-◌}
use Rattle.crc32c.specs.Crc.{shifts}
use Rattle.crc32c.proofs.inner.byte.Given as goal

abbrev pub invariant-loop : goal.invariant-loop
invariant-loop l = shifts (8 - l.counter) l.r ≡ shifts 8 l.x
