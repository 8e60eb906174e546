use Rattle.std.proofs.Common.{◌≡◌, ◌*◌, ◌≤◌, take}
use Rattle.endian.specs.Numbers.{Bytes}
use Rattle.page.specs.FreeMap.{ones_of}
use Rattle.page.proofs.inner.ones.Given as goal

abbrev pub invariant-loop-w : goal.invariant-loop-w
invariant-loop-w l = record { bytes : Bytes l.map; low : l.total ≤ 64 * l.w; counted : l.total ≡ ones_of (take (8 * l.w) l.map) }
