use Rattle.std.proofs.Common.{◌≡◌, ◌-◌, ◌+◌}
use Rattle.page.specs.FreeMap.{bits}
use Rattle.page.proofs.map.map_byte.Given as goal

abbrev pub invariant-loop-j : goal.invariant-loop-j
invariant-loop-j l = l.b ≡ bits l.pages (8 - l.j) (l.i + l.j)
