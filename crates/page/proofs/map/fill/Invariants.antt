use Rattle.std.proofs.Common.{◌≡◌, ◌++◌, drop}
use Rattle.page.specs.FreeMap.{map_bytes}
use Rattle.page.proofs.map.fill.Given as goal

abbrev pub invariant-loop-m : goal.invariant-loop-m
invariant-loop-m l = l.map ≡ map_bytes l.pages l.m 0 ++ drop l.m l.fn.map
