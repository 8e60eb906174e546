use Rattle.std.proofs.Common.{refl, arith}
use Rattle.page.specs.FreeMap.{map_bytes}
use Rattle.page.proofs.Mapping.{byte-stored}
use Rattle.page.proofs.map.fill.Goals as goal

pub loop-m-init : goal.loop-m-init
unfolding map_bytes
loop-m-init c = refl

pub loop-m-preserved : goal.loop-m-preserved
loop-m-preserved c = rw (c.loop-m.invariant, c.map_byte.ensures) (byte-stored _ _ c.loop-m.m (omega arith))
