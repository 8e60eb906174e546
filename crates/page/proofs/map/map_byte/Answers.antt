use mathlib.Core.Path.{refl}
use Rattle.std.proofs.Common.{◌-◌, ◌≤◌, arith}
use Rattle.page.specs.FreeMap.{bits}
use Rattle.page.proofs.Mapping.{bits-seven, bits-more}
use Rattle.page.proofs.map.map_byte.Goals as goal

pub loop-j-init : goal.loop-j-init
unfolding bits
loop-j-init c = refl

pub overflow_mul-b : goal.overflow_mul-b
overflow_mul-b c =
    let small : c.loop-j.b ≤ 127 = rw c.loop-j.invariant (bits-seven _ (8 - c.loop-j.j) _ (omega arith)) in
    record { fits = omega arith }

pub overflow_add-b : goal.overflow_add-b
overflow_add-b c =
    let small : c.loop-j.b ≤ 127 = rw c.loop-j.invariant (bits-seven _ (8 - c.loop-j.j) _ (omega arith)) in
    record { fits = omega (arith, c.free_bit.ensures.1) }

pub loop-j-preserved : goal.loop-j-preserved
loop-j-preserved c = rw (c.loop-j.invariant, c.free_bit.ensures.0) (bits-more _ _ c.loop-j.j (omega arith) (omega arith))
