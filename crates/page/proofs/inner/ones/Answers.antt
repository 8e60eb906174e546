use mathlib.Core.Path.{◌≡◌, refl}
use Rattle.std.proofs.Common.{◌*◌, ◌+◌, ◌/◌, length, arith}
use Rattle.page.specs.FreeMap.{ones_of}
use Rattle.page.proofs.Mapping.{ones-next, ones-last, word_small}
use Rattle.page.proofs.inner.ones.Goals as goal

pub loop-w-init : goal.loop-w-init
unfolding ones_of
loop-w-init c = record { bytes = record { at = λ k. omega (arith, c.type_inv.map k) }; low = omega arith; counted = refl }

pub loop-w-preserved : goal.loop-w-preserved
loop-w-preserved c =
    let l = c.loop-w in
    let z : 8 * (l.w + 1) ≡ 8 * l.w + 8 = omega arith in
    record {
      bytes = l.invariant.bytes;
      low = rw c.u64_at.ensures (omega (arith, word_small l.invariant.bytes (8 * l.w)));
      counted = rw (c.u64_at.ensures, z) (ones-next l.invariant.bytes 8 (8 * l.w) l.total l.invariant.counted);
    }

pub returns : goal.returns
returns c =
    let z : length c.args.map.now / 8 ≡ c.loop-w.w = omega arith in
    rw (c.short_at.ensures, z) (ones-last c.loop-w.invariant.bytes (8 * c.loop-w.w) c.loop-w.total c.loop-w.invariant.counted)
