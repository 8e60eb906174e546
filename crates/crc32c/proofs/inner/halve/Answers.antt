use Rattle.std.proofs.Common.{◌≡◌, ◌+◌, arith, refl, length, length-set, slice_index_or}
use Rattle.crc32c.specs.Sparse.{last_bytes, pull}
use Rattle.crc32c.proofs.Sparse.{halved}
use Rattle.crc32c.proofs.Stores.{zeros-at, above_more, below_more, filled_none, filled_more, room-set, room-zeros, byte-xor, pull-lt}
use Rattle.crc32c.proofs.inner.halve.Goals as goal

pub fill-init : goal.fill-init
fill-init c = (room-zeros 592, filled_none 1 _ _, λ m l. zeros-at 592 m)

pub fill-preserved : goal.fill-preserved
unfolding pull
fill-preserved c =
    let l = c.fill in
    let r = l.invariant.0 in
    let z : length l.p ≡ 592 = r.size in (
      room-set (l.j + 209) _ (byte-xor (c.requires.bytes.at l.j) (pull-lt 1 (λ i. slice_index_or l.p i 0) l.j (λ i. r.bytes.at i))) r,
      filled_more 1 l.j _ _ _ l.p (omega arith) (omega arith) refl l.invariant.1,
      λ m b. above_more l.p (λ m. 0) (l.j + 209) _ l.invariant.2 m (omega arith),
    )

pub mix-preserved : goal.mix-preserved
mix-preserved c =
    let l = c.mix in
    let z : length l.o ≡ last_bytes = l.invariant.0 in
    (simp length-set z, below_more l.o _ l.i _ (omega arith) refl l.invariant.1)

pub returns : goal.returns
returns c =
    let l = c.mix in
    let k = c.fill in
    let j : k.j ≡ last_bytes = omega arith in
    halved _ k.p l.o k.invariant.0 c.requires.size l.invariant.0 (rw j at k.invariant.1) (λ m b. k.invariant.2 m (omega arith)) (λ m b. l.invariant.1 m (omega arith))
