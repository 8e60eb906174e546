use Rattle.std.proofs.Common.{◌≡◌, ◌+◌, arith, refl, length, slice_index_or}
use Rattle.crc32c.specs.Sparse.{history_bytes, buffer_bytes, pull}
use Rattle.crc32c.proofs.Stores.{filled_more, room-set, byte-xor, pull-lt}
use Rattle.crc32c.proofs.inner.fill.Goals as goal

pub loop-j-preserved : goal.loop-j-preserved
unfolding pull
loop-j-preserved c =
    let l = c.loop-j in
    let r = l.invariant.0 in
    let z : length l.p ≡ buffer_bytes = r.size in (
      room-set (l.j + history_bytes) _ (byte-xor (c.type_inv.s l.j).fits (pull-lt 2 (λ i. slice_index_or l.p i 0) l.j (λ i. r.bytes.at i))) r,
      filled_more 2 l.j _ _ _ l.p (omega arith) (omega arith) refl l.invariant.1,
    )
