use Rattle.std.proofs.Common.{◌≡◌, ◌+◌, length, replicate, slice_index_or, bit_xor}
use Rattle.crc32c.specs.Sparse.{last_bytes, Filled, Room}
use Rattle.crc32c.proofs.Stores.{Above, Below}
use Rattle.crc32c.proofs.inner.halve.Given as goal

abbrev pub invariant-fill : goal.invariant-fill
invariant-fill l = Room 592 l.p × Filled 1 l.j (replicate 592 0) l.s l.p × Above l.p (λ m. 0) (l.j + 209)

abbrev pub invariant-mix : goal.invariant-mix
invariant-mix l =
    (length l.o ≡ last_bytes)
    × Below l.o (λ m. bit_xor (slice_index_or l.s (m + last_bytes) 0) (bit_xor (slice_index_or l.p (m + 368) 0) (bit_xor (slice_index_or l.p (m + 278) 0) (bit_xor (slice_index_or l.p (m + 263) 0) (bit_xor (slice_index_or l.p (m + 238) 0) (slice_index_or l.p (m + last_bytes) 0)))))) l.i
