use Rattle.std.proofs.Common.{◌+◌, slice_index_or, bit_xor}
use Rattle.endian.specs.Numbers.{Bytes}
use Rattle.crc32c.specs.Sparse.{history_bytes, ending_bytes, pull, Room}
use Rattle.crc32c.proofs.Stores.{Above, Below}
use Rattle.crc32c.proofs.inner.mix.Given as goal

abbrev pub invariant-loop-j : goal.invariant-loop-j
invariant-loop-j l =
    Room ending_bytes l.o
    × Bytes l.z
    × Below l.z (λ m. slice_index_or l.p (m + l.n) 0) history_bytes
    × Above l.z (λ m. 0) history_bytes
    × Below l.o (λ m. bit_xor (slice_index_or l.s m 0) (pull 2 (λ i. slice_index_or l.z i 0) m)) l.j
