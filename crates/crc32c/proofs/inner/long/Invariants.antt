use Rattle.std.proofs.Common.{◌≡◌, ◌*◌, ◌-◌, ◌++◌, length, take, drop}
use Rattle.crc32c.specs.Crc.{fed}
use Rattle.crc32c.specs.Sparse.{carried, chunk_bytes, ending_bytes, buffer_bytes, Room}
use Rattle.crc32c.proofs.inner.long.Given as goal

abbrev pub invariant-loop-x : goal.invariant-loop-x
invariant-loop-x l = Room buffer_bytes l.p × (carried l.p (drop (l.x-index * chunk_bytes) (take (length l.s - ending_bytes) l.s) ++ l.ending) ≡ fed l.fn.c l.s)
