use Rattle.crc32c.specs.Sparse.{buffer_bytes, Filled, Room}
use Rattle.crc32c.proofs.inner.fill.Given as goal

abbrev pub invariant-loop-j : goal.invariant-loop-j
invariant-loop-j l = Room buffer_bytes l.p × Filled 2 l.j l.fn.p l.s l.p
