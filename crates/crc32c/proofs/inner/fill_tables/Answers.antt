use Rattle.std.proofs.Common.{arith, length-set}
use Rattle.crc32c.proofs.Filled.{more, first}
use Rattle.crc32c.proofs.inner.fill_tables.Goals as goal

pub first-preserved : goal.first-preserved
first-preserved c =
    let l = c.first in
    (simp length-set l.invariant.0, more l.words l.n c.byte.result (omega arith) (first l.n c.byte.result (omega arith) c.byte.ensures) l.invariant.1)
