-- The block is made where it does not have the record.
use Rattle.std.proofs.Common.{arith}
use Rattle.wal.specs.Walk.{entries}
use Rattle.wal.proofs.Prefix.{met-first}
use Rattle.table.proofs.Flattening.{begun-length}
use Rattle.table.proofs.Holding.{held_small, begun_first, begun-next}
use Rattle.table.proofs.inner.records.RowBlock.ready.Goals as goal

pub load-requires-clause-met : goal.load-requires-clause-met
load-requires-clause-met c = met-first _

pub load-requires-clause-i_in_bounds : goal.load-requires-clause-i_in_bounds
load-requires-clause-i_in_bounds c = (omega (arith, c.requires.begun, begun-length (entries c.args.log.now)), begun_first _)

pub overflow_add-self : goal.overflow_add-self
overflow_add-self c = record { fits = held_small (c.requires.held (omega (arith, c.if-i-eq0.false))).held c.requires.short }

pub load-requires-2-clause-i_in_bounds : goal.load-requires-2-clause-i_in_bounds
load-requires-2-clause-i_in_bounds c =
    (omega (arith, c.requires.begun, begun-length (entries c.args.log.now)), begun-next (c.requires.held (omega (arith, c.if-i-eq0.false))) c.if-i-self.false)
