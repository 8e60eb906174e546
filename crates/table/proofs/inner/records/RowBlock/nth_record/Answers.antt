-- The row of a record is read from the block that has it.
use Rattle.std.proofs.Common.{arith}
use Rattle.table.proofs.Holding.{row-outcome, row-record, row-held}
use Rattle.table.proofs.inner.records.RowBlock.nth_record.Goals as goal

pub overflow_cast-result : goal.overflow_cast-result
overflow_cast-result c =
    let e = c.ready-j.ensures in
    record { fits = omega (arith, row-outcome _ _ e.0 e.1 e.2 c.row_at-r.result c.row_at-r.ensures) }

pub returns : goal.returns
returns c =
    let e = c.ready-j.ensures in
    (row-record _ _ e.0 e.1 e.2 c.row_at-r.result c.row_at-r.ensures, row-held _ _ e.0 e.1 e.2)
