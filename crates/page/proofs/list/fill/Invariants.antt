use Rattle.std.proofs.Common.{length}
use Rattle.page.specs.Rows.{shown, rows_of, rows_at}
use Rattle.page.proofs.RowLists.{Given}
use Rattle.page.proofs.list.fill.Given as goal

abbrev pub invariant-loop-row : goal.invariant-loop-row
invariant-loop-row l = Given (shown l.live) l.pages l.fn.out l.index l.slot l.i l.k l.m l.out

abbrev pub decreases-loop-row : goal.decreases-loop-row
decreases-loop-row l = length (rows_at l.i l.k (rows_of (shown l.live) l.pages))
