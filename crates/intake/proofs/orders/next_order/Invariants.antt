use Rattle.std.proofs.Common.{◌≡◌, length}
use Rattle.page.specs.Rows.{visible_rows, rows_at}
use Rattle.intake.specs.Places.{places_from}
use Rattle.intake.proofs.orders.next_order.Given as goal

abbrev pub invariant-loop-row : goal.invariant-loop-row
invariant-loop-row l = places_from l.pages l.i l.k ≡ places_from l.pages l.fn.index l.fn.slot

abbrev pub decreases-loop-row : goal.decreases-loop-row
decreases-loop-row l = length (rows_at l.i l.k (visible_rows l.pages))
