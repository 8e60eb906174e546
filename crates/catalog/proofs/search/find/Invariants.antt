-- The rows from slot k of page i on are searched as all are.
use Rattle.std.proofs.Common.{◌≡◌, length}
use Rattle.page.specs.Rows.{visible_rows, rows_at, first_with}
use Rattle.catalog.specs.Search.{names_table}
use Rattle.catalog.proofs.search.find.Given as goal

abbrev pub invariant-loop-row : goal.invariant-loop-row
invariant-loop-row l = first_with (names_table l.table l.pages) (rows_at l.i l.k (visible_rows l.pages)) ≡ first_with (names_table l.table l.pages) (visible_rows l.pages)

abbrev pub decreases-loop-row : goal.decreases-loop-row
decreases-loop-row l = length (rows_at l.i l.k (visible_rows l.pages))
