use Rattle.std.proofs.Common.{◌∙◌, sym, ap, true, length, arith}
use Rattle.page.proofs.RowLists.{row_next, row-none, row-stands}
use Rattle.page.proofs.Searching.{search-all, search-end, search-here, search-on}
use Rattle.page.proofs.Visibility.{empty}
use Rattle.catalog.proofs.search.find.Goals as goal

pub loop-row-init : goal.loop-row-init
loop-row-init c = search-all _ _

pub returns-in_err-row : goal.returns-in_err-row
returns-in_err-row c =
    let l = c.loop-row in
    rw c.from_residual.ensures (search-end _ _ l.i l.k (row-none _ _ l.i l.k (sym c.in_err-row.ensures)) ∙ l.invariant)

pub names_table-requires : goal.names_table-requires
names_table-requires c = row-stands _ (empty true) _ c.requires _ _ _ (sym c.in_ok-row.ensures)

pub returns-then-names_table : goal.returns-then-names_table
returns-then-names_table c =
    let l = c.loop-row in
    search-here _ _ l.i l.k _ (sym c.in_ok-row.ensures) (sym c.names_table.ensures ∙ c.if-names_table.true) ∙ l.invariant

pub overflow_add-k : goal.overflow_add-k
overflow_add-k c = record { fits = omega (arith, (row-stands _ (empty true) _ c.requires _ _ _ (sym c.in_ok-row.ensures)).low) }

pub loop-row-smaller : goal.loop-row-smaller
loop-row-smaller c = omega (arith, ap length (row_next _ _ _ _ _ (sym c.in_ok-row.ensures)))

pub loop-row-preserved : goal.loop-row-preserved
loop-row-preserved c =
    let l = c.loop-row in
    search-on _ _ l.i l.k _ (sym c.in_ok-row.ensures) (sym c.names_table.ensures ∙ c.if-names_table.false) ∙ l.invariant
