-- The search for a table's row: its test as code makes it, and that the answer is the first such row, or none exactly when there is none.
-- Assumes nothing.
use mathlib.Core.Path.{◌≡◌, sym, ap, ◌∙◌}
use mathlib.Core.Bool.{true, false}
use Prim.Native.Nat.{ℕ, ◌+◌, ◌-◌}
use mathlib.Core.List.{List}
use lib.Dec.{eqb}
use lib.ListN.{take, drop}
use borrow.Author.Tests.{eq-eqb, ne_eqb}
use Rattle.page.specs.Layout.{page_at, slot_at, payload_of}
use Rattle.page.specs.Fault.{verdict_of}
use Rattle.page.specs.Rows.{visible, searched, row, visible_rows, at_or_after, row_payload, first_with}
use Rattle.page.specs.declared.Row.{Row}
use Rattle.page.proofs.ListedRows.{InSlot, Standing}
use Rattle.page.proofs.Searching.{none_is, is-none, found-is, found_first}
use Rattle.std.specs.Prelude.{Option, Some, None, Ok, Err}
use Rattle.refusals.specs.declared.Refused.{Refused}
use Rattle.refusals.proofs.Told.{some-number}
use Rattle.catalog.specs.TableRows.{RowAnswer, answer_of, row_of}
use Rattle.catalog.specs.declared.TableRow.{TableRow}
use Rattle.catalog.specs.Search.{has_table, names_table, table_found}

-- what is read of a row that stands
module _ (table : ℕ) (s : List ℕ) (r : Row) (stands : Standing s r) where
  as_read : (a : RowAnswer) → a ≡ row_of (take (r.offset + r.length - (r.offset + 24)) (drop (r.offset + 24) s)) → has_table table a ≡ names_table table s r
  as_read a is = ap (has_table table) (is ∙ ap row_of stands.payload)

  pub unreadable : (e : Refused) → answer_of (Err e) ≡ row_of (take (r.offset + r.length - (r.offset + 24)) (drop (r.offset + 24) s)) → false ≡ names_table table s r
  unfolding has_table
  unreadable e is = rw (ne_eqb _ 0 (some-number e.refusal)) at (as_read (answer_of (Err e)) is)

  pub by-id : (found : TableRow) → answer_of (Ok found) ≡ row_of (take (r.offset + r.length - (r.offset + 24)) (drop (r.offset + 24) s)) → eqb found.table table ≡ names_table table s r
  unfolding has_table
  by-id found is = as_read (answer_of (Ok found)) is

-- ---- what the search gives, on pages that verification accepts

module _ (magic : ℕ) (s : List ℕ) (table : ℕ) (ok : (verdict_of magic s).number ≡ 0) where
  taken : table_found magic s table ≡ Ok (first_with (names_table table s) (visible_rows s))
  unfolding table_found searched
  taken = rw (eq-eqb _ _ ok)

  first_is : (o : Option Row) → table_found magic s table ≡ Ok o → first_with (names_table table s) (visible_rows s) ≡ o
  first_is o e = let q = sym taken ∙ e in cc

  -- none exactly when there is none
  pub none-there : table_found magic s table ≡ Ok None → (i k : ℕ) → InSlot visible s i k → has_table table (row_of (payload_of (slot_at (page_at i s) k))) ≡ false
  none-there e = none_is (names_table table s) s (first_is None e)

  pub there-none : ((i k : ℕ) → InSlot visible s i k → has_table table (row_of (payload_of (slot_at (page_at i s) k))) ≡ false) → table_found magic s table ≡ Ok None
  there-none h = taken ∙ ap Ok (is-none (names_table table s) s h)

  module _ (r : Row) (found : table_found magic s table ≡ Ok (Some r)) where
    -- a row that is given is visible, readable and has that id
    pub found-there : InSlot visible s r.page.0 r.slot × (has_table table (row_of (row_payload s r)) ≡ true)
    found-there = let f = found-is (names_table table s) s r (first_is (Some r) found) in (f.1, f.2)

    -- and no earlier one is
    pub found-earliest : (i k : ℕ) → InSlot visible s i k → has_table table (row_of (payload_of (slot_at (page_at i s) k))) ≡ true → at_or_after r.page.0 r.slot (row i k (page_at i s)) ≡ true
    found-earliest = found_first (names_table table s) s r (first_is (Some r) found)
