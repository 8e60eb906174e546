-- The search for a table's row (paper 02, W7): over visible rows, refused as their listing is (page Rows).
use Rattle.std.specs.Prelude.{ℕ, Bool, false, List, Option, Result, eqb}
use Rattle.endian.specs.Pick.{pick}
use Rattle.page.specs.Rows.{row_payload, searched}
use Rattle.page.specs.declared.Row.{Row}
use Rattle.refusals.specs.declared.Verdict.{Verdict}
use Rattle.catalog.specs.TableRows.{RowAnswer, row_of}

-- a row that was read is readable and has that table id
unfoldable pub has_table : ℕ → RowAnswer → Bool
has_table table r = pick (eqb r.verdict.number 0) (eqb r.table table) false

-- the payload of a visible row of a page area is such a row
abbrev pub names_table : ℕ → List ℕ → Row → Bool
names_table table s r = has_table table (row_of (row_payload s r))

-- the first visible row, in the order of the listing, with a readable payload and that table id
unfoldable pub table_found : ℕ → List ℕ → ℕ → Result (Option Row) Verdict
table_found magic s table = searched magic s (names_table table s)
