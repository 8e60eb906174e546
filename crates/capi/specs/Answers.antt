-- The numbers that each function of the C interface writes, in the order of include/lumbraquay.h.
use Rattle.std.specs.Prelude.{ℕ, List, [], ◌∷◌, ◌++◌, Bool, length, take, drop, Option, Some, None, Result, Ok, Err}
use Rattle.wal.specs.Read.{header_fault, read_at, found, read_before}
use Rattle.wal.specs.Reader.{opened_at, place_after, place_before}
use Rattle.wal.specs.declared.Reading.{Reading}
use Rattle.wal.specs.declared.Reading.TheVariants.{Whole, End, Torn, Unused, Damage}
use Rattle.wal.specs.declared.EntryView.{EntryView}
use Rattle.rules.specs.declared.Answer.{Answer}
use Rattle.rules.specs.Order.{one}
use Rattle.rules.specs.Row.{located_of}
use Rattle.rules.specs.declared.Located.{Located}
use Rattle.page.specs.Fault.{verdict_from, verdict_of}
use Rattle.page.specs.Rows.{next_row, numbers_of}
use Rattle.page.specs.FreeMap.{free_count}
use Rattle.refusals.specs.declared.Verdict.{Verdict}
use Rattle.page.specs.declared.Row.{Row}
use Rattle.page.specs.declared.RowList.{RowList}
use Rattle.catalog.specs.TableRows.{RowAnswer, WriteAnswer}
use Rattle.intake.specs.declared.Order.{Order}
use Rattle.intake.specs.declared.FoundOrder.{FoundOrder}
use Rattle.intake.specs.declared.RepeatedOrders.{RepeatedOrders}
use Rattle.rules.specs.Lent.{Lent}
use Rattle.audit.specs.declared.Finding.{Finding}
use Rattle.summary.specs.declared.Summary.{Summary}
use Rattle.summary.specs.declared.SummaryRow.{SummaryRow}
use Rattle.summary.specs.declared.SummaryStep.{SummaryStep}

-- lq_version
abbrev pub version : ℕ
version = 2

-- what a function leaves in the array that it is lent for its numbers: the first of them, as many as fit, and the rest of the array as it was
unfoldable pub given : List ℕ → List ℕ → List ℕ
given numbers out = take (length out) numbers ++ drop (length numbers) out

-- number and place of a refusal, 0 and 0 for none
abbrev pub verdict_numbers : Verdict → List ℕ
verdict_numbers v = v.number ∷ v.place ∷ []

-- then a number, 0 where it is refused
abbrev pub counted : Result ℕ Verdict → List ℕ
counted (Ok n) = 0 ∷ 0 ∷ n ∷ []
counted (Err v) = v.number ∷ v.place ∷ 0 ∷ []

-- ---- the log

-- lq_log_open: number, place
abbrev pub open_numbers : Bool → List ℕ → List ℕ
open_numbers end log = header_fault log ∷ opened_at end log ∷ []

-- kind of what a step finds: 0 entry, 1 exact end or none, 2 torn tail, 3 unused room, 4 damage
abbrev pub kind_forward : Reading → ℕ
kind_forward (Whole v) = 0
kind_forward End = 1
kind_forward Torn = 2
kind_forward Unused = 3
kind_forward Damage = 4

abbrev pub kind_backward : Option EntryView → ℕ
kind_backward (Some v) = 0
kind_backward None = 1

-- of an entry: offset, length, lsn, transaction, type, table, key length, old length, new length; zeros where there is none
abbrev pub entry_numbers : Option EntryView → List ℕ
entry_numbers (Some v) =
    v.place ∷ v.length ∷ v.lsn.0 ∷ v.txn.0 ∷ v.kind ∷ v.table ∷ v.key_len ∷ v.old_len ∷ v.new_len ∷ []
entry_numbers None = 0 ∷ 0 ∷ 0 ∷ 0 ∷ 0 ∷ 0 ∷ 0 ∷ 0 ∷ 0 ∷ []

-- kind, next place, then the entry's numbers
abbrev pub step_numbers : ℕ → ℕ → Option EntryView → List ℕ
step_numbers kind next e = kind ∷ next ∷ entry_numbers e

-- lq_log_forward
abbrev pub forward_numbers : List ℕ → ℕ → List ℕ
forward_numbers log p =
    let r = read_at log p in
    step_numbers (kind_forward r) (place_after r p) (found r)

-- lq_log_backward
abbrev pub backward_numbers : List ℕ → ℕ → List ℕ
backward_numbers log p =
    let r = read_before log p in
    step_numbers (kind_backward r) (place_before r p) r

-- ---- the pages

-- lq_verify: number, place
abbrev pub verify_numbers : ℕ → List ℕ → List ℕ
verify_numbers magic pages = verdict_numbers (verdict_of magic pages)

-- lq_verify_from: the same
abbrev pub verify_from_numbers : ℕ → List ℕ → ℕ → List ℕ
verify_from_numbers magic pages first = verdict_numbers (verdict_from magic pages first)

-- lq_next_visible: number, place, found, page, slot, tuple length, tuple offset in the page area
abbrev pub row_numbers : Result (Option Row) Verdict → List ℕ
row_numbers (Ok (Some r)) = 0 ∷ 0 ∷ 1 ∷ numbers_of r
row_numbers (Ok None) = 0 ∷ 0 ∷ 0 ∷ 0 ∷ 0 ∷ 0 ∷ 0 ∷ []
row_numbers (Err v) = v.number ∷ v.place ∷ 0 ∷ 0 ∷ 0 ∷ 0 ∷ 0 ∷ []

abbrev pub next_visible_numbers : ℕ → List ℕ → ℕ → ℕ → List ℕ
next_visible_numbers magic pages page slot = row_numbers (next_row magic pages page slot)

-- lq_list_visible, lq_list_cancelled: number, place, rows given, page and slot to go on from
abbrev pub list_numbers : Result RowList Verdict → List ℕ
list_numbers (Ok l) = 0 ∷ 0 ∷ l.count ∷ l.page.0 ∷ l.slot ∷ []
list_numbers (Err v) = v.number ∷ v.place ∷ 0 ∷ 0 ∷ 0 ∷ []

-- lq_free_map: number, place, free pages
abbrev pub free_map_numbers : ℕ → List ℕ → List ℕ → List ℕ
free_map_numbers magic pages map = counted (free_count magic pages map)

-- ---- double-write files

-- lq_doublewrite_read: number, place, slots
abbrev pub contents_numbers : Result ℕ Verdict → List ℕ
contents_numbers c = counted c

-- lq_repair: number, place, pages restored
abbrev pub restored_numbers : Result ℕ Verdict → List ℕ
restored_numbers r = counted r

-- ---- the catalog

-- lq_table_read, lq_table_read_older: number, place, table id, root page, offset and length of the schema and of the name in the payload, layout, version
abbrev pub table_numbers : RowAnswer → List ℕ
table_numbers t =
    t.verdict.number ∷ t.verdict.place ∷ t.table ∷ t.root.0 ∷ t.schema.at ∷ t.schema.length ∷ t.name.at ∷ t.name.length ∷ t.layout ∷ t.version ∷ []

-- lq_table_write: number, place, length written
abbrev pub table_written_numbers : WriteAnswer → List ℕ
table_written_numbers w = w.verdict.number ∷ w.verdict.place ∷ w.length ∷ []

-- lq_doublewrite_write, lq_summary_write: number, place, length written
abbrev pub written_numbers : Result ℕ Verdict → List ℕ
written_numbers w = counted w

-- lq_table_find: as lq_next_visible

-- ---- orders

-- an order: page, slot, part number, quantity
abbrev pub order_numbers : Order → List ℕ
order_numbers o = o.page.0 ∷ o.slot ∷ o.part ∷ o.quantity ∷ []

-- found, the order; zeros where there is none
abbrev pub order_or_none : Option Order → List ℕ
order_or_none (Some o) = 1 ∷ order_numbers o
order_or_none None = 0 ∷ 0 ∷ 0 ∷ 0 ∷ 0 ∷ []

-- lq_find_order: number, place, found, the order, short payloads
abbrev pub found_numbers : Result FoundOrder Verdict → List ℕ
found_numbers (Ok f) = 0 ∷ 0 ∷ order_or_none f.order ++ (f.short ∷ [])
found_numbers (Err v) = v.number ∷ v.place ∷ 0 ∷ 0 ∷ 0 ∷ 0 ∷ 0 ∷ 0 ∷ []

-- lq_repeated_orders: number, place, found, the earlier order, the later
abbrev pub repeated_numbers : Result (Option RepeatedOrders) Verdict → List ℕ
repeated_numbers (Ok (Some f)) = 0 ∷ 0 ∷ 1 ∷ order_numbers f.first ++ order_numbers f.second
repeated_numbers (Ok None) = 0 ∷ 0 ∷ 0 ∷ 0 ∷ 0 ∷ 0 ∷ 0 ∷ 0 ∷ 0 ∷ 0 ∷ 0 ∷ []
repeated_numbers (Err v) = v.number ∷ v.place ∷ 0 ∷ 0 ∷ 0 ∷ 0 ∷ 0 ∷ 0 ∷ 0 ∷ 0 ∷ 0 ∷ []

-- ---- recovery

-- lq_recover: number, place, last LSN, tail offset, transactions committed, rolled back, unended, changes of each of these and of transaction 0, pages rewritten,
-- ending of the log
abbrev pub answer_numbers : Answer → List ℕ
answer_numbers a =
    a.number ∷ a.place ∷ a.last_lsn.0 ∷ a.tail ∷ a.committed ∷ a.rolled_back ∷ a.unended
    ∷ a.changes_committed ∷ a.changes_rolled_back ∷ a.changes_unended ∷ a.changes_zero ∷ a.rewritten ∷ a.ending ∷ []

-- lq_read_row: number, place, filled, xmin, xmax, deleted, source of the payload, its offset there, its length, the pad bytes
abbrev pub located_numbers : Located → List ℕ
located_numbers l =
    l.head.number ∷ l.head.place ∷ one l.head.filled ∷ l.head.xmin.0 ∷ l.head.xmax.0 ∷ l.head.deleted
    ∷ l.source ∷ l.offset ∷ l.length ∷ l.head.pad ∷ []

abbrev pub read_row_numbers : Lent → ℕ → ℕ → List ℕ
read_row_numbers x page slot = located_numbers (located_of x page slot)

-- ---- repaired pages

-- lq_judge, lq_judge_from: number, place, whether a page differs, its number, its slot
abbrev pub finding_numbers : Finding → List ℕ
finding_numbers f = f.verdict.number ∷ f.verdict.place ∷ one f.differs ∷ f.page.0 ∷ f.slot ∷ []

-- ---- the row summary

-- lq_summary_read: number, place, last LSN, count, place of the first row
abbrev pub summary_numbers : Result Summary Verdict → List ℕ
summary_numbers (Ok s) = 0 ∷ 0 ∷ s.lsn.0 ∷ s.count ∷ s.first ∷ []
summary_numbers (Err v) = v.number ∷ v.place ∷ 0 ∷ 0 ∷ 0 ∷ []

-- lq_summary_row: number, place, page, slot, tuple length; zeros past the count
abbrev pub numbered_numbers : Result (Option SummaryRow) Verdict → List ℕ
numbered_numbers (Ok (Some r)) = 0 ∷ 0 ∷ r.page.0 ∷ r.slot ∷ r.length ∷ []
numbered_numbers (Ok None) = 0 ∷ 0 ∷ 0 ∷ 0 ∷ 0 ∷ []
numbered_numbers (Err v) = v.number ∷ v.place ∷ 0 ∷ 0 ∷ 0 ∷ []

-- lq_summary_step: page, slot, tuple length, place after them
abbrev pub summary_step_numbers : SummaryStep → List ℕ
summary_step_numbers s = s.row.page.0 ∷ s.row.slot ∷ s.row.length ∷ s.after ∷ []
