-- The summary of the visible rows (paper 02, W6): edition 1, last LSN, row count, then per row in order page, slot and tuple length; how it is written, and how it is judged and read.
use Rattle.std.specs.Prelude.{ℕ, zero, suc, List, [], ◌∷◌, ◌++◌, map, length, drop, ltb, eqb, Option, Result, slice_get}
use Rattle.endian.specs.Pick.{pick}
use Rattle.refusals.specs.Refusal.{summary_area, summary_edition, summary_range, summary_order, summary_left_over}
use Rattle.refusals.specs.Verdict.{verdict, accepted, ◌then◌, answered}
use Rattle.refusals.specs.declared.Verdict.{Verdict}
use Rattle.page.specs.Layout.{page_limit, slot_limit, row_head, longest_tuple}
use Rattle.page.specs.Fault.{verdict_of}
use Rattle.page.specs.Rows.{visible_rows}
use Rattle.page.specs.declared.Row.{Row}
use Rattle.summary.specs.Number.{groups, value_at, after_at, refusal_at, any_number}
use Rattle.summary.specs.declared.SummaryRow.{SummaryRow}
use Rattle.summary.specs.declared.Summary.{Summary}
use Rattle.summary.specs.declared.SummaryStep.{SummaryStep}

abbrev pub edition : ℕ
edition = 1

-- ---- the file of a last LSN and a list of rows

unfoldable pub head_of : ℕ → ℕ → List ℕ
head_of lsn count = groups edition ++ (groups lsn ++ groups count)

unfoldable pub row_bytes : SummaryRow → List ℕ
row_bytes r = groups r.page.0 ++ (groups r.slot ++ groups r.length)

unfoldable pub rows_bytes : List SummaryRow → List ℕ
rows_bytes [] = []
rows_bytes (r ∷ rs) = row_bytes r ++ rows_bytes rs

unfoldable pub file_of : ℕ → List SummaryRow → List ℕ
file_of lsn rows = head_of lsn (length rows) ++ rows_bytes rows

-- ---- writing

-- a row of the listing as a summary has it
abbrev pub shortened : Row → SummaryRow
shortened r = record { page = r.page; slot = r.slot; length = r.length }

-- the visible rows of pages, in the order of the listing
abbrev pub summary_rows : List ℕ → List SummaryRow
summary_rows s = map shortened (visible_rows s)

abbrev pub summary_file : List ℕ → ℕ → List ℕ
summary_file s lsn = file_of lsn (summary_rows s)

-- refused as the listing refuses, then 27 exactly when the area is too short
unfoldable pub write_verdict : ℕ → List ℕ → ℕ → List ℕ → Verdict
write_verdict magic s lsn area = verdict_of magic s then pick (ltb (length area) (length (summary_file s lsn))) (verdict summary_area 0) accepted

-- the length written
abbrev pub summary_written : ℕ → List ℕ → ℕ → List ℕ → Result ℕ Verdict
summary_written magic s lsn area = answered (write_verdict magic s lsn area) (length (summary_file s lsn))

-- the area afterwards: the file, and the later bytes as they were; refused, all as it was
unfoldable pub summary_after : ℕ → List ℕ → ℕ → List ℕ → List ℕ
summary_after magic s lsn area =
    pick (eqb (write_verdict magic s lsn area).number 0)
    (summary_file s lsn ++ drop (length (summary_file s lsn)) area)
    area

-- ---- judging a file, number after number

-- 30: another edition
unfoldable pub edition_rule : ℕ → ℕ
edition_rule n = pick (eqb n edition) 0 summary_edition

-- 31: a page of 4,096 or more; 32: a page that falls below the one before
unfoldable pub page_rule : ℕ → ℕ → ℕ
page_rule page n = pick (ltb n page_limit) (pick (ltb n page) summary_order 0) summary_range

-- 31: a slot of 4,080 or more; 32: on the page of the row before, a slot not behind that row's
unfoldable pub slot_rule : ℕ → ℕ → ℕ → ℕ → ℕ
slot_rule page slot own n = pick (ltb n slot_limit) (pick (eqb own page) (pick (ltb n slot) summary_order 0) 0) summary_range

-- 31: a length outside 24 to 16,316
unfoldable pub length_rule : ℕ → ℕ
length_rule n = pick (ltb n row_head) summary_range (pick (ltb longest_tuple n) summary_range 0)

-- a number under its rule; refused, its offset is the place
unfoldable pub number_verdict : (ℕ → ℕ) → List ℕ → ℕ → Verdict
number_verdict rule f p = pick (eqb (refusal_at rule f p) 0) accepted (verdict (refusal_at rule f p) p)

-- of three numbers from place p on: where the second and the third stand, and the place after them
abbrev pub second : List ℕ → ℕ → ℕ
second f p = after_at f p

abbrev pub third : List ℕ → ℕ → ℕ
third f p = after_at f (second f p)

abbrev pub behind : List ℕ → ℕ → ℕ
behind f p = after_at f (third f p)

-- each under its rule, of which the second's may ask for the first number
unfoldable pub three_verdict : (ℕ → ℕ) → (ℕ → ℕ → ℕ) → (ℕ → ℕ) → List ℕ → ℕ → Verdict
three_verdict rule₁ rule₂ rule₃ f p =
    number_verdict rule₁ f p
    then number_verdict (rule₂ (value_at f p)) f (second f p)
    then number_verdict rule₃ f (third f p)

-- edition, last LSN and row count
abbrev pub head_verdict : List ℕ → Verdict
head_verdict f = three_verdict edition_rule (λ n. any_number) any_number f 0

-- the row at place p, which has to stand at or after a slot of a page
abbrev pub row_verdict : ℕ → ℕ → List ℕ → ℕ → Verdict
row_verdict page slot f p = three_verdict (page_rule page) (slot_rule page slot) length_rule f p

-- n rows from place p on, each behind the one before, then nothing: 33
unfoldable pub rows_verdict : ℕ → ℕ → ℕ → List ℕ → ℕ → Verdict
rows_verdict zero page slot f p = pick (ltb p (length f)) (verdict summary_left_over p) accepted
rows_verdict (suc n) page slot f p = row_verdict page slot f p then rows_verdict n (value_at f p) (suc (value_at f (second f p))) f (behind f p)

-- the whole file
unfoldable pub file_verdict : List ℕ → Verdict
file_verdict f = head_verdict f then rows_verdict (value_at f (third f 0)) 0 0 f (behind f 0)

-- ---- what a file says

unfoldable pub lsn_of : List ℕ → ℕ
lsn_of f = value_at f (second f 0)

unfoldable pub count_of : List ℕ → ℕ
count_of f = value_at f (third f 0)

-- the row at place p
abbrev pub row_at : List ℕ → ℕ → SummaryRow
row_at f p = record { page = record { 0 = value_at f p }; slot = value_at f (second f p); length = value_at f (third f p) }

-- n rows from place p on
unfoldable pub rows_from : ℕ → List ℕ → ℕ → List SummaryRow
rows_from zero f p = []
rows_from (suc n) f p = row_at f p ∷ rows_from n f (behind f p)

unfoldable pub rows_of : List ℕ → List SummaryRow
rows_of f = rows_from (count_of f) f (behind f 0)

-- ---- answers

-- last LSN, count, and where the first row stands
abbrev pub summary_in : List ℕ → Summary
summary_in f = record { lsn = record { 0 = lsn_of f }; count = count_of f; first = behind f 0 }

-- the whole file judged
abbrev pub summary_of : List ℕ → Result Summary Verdict
summary_of f = answered (file_verdict f) (summary_in f)

-- row n of a file, from 0; none past the count
abbrev pub numbered_row : List ℕ → ℕ → Result (Option SummaryRow) Verdict
numbered_row f n = answered (file_verdict f) (slice_get (rows_of f) n)

abbrev pub no_row : SummaryRow
no_row = record { page = record { 0 = 0 }; slot = 0; length = 0 }

-- the row at place p, and the place after it
abbrev pub row_step : List ℕ → ℕ → SummaryStep
row_step f p = record { row = row_at f p; after = behind f p }

-- three numbers at place p read, whatever they are
abbrev pub step_verdict : List ℕ → ℕ → Verdict
step_verdict f p = three_verdict any_number (λ n. any_number) any_number f p

-- the row at place p and the place after it; 0s and the same place where one of its numbers does not read
unfoldable pub step_of : List ℕ → ℕ → SummaryStep
step_of f p =
    pick (eqb (step_verdict f p).number 0)
    (row_step f p)
    (record { row = no_row; after = p })

-- the rows that n steps from place p on give
unfoldable pub step_rows : ℕ → List ℕ → ℕ → List SummaryRow
step_rows zero f p = []
step_rows (suc n) f p = (step_of f p).row ∷ step_rows n f (step_of f p).after
