-- Recovery: from what is lent and the table to the answer, every page byte and every record afterwards (paper 01, Numbers given back).
use Rattle.std.specs.Prelude.{ℕ, zero, suc, ◌+◌, max, List, [], ◌∷◌, ◌++◌, Bool, not, length, drop, ltb, leb, eqb}
use Rattle.refusals.specs.Refusal.{page_area, no_data_page, page_overfull}
use Rattle.endian.specs.Pick.{pick, cons_if}
use Rattle.wal.specs.Entry.{Entry, size_of, commit, rollback}
use Rattle.wal.specs.Read.{first}
use Rattle.wal.specs.Walk.{entries, end_of, ending_of, ending_number}
use Rattle.page.specs.Layout.{body_bytes, data_type, pages_in, page_at, type_of}
use Rattle.page.specs.Packed.{room_for}
use Rattle.refusals.specs.Verdict.{verdict, accepted, ◌then◌}
use Rattle.page.specs.Fault.{late_at, first_bad, size_wrong}
use Rattle.refusals.specs.declared.Verdict.{Verdict}
use Rattle.rules.specs.Shape.{both, either, is_change, page_of}
use Rattle.rules.specs.Order.{one, count, any, is, is_begin, last_lsn, full_at, log_verdict}
use Rattle.rules.specs.Mend.{committed, top_of, slots_for, mend}
use Rattle.rules.specs.Lent.{Lent}
use Rattle.rules.specs.declared.Answer.{Answer}
use Rattle.rules.specs.declared.Record.{Record}

-- ---- refusals of the pages, then 13 and 14, each the first in its order

-- page by page, its fault (11, 17, 18, 19) before 12: an LSN above both the floor and the last LSN
abbrev pub pages_from : ℕ → ℕ → ℕ → List ℕ → ℕ → ℕ → Verdict
pages_from magic floor last s n i = first_bad (late_at (max floor last)) magic s n i

-- a change to a page beyond the lent ones or not of type 1
unfoldable pub is_stray : List ℕ → Entry → Bool
is_stray s e = both (is_change e) (either (leb (pages_in s) (page_of e)) (not (eqb (type_of (page_at (page_of e) s)) data_type)))

-- 13, the earliest entry, the first of which stands at a place
unfoldable pub stray_from : List ℕ → List Entry → ℕ → Verdict
stray_from s [] at = accepted
stray_from s (e ∷ es) at = pick (is_stray s e) (verdict no_data_page at) (stray_from s es (at + size_of e))

-- page i is touched
abbrev pub is_touched : List Entry → ℕ → Bool
is_touched es i = ltb 0 (top_of i es)

-- page i would not fit
unfoldable pub is_tight : List Entry → List ℕ → ℕ → Bool
is_tight es s i = both (is_touched es i) (ltb body_bytes (room_for (slots_for (committed es) es i (page_at i s))))

-- 14, the lowest of the n pages from i on
unfoldable pub tight_from : List Entry → List ℕ → ℕ → ℕ → Verdict
tight_from es s zero i = accepted
tight_from es s (suc n) i = pick (is_tight es s i) (verdict page_overfull i) (tight_from es s n (suc i))

-- the verdict of recovery: 1, 2, 3; then entry by entry, 4 to 10 in turn; then page by page, 11, 17, 18, 19, 12 in turn; then 13; then 14
unfoldable pub recover_verdict : (ℕ → Bool) → Lent → Verdict
recover_verdict full x =
    pick (size_wrong x.pages) (verdict page_area 0) accepted
    then log_verdict full x.log
    then pages_from x.magic x.floor (last_lsn (entries x.log)) x.pages (pages_in x.pages) 0
    then stray_from x.pages (entries x.log) first
    then tight_from (entries x.log) x.pages (pages_in x.pages) 0

-- ---- transactions and counts, from the entries themselves

-- 0 unended, 1 committed, 2 rolled back
unfoldable pub outcome_of : List Entry → ℕ → ℕ
outcome_of es t = pick (any (is commit t) es) 1 (pick (any (is rollback t) es) 2 0)

-- transactions with an outcome: by their Begins
unfoldable pub transactions : ℕ → List Entry → ℕ
transactions o es = count (λ e. both (is_begin e) (eqb (outcome_of es e.txn) o)) es

-- changes of transactions with an outcome, and of transaction 0
unfoldable pub changes_of : ℕ → List Entry → ℕ
changes_of o es = count (λ e. both (is_change e) (both (not (eqb e.txn 0)) (eqb (outcome_of es e.txn) o))) es

unfoldable pub changes_zero : List Entry → ℕ
changes_zero es = count (λ e. both (is_change e) (eqb e.txn 0)) es

-- a change by transaction t, and the entry that ends it
abbrev pub is_change_by : ℕ → Entry → Bool
is_change_by t e = both (is_change e) (eqb e.txn t)

abbrev pub is_end_of : ℕ → Entry → Bool
is_end_of t e = either (is commit t e) (is rollback t e)

-- the entries that pass a test
unfoldable pub those : (Entry → Bool) → List Entry → List Entry
those f [] = []
those f (e ∷ es) = cons_if (f e) e (those f es)

-- the record of a Begin: number, first LSN, outcome, changes, LSN of the Commit or Rollback, LSN of the last change; a LSN is 0 where there is no such entry
unfoldable pub record_of : List Entry → Entry → Record
record_of es e =
    record {
      number = record { 0 = e.txn };
      first = record { 0 = e.lsn };
      outcome = outcome_of es e.txn;
      changes = count (is_change_by e.txn) es;
      ending = record { 0 = last_lsn (those (is_end_of e.txn) es) };
      last = record { 0 = last_lsn (those (is_change_by e.txn) es) };
    }

-- one record per Begin, in log order
unfoldable pub records_of : List Entry → List Entry → List Record
records_of all [] = []
records_of all (e ∷ es) = cons_if (is_begin e) (record_of all e) (records_of all es)

-- records past those stay
unfoldable pub table_after : List Entry → List Record → List Record
table_after es table = records_of es es ++ drop (length (records_of es es)) table

-- ---- pages

-- the n pages from i on, mended
unfoldable pub mended_from : List Entry → List ℕ → ℕ → ℕ → List ℕ
mended_from es s zero i = []
mended_from es s (suc n) i = mend es i (page_at i s) ++ mended_from es s n (suc i)

-- pages touched among the n from i on
unfoldable pub touched_from : List Entry → ℕ → ℕ → ℕ
touched_from es zero i = zero
touched_from es (suc n) i = one (is_touched es i) + touched_from es n (suc i)

-- ---- all of it

abbrev pub refused : Verdict → Answer
refused v =
    record {
      number = v.number;
      place = v.place;
      last_lsn = record { 0 = 0 };
      tail = 0;
      committed = 0;
      rolled_back = 0;
      unended = 0;
      changes_committed = 0;
      changes_rolled_back = 0;
      changes_unended = 0;
      changes_zero = 0;
      rewritten = 0;
      ending = 0;
    }

-- the answer for an accepted list of entries that ends at a place, in a way (0 exact end, 1 torn, 2 unused), over n pages
unfoldable pub done : List Entry → ℕ → ℕ → ℕ → Answer
done es end way n =
    record {
      number = 0;
      place = 0;
      last_lsn = record { 0 = last_lsn es };
      tail = end;
      committed = transactions 1 es;
      rolled_back = transactions 2 es;
      unended = transactions 0 es;
      changes_committed = changes_of 1 es;
      changes_rolled_back = changes_of 2 es;
      changes_unended = changes_of 0 es;
      changes_zero = changes_zero es;
      rewritten = touched_from es n 0;
      ending = way;
    }

pub record Recovered : Type 0 where
  pub answer : Answer
  pub pages : List ℕ
  pub table : List Record

-- recovery with a verdict: refused, every buffer keeps its bytes
abbrev pub recover_by : Verdict → List ℕ → List ℕ → List Record → Recovered
recover_by v pages log table =
    pick (eqb v.number 0)
    (record {
      answer = done (entries log) (end_of log) (ending_number (ending_of log)) (pages_in pages);
      pages = mended_from (entries log) pages (pages_in pages) 0;
      table = table_after (entries log) table;
    })
    (record { answer = refused v; pages = pages; table = table })

unfoldable pub recover_of : Lent → List Record → Recovered
recover_of x table = recover_by (recover_verdict (full_at (length table)) x) x.pages x.log table
