-- Internal: the row of a transaction as entries tell it, one after the other.
use Rattle.std.specs.Prelude.{ℕ, ◌+◌, ◌≤◌, ◌<◌, ◌≡◌, List, [], ◌∷◌, map, length, get_or, set, drop, eqb}
use Rattle.endian.specs.Pick.{pick, cons_if}
use Rattle.endian.specs.declared.Lsn.{Lsn}
use Rattle.endian.specs.declared.TxnNumber.{TxnNumber}
use Rattle.wal.specs.Entry.{Entry, begin, commit, rollback}
use Rattle.wal.specs.Read.{first}
use Rattle.wal.specs.Walk.{entries, end_of}
use Rattle.wal.specs.Prefix.{Met, before, onward}
use Rattle.rules.specs.Shape.{is_changing}
use Rattle.rules.specs.Order.{count, is_begin, last_lsn, never_full, order_from}
use Rattle.rules.specs.Recover.{outcome_of, is_change_by, is_end_of, those}
use Rattle.table.specs.Rows.{blank, Rising}
use Rattle.table.specs.declared.Row.{Row}

-- a shorter log has places that fit 31 bits
abbrev pub reach : ℕ
reach = 2147483648

-- how many guesses are kept, one for each remainder of a transaction number
abbrev pub guessed : ℕ
guessed = 16384

-- the entries of the log keep the order rules
abbrev pub Orderly : List ℕ → Type 0
Orderly s = (order_from never_full [] (entries s) first).number ≡ 0

-- ---- rows of Begins

-- the row of a Begin by its number and its LSN, before any other entry of its transaction
abbrev pub new_row : TxnNumber → Lsn → Row
new_row t l = record { number = t; first = l; outcome = 0; changes = 0; ending = record { 0 = 0 }; last = record { 0 = 0 } }

abbrev pub fresh : Entry → Row
fresh e = new_row (record { 0 = e.txn }) (record { 0 = e.lsn })

-- one for each Begin, in log order
unfoldable pub begun_rows : List Entry → List Row
begun_rows [] = []
begun_rows (e ∷ es) = cons_if (is_begin e) (fresh e) (begun_rows es)

-- n Begins from `from` on are taken, as many as there are or as there is room for; the rest of them stand from next on
pub record Span (s : List ℕ) (from limit n next : ℕ) : Type 0 where
  pub room : n ≤ limit
  pub many : n ≤ length (begun_rows (onward s from))
  pub rest : begun_rows (onward s next) ≡ drop n (begun_rows (onward s from))
  pub met : Met s next
  pub all : n < limit → n ≡ length (begun_rows (onward s from))
  pub on : from < end_of s → 0 < limit → from < next

-- ---- what other entries tell

-- the row by all of some entries
unfoldable pub tell : List Entry → Row → Row
tell es r =
    record {
      number = r.number;
      first = r.first;
      outcome = outcome_of es r.number.0;
      changes = count (is_change_by r.number.0) es;
      ending = record { 0 = last_lsn (those (is_end_of r.number.0) es) };
      last = record { 0 = last_lsn (those (is_change_by r.number.0) es) };
    }

-- the row after one more entry of its transaction, of a type and an LSN
unfoldable pub told_by : ℕ → Lsn → Row → Row
told_by kind lsn r =
    pick (eqb kind commit) (record { number = r.number; first = r.first; outcome = 1; changes = r.changes; ending = lsn; last = r.last })
    (pick (eqb kind rollback) (record { number = r.number; first = r.first; outcome = 2; changes = r.changes; ending = lsn; last = r.last })
    (pick (is_changing kind) (record { number = r.number; first = r.first; outcome = r.outcome; changes = r.changes + 1; ending = r.ending; last = lsn })
    r))

-- the rows l became m by an entry of a type, a transaction and an LSN
pub data Entered (l : List Row) (kind t : ℕ) (lsn : Lsn) (m : List Row) : Type 0 where
  begins : kind ≡ begin → m ≡ l → Entered l kind t lsn m
  zero : t ≡ 0 → m ≡ l → Entered l kind t lsn m
  other : ((i : ℕ) → i < length l → (get_or l i blank).number.0 ≡ t → ⊥) → m ≡ l → Entered l kind t lsn m
  own : (j : ℕ) → j < length l → (get_or l j blank).number.0 ≡ t → m ≡ set l j (told_by kind lsn (get_or l j blank)) → Entered l kind t lsn m

-- rows that can be told from a place on: their numbers rise, none is 0, and no entry before the place is of one of them
pub record Untold (s : List ℕ) (from : ℕ) (l : List Row) : Type 0 where
  pub rising : Rising 0 l
  pub real : (i : ℕ) → i < length l → (get_or l i blank).number.0 ≡ 0 → ⊥
  pub same : map (tell (before s from)) l ≡ l
