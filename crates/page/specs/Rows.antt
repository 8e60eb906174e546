-- Visible rows (paper 01, Numbers given back; paper 02, W2), and the cancelled ones.
use Rattle.std.specs.Prelude.{ℕ, zero, suc, ◌*◌, ◌/◌, ◌<◌, ◌≡◌, List, [], ◌∷◌, ◌++◌, Bool, false, not, ◌&&◌, Option, Some, None, Result, length, take, drop, ltb, leb, eqb}
use Rattle.endian.specs.Pick.{pick, cons_if}
use Rattle.page.specs.Layout.{data_type, pages_in, page_at, type_of, count_of, slot_at, tuple_offset, xmax_of, deleted_of, payload_of}
use Rattle.page.specs.Fault.{verdict_of}
use Rattle.refusals.specs.Verdict.{answered}
use Rattle.refusals.specs.declared.Verdict.{Verdict}
use Rattle.page.specs.Good.{DataGood}
use Rattle.page.specs.declared.Row.{Row}
use Rattle.page.specs.declared.RowList.{RowList}

-- a tuple is a visible row: there is one, its deleted byte is 0 and its xmax is 0
unfoldable pub visible : List ℕ → Bool
visible [] = false
visible (b ∷ t) = eqb (deleted_of (b ∷ t)) 0 && eqb (xmax_of (b ∷ t)) 0

-- a cancelled row: there is a tuple, and it is not visible
unfoldable pub cancelled : List ℕ → Bool
cancelled [] = false
cancelled (b ∷ t) = not (visible (b ∷ t))

-- what a listing shows: live rows, which are the visible ones, or cancelled ones
abbrev pub shown : Bool → List ℕ → Bool
shown live = pick live visible cancelled

-- the row in slot k of page i, which is p: with its tuple's length, and where in the page area the tuple starts
abbrev pub row : ℕ → ℕ → List ℕ → Row
row i k p = record { page = record { 0 = i }; slot = k; length = length (slot_at p k); offset = tuple_offset i p k }

-- the rows of page i that a listing shows, among the n slots from k on
unfoldable pub slot_rows : (List ℕ → Bool) → ℕ → List ℕ → ℕ → ℕ → List Row
slot_rows shows i p zero k = []
slot_rows shows i p (suc n) k = cons_if (shows (slot_at p k)) (row i k p) (slot_rows shows i p n (suc k))

-- those of page i: none where it is no Data page
unfoldable pub page_rows : (List ℕ → Bool) → ℕ → List ℕ → List Row
page_rows shows i p = pick (eqb (type_of p) data_type) (slot_rows shows i p (count_of p) 0) []

-- those of the n pages from i on, in the order of the listing
unfoldable pub rows_from : (List ℕ → Bool) → List ℕ → ℕ → ℕ → List Row
rows_from shows s zero i = []
rows_from shows s (suc n) i = page_rows shows i (page_at i s) ++ rows_from shows s n (suc i)

abbrev pub rows_of : (List ℕ → Bool) → List ℕ → List Row
rows_of shows s = rows_from shows s (pages_in s) 0

abbrev pub visible_rows : List ℕ → List Row
visible_rows s = rows_of visible s

abbrev pub cancelled_rows : List ℕ → List Row
cancelled_rows s = rows_of cancelled s

-- a row stands at or after slot k of page i
unfoldable pub at_or_after : ℕ → ℕ → Row → Bool
at_or_after i k r = pick (eqb r.page.0 i) (leb k r.slot) (ltb i r.page.0)

-- the first of some rows at or after slot k of page i
unfoldable pub first_at : ℕ → ℕ → List Row → Option Row
first_at i k [] = None
first_at i k (r ∷ rs) = pick (at_or_after i k r) (Some r) (first_at i k rs)

-- those of some rows that stand at or after slot k of page i
unfoldable pub rows_at : ℕ → ℕ → List Row → List Row
rows_at i k [] = []
rows_at i k (r ∷ rs) = cons_if (at_or_after i k r) r (rows_at i k rs)

-- refused as verification refuses, else the row
unfoldable pub next_row : ℕ → List ℕ → ℕ → ℕ → Result (Option Row) Verdict
next_row magic s i k = answered (verdict_of magic s) (first_at i k (visible_rows s))

-- ---- a search (paper 02, W7 and below)

-- the payload of a row of a page area
abbrev pub row_payload : List ℕ → Row → List ℕ
row_payload s r = payload_of (slot_at (page_at r.page.0 s) r.slot)

-- the first of some rows that passes a test
unfoldable pub first_with : (Row → Bool) → List Row → Option Row
first_with f [] = None
first_with f (r ∷ rs) = pick (f r) (Some r) (first_with f rs)

-- the first visible row, in the order of the listing, that passes a test; refused as the listing is
unfoldable pub searched : ℕ → List ℕ → (Row → Bool) → Result (Option Row) Verdict
searched magic s f = answered (verdict_of magic s) (first_with f (visible_rows s))

-- ---- many rows at a time

-- what a listing asks of pages: those of Data are good
pub record Listable (s : List ℕ) : Type 0 where
  pub at : (i : ℕ) → i < pages_in s → type_of (page_at i s) ≡ data_type → DataGood (page_at i s)

-- a row as numbers, and how many they are
abbrev pub numbers_of : Row → List ℕ
numbers_of r = r.page.0 ∷ r.slot ∷ r.length ∷ r.offset ∷ []

abbrev pub numbers_per_row : ℕ
numbers_per_row = 4

abbrev pub numbers_of_all : List Row → List ℕ
numbers_of_all [] = []
numbers_of_all (r ∷ rs) = numbers_of r ++ numbers_of_all rs

-- n rows were given, and these of an area of so many pages are left: the first of them is where to go on, the end of the area where there is none
abbrev pub listed : ℕ → ℕ → List Row → RowList
listed n pages [] = record { count = n; page = record { 0 = pages }; slot = 0 }
listed n pages (r ∷ rs) = record { count = n; page = r.page; slot = r.slot }

-- of the rows rs of pages s those from slot k of page i on, as many as there is room for
unfoldable pub list_of : List ℕ → List Row → ℕ → ℕ → ℕ → RowList
list_of s rs i k room = listed (length (take room (rows_at i k rs))) (pages_in s) (drop room (rows_at i k rs))

-- the numbers of some rows, and the later ones as they were
abbrev pub with_rows : List Row → List ℕ → List ℕ
with_rows rs out = numbers_of_all rs ++ drop (numbers_per_row * length rs) out

unfoldable pub list_after : List Row → ℕ → ℕ → List ℕ → List ℕ
list_after rs i k out = with_rows (take (length out / numbers_per_row) (rows_at i k rs)) out

-- refused as verification refuses: nothing is given
unfoldable pub row_list : ℕ → List ℕ → List Row → ℕ → ℕ → ℕ → Result RowList Verdict
row_list magic s rs i k room = answered (verdict_of magic s) (list_of s rs i k room)

unfoldable pub rows_after : ℕ → List ℕ → List Row → ℕ → ℕ → List ℕ → List ℕ
rows_after magic s rs i k out = pick (eqb (verdict_of magic s).number 0) (list_after rs i k out) out
