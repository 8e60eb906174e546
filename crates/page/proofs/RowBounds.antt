-- How many rows a listing shows at most.
-- Assumes nothing.
use mathlib.Core.Path.{◌≡◌, refl}
use mathlib.Core.Bool.{Bool, true, false}
use Prim.Native.Nat.{ℕ, zero, suc, ◌+◌, ◌*◌, ◌≤◌}
use native.Mathlib.Omega.{arith}
use mathlib.Core.List.{List, []}
use lib.Dec.{eqb}
use lib.ListN.{length, length-append}
use borrow.Author.Tests.{eqb-true}
use Rattle.endian.specs.Pick.{pick, cons_if}
use Rattle.page.specs.Layout.{slot_limit, data_type, pages_in, page_at, type_of, count_of, slot_at}
use Rattle.page.specs.Good.{DataGood}
use Rattle.page.specs.Rows.{row, slot_rows, page_rows, rows_from, rows_of, Listable}

module _ (shows : List ℕ → Bool) where
  few-slots : (i : ℕ) (p : List ℕ) (n k : ℕ) → length (slot_rows shows i p n k) ≤ n
  unfolding slot_rows
  few-slots i p zero k = omega arith
  few-slots i p (suc n) k = by-test (shows (slot_at p k)) (few-slots i p n (suc k))
    where
      by-test : (t : Bool) → length (slot_rows shows i p n (suc k)) ≤ n → length (cons_if t (row i k p) (slot_rows shows i p n (suc k))) ≤ suc n
      by-test true l = omega arith
      by-test false l = omega arith

  few-page : (i : ℕ) (p : List ℕ) → (type_of p ≡ data_type → DataGood p) → length (page_rows shows i p) ≤ slot_limit
  unfolding page_rows
  few-page i p d = by-type (eqb (type_of p) data_type) refl
    where
      by-type : (t : Bool) → eqb (type_of p) data_type ≡ t → length (pick t (slot_rows shows i p (count_of p) 0) []) ≤ slot_limit
      by-type true e = let g = d (eqb-true _ _ e) in omega (arith, few-slots i p (count_of p) 0, g.start, g.start_end, g.end)
      by-type false e = omega arith

  module _ (s : List ℕ) (d : Listable s) where
    few-pages : (n i : ℕ) → i + n ≡ pages_in s → length (rows_from shows s n i) ≤ slot_limit * n
    unfolding rows_from
    few-pages zero i e = omega arith
    few-pages (suc n) i e =
        omega (arith, length-append (page_rows shows i (page_at i s)) (rows_from shows s n (suc i)), few-page i (page_at i s) (d.at i (omega arith)), few-pages n (suc i) (omega arith))

    pub rows_few : length (rows_of shows s) ≤ slot_limit * pages_in s
    rows_few = few-pages (pages_in s) 0 (omega arith)
