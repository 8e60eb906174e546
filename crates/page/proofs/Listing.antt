-- The first row of a listing at or after a place, page by page and slot by slot.
-- Assumes nothing.
use mathlib.Core.Path.{◌≡◌, refl, sym, ap, ◌∙◌}
use mathlib.Core.Bool.{Bool, true, false}
use Prim.Native.Nat.{ℕ, zero, suc, ◌+◌, ◌-◌, ◌≤◌, ◌<◌}
use native.Mathlib.Decide.{dec_le}
use native.Mathlib.Nat.{zero-add, add-zero}
use native.Mathlib.Numerals.{add-one}
use native.Mathlib.Omega.{arith}
use mathlib.Core.List.{List, [], ◌∷◌, ◌++◌}
use lib.Dec.{eqb}
use borrow.Author.Tests.{lt-ltb, le-ltb, le-leb, lt-leb, eq-eqb, ne_eqb}
use Rattle.endian.specs.Pick.{pick, cons_if}
use Rattle.page.specs.Layout.{data_type, page_at, type_of, count_of, slot_at}
use Rattle.page.specs.Rows.{row, slot_rows, page_rows, rows_from, at_or_after, visible_rows, first_at, next_row, Listable}
use Rattle.page.specs.Fault.{verdict_of}
use Rattle.page.specs.declared.Row.{Row}
use Rattle.std.specs.Prelude.{Option, Some, None, Result, Ok, Err}
use Rattle.refusals.specs.declared.Refused.{Refused}
use Rattle.refusals.specs.Verdict.{told_by, told}
use Rattle.refusals.proofs.Told.{err-answered, ok-answered}
use Rattle.page.proofs.Verdicts.{accepted-good}

some-none : (r : Row) → Some r ≡ None → ⊥
some-none r e = cc

-- ---- a row's place

module _ (i k j m : ℕ) (p : List ℕ) where
  on-earlier-page : j < i → at_or_after i k (row j m p) ≡ false
  unfolding at_or_after
  on-earlier-page l = simp (ne_eqb j i (λ e. absurd (omega arith)), le-ltb i j (omega arith))

  on-later-page : i < j → at_or_after i k (row j m p) ≡ true
  unfolding at_or_after
  on-later-page l = simp (ne_eqb j i (λ e. absurd (omega arith)), lt-ltb i j l)

-- on page i + 1 or behind it
behind-next : (i j m : ℕ) (p : List ℕ) → i < j → at_or_after (suc i) 0 (row j m p) ≡ true
unfolding at_or_after
behind-next i j m p l =
    elim (dec_le j (suc i)) [
      | yes h ↦ simp (eq-eqb j (suc i) (omega arith), le-leb 0 m (omega arith))
      | no h ↦ simp (ne_eqb j (suc i) (λ e. absurd (omega arith)), lt-ltb (suc i) j (omega arith))
    ]

module _ (i k m : ℕ) (p : List ℕ) where
  in-earlier-slot : m < k → at_or_after i k (row i m p) ≡ false
  unfolding at_or_after
  in-earlier-slot l = simp (eq-eqb i i refl, lt-leb k m l)

  in-later-slot : k ≤ m → at_or_after i k (row i m p) ≡ true
  unfolding at_or_after
  in-later-slot l = simp (eq-eqb i i refl, le-leb k m l)

-- ---- two lists of rows

none-step : (t : Bool) (r : Row) {x y z : Option Row} → pick t (Some r) x ≡ None → (x ≡ None → y ≡ z) → pick t (Some r) y ≡ z
none-step true r e h = cc
none-step false r e h = h e

some-step : (t : Bool) (r : Row) {x y : Option Row} → (pick t (Some r) x ≡ None → ⊥) → ((x ≡ None → ⊥) → y ≡ x) → pick t (Some r) y ≡ pick t (Some r) x
some-step true r n h = refl
some-step false r n h = h n

module _ (i k : ℕ) where
  none_then : (xs ys : List Row) → first_at i k xs ≡ None → first_at i k (xs ++ ys) ≡ first_at i k ys
  unfolding first_at
  none_then [] ys e = refl
  none_then (r ∷ xs) ys e = none-step (at_or_after i k r) r e (none_then xs ys)

  some_then : (xs ys : List Row) → (first_at i k xs ≡ None → ⊥) → first_at i k (xs ++ ys) ≡ first_at i k xs
  unfolding first_at
  some_then [] ys h = absurd (h refl)
  some_then (r ∷ xs) ys h = some-step (at_or_after i k r) r h (some_then xs ys)

  -- one row more, or not, before some others
  cons-passed : (t : Bool) (r : Row) (xs : List Row) → at_or_after i k r ≡ false → first_at i k (cons_if t r xs) ≡ first_at i k xs
  unfolding first_at
  cons-passed true r xs e = rw e
  cons-passed false r xs e = refl

-- ---- the slots of page i, from slot k on

module _ (shows : List ℕ → Bool) (i k : ℕ) (p : List ℕ) where
  -- the slots before k
  skipped : (m n j : ℕ) → j + m ≤ k → first_at i k (slot_rows shows i p (m + n) j) ≡ first_at i k (slot_rows shows i p n (j + m))
  unfolding slot_rows
  skipped zero n j l = rw (zero-add, add-zero)
  skipped (suc m) n j l =
      let e : suc m + n ≡ suc (m + n) = omega arith in
      let g : j + suc m ≡ suc j + m = omega arith in
      rw (e, g) (cons-passed i k (shows (slot_at p j)) (row i j p) (slot_rows shows i p (m + n) (suc j)) (in-earlier-slot i k j p (omega arith))
      ∙ skipped m n (suc j) (omega arith))

  pub slots-from : (n : ℕ) → first_at i k (slot_rows shows i p (n - k) k) ≡ first_at i k (slot_rows shows i p n 0)
  unfolding slot_rows
  slots-from n =
      elim (dec_le k n) [
        | yes l ↦ let e : k + (n - k) ≡ n = omega arith in sym (rw (e, zero-add k) at (skipped k (n - k) 0 (omega arith)))
        | no l ↦ let e : n - k ≡ 0 = omega arith in rw e (sym (rw (add-zero n) at (skipped n 0 0 (omega arith))))
      ]

  module _ (n j : ℕ) (more : j < n) where
    one : slot_rows shows i p (n - j) j ≡ cons_if (shows (slot_at p j)) (row i j p) (slot_rows shows i p (n - (j + 1)) (j + 1))
    unfolding slot_rows
    one = let e : n - j ≡ suc (n - (j + 1)) = omega arith in rw (e, add-one)

    pub slot-passed : shows (slot_at p j) ≡ false → first_at i k (slot_rows shows i p (n - j) j) ≡ first_at i k (slot_rows shows i p (n - (j + 1)) (j + 1))
    slot-passed e = rw (one, e)

    pub slot-found : k ≤ j → shows (slot_at p j) ≡ true → first_at i k (slot_rows shows i p (n - j) j) ≡ Some (row i j p)
    unfolding first_at
    slot-found l e = rw (one, e, in-later-slot i k j p l)

  pub slots-done : (n j : ℕ) → n ≤ j → first_at i k (slot_rows shows i p (n - j) j) ≡ None
  unfolding slot_rows first_at
  slots-done n j l = let e : n - j ≡ 0 = omega arith in rw e

  -- a page of another type has none
  pub page-other : (type_of p ≡ data_type → ⊥) → None ≡ first_at i k (page_rows shows i p)
  unfolding page_rows first_at
  page-other h = rw (ne_eqb _ _ h)

  pub page-data : type_of p ≡ data_type → first_at i k (slot_rows shows i p (count_of p) 0) ≡ first_at i k (page_rows shows i p)
  unfolding page_rows
  page-data h = rw (eq-eqb _ _ h)

-- ---- the pages, from page i on

module _ (shows : List ℕ → Bool) (i k : ℕ) where
  -- the pages before i
  early-slots : (j : ℕ) (p : List ℕ) (n m : ℕ) → j < i → first_at i k (slot_rows shows j p n m) ≡ None
  unfolding slot_rows first_at
  early-slots j p zero m l = refl
  early-slots j p (suc n) m l =
      cons-passed i k (shows (slot_at p m)) (row j m p) (slot_rows shows j p n (suc m)) (on-earlier-page i k j m p l) ∙ early-slots j p n (suc m) l

  early-page : (j : ℕ) (p : List ℕ) → j < i → first_at i k (page_rows shows j p) ≡ None
  unfolding page_rows first_at
  early-page j p l = by-type (eqb (type_of p) data_type)
    where
      by-type : (t : Bool) → first_at i k (pick t (slot_rows shows j p (count_of p) 0) []) ≡ None
      by-type true = early-slots j p (count_of p) 0 l
      by-type false = refl

  skipped-pages : (s : List ℕ) (m n j : ℕ) → j + m ≤ i → first_at i k (rows_from shows s (m + n) j) ≡ first_at i k (rows_from shows s n (j + m))
  unfolding rows_from
  skipped-pages s zero n j l = rw (zero-add, add-zero)
  skipped-pages s (suc m) n j l =
      let e : suc m + n ≡ suc (m + n) = omega arith in
      let g : j + suc m ≡ suc j + m = omega arith in
      rw (e, g) (none_then i k (page_rows shows j (page_at j s)) (rows_from shows s (m + n) (suc j)) (early-page j (page_at j s) (omega arith)) ∙ skipped-pages s m n (suc j) (omega arith))

  pub pages-from : (s : List ℕ) (n : ℕ) → first_at i k (rows_from shows s (n - i) i) ≡ first_at i k (rows_from shows s n 0)
  unfolding rows_from
  pages-from s n =
      elim (dec_le i n) [
        | yes l ↦ let e : i + (n - i) ≡ n = omega arith in sym (rw (e, zero-add i) at (skipped-pages s i (n - i) 0 (omega arith)))
        | no l ↦ let e : n - i ≡ 0 = omega arith in rw e (sym (rw (add-zero n) at (skipped-pages s n 0 0 (omega arith))))
      ]

  pub pages-done : (s : List ℕ) (n : ℕ) → n ≤ i → first_at i k (rows_from shows s (n - i) i) ≡ None
  unfolding rows_from first_at
  pages-done s n l = let e : n - i ≡ 0 = omega arith in rw e

  -- a later page's rows are behind every place on page i
  cons-later : (t : Bool) (j m : ℕ) (x : List ℕ) (xs rest : List Row) → i < j → first_at i k (xs ++ rest) ≡ first_at (suc i) 0 (xs ++ rest)
      → first_at i k (cons_if t (row j m x) xs ++ rest) ≡ first_at (suc i) 0 (cons_if t (row j m x) xs ++ rest)
  unfolding first_at
  cons-later true j m x xs rest l e = rw (on-later-page i k j m x l, behind-next i j m x l)
  cons-later false j m x xs rest l e = e

  later-slots : (j : ℕ) (p : List ℕ) (n m : ℕ) (rest : List Row) → i < j → first_at i k rest ≡ first_at (suc i) 0 rest
      → first_at i k (slot_rows shows j p n m ++ rest) ≡ first_at (suc i) 0 (slot_rows shows j p n m ++ rest)
  unfolding slot_rows
  later-slots j p zero m rest l e = e
  later-slots j p (suc n) m rest l e =
      cons-later (shows (slot_at p m)) j m p (slot_rows shows j p n (suc m)) rest l (later-slots j p n (suc m) rest l e)

  later-page : (j : ℕ) (p : List ℕ) (rest : List Row) → i < j → first_at i k rest ≡ first_at (suc i) 0 rest
      → first_at i k (page_rows shows j p ++ rest) ≡ first_at (suc i) 0 (page_rows shows j p ++ rest)
  unfolding page_rows
  later-page j p rest l e = by-type (eqb (type_of p) data_type)
    where
      by-type : (t : Bool) → first_at i k (pick t (slot_rows shows j p (count_of p) 0) [] ++ rest) ≡ first_at (suc i) 0 (pick t (slot_rows shows j p (count_of p) 0) [] ++ rest)
      by-type true = later-slots j p (count_of p) 0 rest l e
      by-type false = e

  later-pages : (s : List ℕ) (n j : ℕ) → i < j → first_at i k (rows_from shows s n j) ≡ first_at (suc i) 0 (rows_from shows s n j)
  unfolding rows_from first_at
  later-pages s zero j l = refl
  later-pages s (suc n) j l = later-page j (page_at j s) (rows_from shows s n (suc j)) l (later-pages s n (suc j) (omega arith))

  module _ (s : List ℕ) (n : ℕ) (more : i < n) where
    one-page : rows_from shows s (n - i) i ≡ page_rows shows i (page_at i s) ++ rows_from shows s (n - (i + 1)) (i + 1)
    unfolding rows_from
    one-page = let e : n - i ≡ suc (n - (i + 1)) = omega arith in rw (e, add-one)

    pub page-passed : first_at i k (page_rows shows i (page_at i s)) ≡ None → first_at i k (rows_from shows s (n - i) i) ≡ first_at (i + 1) 0 (rows_from shows s (n - (i + 1)) (i + 1))
    page-passed e =
        ap (first_at i k) one-page ∙ none_then i k (page_rows shows i (page_at i s)) (rows_from shows s (n - (i + 1)) (i + 1)) e
        ∙ rw (add-one i) (later-pages s (n - suc i) (suc i) (omega arith))

    pub page-found : (first_at i k (page_rows shows i (page_at i s)) ≡ None → ⊥) → first_at i k (rows_from shows s (n - i) i) ≡ first_at i k (page_rows shows i (page_at i s))
    page-found h = ap (first_at i k) one-page ∙ some_then i k (page_rows shows i (page_at i s)) (rows_from shows s (n - (i + 1)) (i + 1)) h

    pub page-some : (r : Row) → first_at i k (page_rows shows i (page_at i s)) ≡ Some r → first_at i k (rows_from shows s (n - i) i) ≡ Some r
    page-some r e = page-found (λ q. some-none r (sym e ∙ q)) ∙ e

-- ---- the whole answer

-- pages that verification accepts
pub listable : (magic : ℕ) (s : List ℕ) → (verdict_of magic s).number ≡ 0 → Listable s
listable magic s e = record { at = λ i l t. (accepted-good magic s 0 e i (omega arith) l).data_good t }

module _ (magic : ℕ) (s : List ℕ) (i k : ℕ) where
  pub listing-refused : ((verdict_of magic s).number ≡ 0 → ⊥) → Err (verdict_of magic s) ≡ next_row magic s i k
  unfolding next_row
  listing-refused h = rw (ne_eqb _ _ h)

  pub listing-taken : (verdict_of magic s).number ≡ 0 → Ok (first_at i k (visible_rows s)) ≡ next_row magic s i k
  unfolding next_row
  listing-taken e = rw (eq-eqb _ _ e)

module _ (magic : ℕ) (s : List ℕ) (i k : ℕ) {r : Result Unit Refused} (is : told r ≡ verdict_of magic s) where
  pub listing-err : {e : Refused} → r ≡ Err e → Err (told_by e) ≡ next_row magic s i k
  unfolding next_row
  listing-err q = err-answered is q (first_at i k (visible_rows s))

  pub listing-ok : {u : Unit} → r ≡ Ok u → Ok (first_at i k (visible_rows s)) ≡ next_row magic s i k
  unfolding next_row
  listing-ok q = ok-answered is q (first_at i k (visible_rows s))
