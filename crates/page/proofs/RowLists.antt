-- The rows of a listing one after another from a place on, and many of them stored as numbers.
-- Assumes nothing.
use mathlib.Core.Path.{◌≡◌, refl, sym, ap, ap₂, ◌∙◌}
use mathlib.Core.Logic.{◌⊎◌, inl, inr}
use mathlib.Core.Bool.{Bool, true, false}
use Prim.Native.Nat.{ℕ, zero, suc, ◌+◌, ◌*◌, ◌/◌, ◌≤◌, ◌<◌}
use native.Mathlib.Omega.{arith}
use mathlib.Core.List.{List, [], ◌∷◌, ◌++◌, append_assoc, append-nil}
use lib.Dec.{ltb, leb, eqb}
use lib.ListN.{length, take, drop, length-append, length-drop, drop_of_length-le}
use lib.Seq.{paste, take_at, drop_at, take_all, drop-drop}
use borrow.Author.Tests.{lt-ltb, le-leb, eq-eqb, ne_eqb, ltb-true, leb-true, eqb-true}
use Rattle.endian.specs.Pick.{pick, cons_if}
use Rattle.page.specs.Layout.{data_type, pages_in, page_at, type_of, count_of, slot_at}
use Rattle.page.specs.Rows.{row, slot_rows, page_rows, rows_from, rows_of, at_or_after, first_at, rows_at, Listable, numbers_of, numbers_per_row, numbers_of_all, listed, list_of, list_after, row_list, rows_after}
use Rattle.page.specs.Fault.{verdict_of}
use Rattle.refusals.specs.declared.Refused.{Refused}
use Rattle.refusals.specs.Verdict.{told_by, told, answered}
use Rattle.refusals.proofs.Told.{err-some, err-refused, ok-accepted, ok-answered}
use Rattle.page.specs.declared.Row.{Row}
use Rattle.page.specs.declared.RowList.{RowList}
use Rattle.std.specs.Prelude.{Option, Some, None, Result, Ok, Err}
use Rattle.page.proofs.ListedRows.{Each, Standing, rows-stand}

-- ---- the order of places

-- slot k of page i is at or before the place of r
abbrev pub Before : ℕ → ℕ → Row → Type 0
Before i k r = (i < r.page.0) ⊎ ((r.page.0 ≡ i) × (k ≤ r.slot))

is-before : (i k : ℕ) (r : Row) → at_or_after i k r ≡ true → Before i k r
unfolding at_or_after
is-before i k r h = go (eqb r.page.0 i) refl h
  where
    go : (t : Bool) → eqb r.page.0 i ≡ t → pick t (leb k r.slot) (ltb i r.page.0) ≡ true → Before i k r
    go true e q = inr (eqb-true _ _ e, leb-true _ _ q)
    go false e q = inl (ltb-true _ _ q)

pub before-is : (i k : ℕ) (r : Row) → Before i k r → at_or_after i k r ≡ true
unfolding at_or_after
before-is i k r (inl l) = simp (ne_eqb r.page.0 i (λ e. absurd (omega arith)), lt-ltb i r.page.0 l)
before-is i k r (inr p) = simp (eq-eqb r.page.0 i p.0, le-leb k r.slot p.1)

not-before : (i k : ℕ) (r : Row) → (Before i k r → ⊥) → at_or_after i k r ≡ false
not-before i k r h = go (at_or_after i k r) refl
  where
    go : (t : Bool) → at_or_after i k r ≡ t → t ≡ false
    go true e = absurd (h (is-before i k r e))
    go false e = refl

-- ---- rows in their order

-- each stands behind the one before it, and the first at or after slot k of page i
abbrev pub Rising : ℕ → ℕ → List Row → Type 0
Rising i k [] = Unit
Rising i k (r ∷ rs) = Before i k r × Rising r.page.0 (suc r.slot) rs

pub lower : (i k i' k' : ℕ) (rs : List Row) → (i' < i) ⊎ ((i' ≡ i) × (k' ≤ k)) → Rising i k rs → Rising i' k' rs
lower i k i' k' [] h u = tt
lower i k i' k' (r ∷ rs) h u = (go h u.0, u.1)
  where
    go : (i' < i) ⊎ ((i' ≡ i) × (k' ≤ k)) → Before i k r → Before i' k' r
    go (inl a) (inl b) = inl (omega arith)
    go (inl a) (inr b) = inl (omega arith)
    go (inr a) (inl b) = inl (omega arith)
    go (inr a) (inr b) = inr (omega arith, omega arith)

module _ (shows : List ℕ → Bool) where
  -- the slots of a page, then later pages
  rising-slots : (i : ℕ) (p : List ℕ) (n k : ℕ) (rest : List Row) → Rising (suc i) 0 rest → Rising i k (slot_rows shows i p n k ++ rest)
  unfolding slot_rows
  rising-slots i p zero k rest u = lower (suc i) 0 i k rest (inl (omega arith)) u
  rising-slots i p (suc n) k rest u = go (shows (slot_at p k)) (rising-slots i p n (suc k) rest u)
    where
      go : (t : Bool) → Rising i (suc k) (slot_rows shows i p n (suc k) ++ rest) → Rising i k (cons_if t (row i k p) (slot_rows shows i p n (suc k)) ++ rest)
      go true v = (inr (refl, omega arith), v)
      go false v = lower i (suc k) i k (slot_rows shows i p n (suc k) ++ rest) (inr (refl, omega arith)) v

  rising-page : (i : ℕ) (p : List ℕ) (rest : List Row) → Rising (suc i) 0 rest → Rising i 0 (page_rows shows i p ++ rest)
  unfolding page_rows
  rising-page i p rest u = go (eqb (type_of p) data_type)
    where
      go : (t : Bool) → Rising i 0 (pick t (slot_rows shows i p (count_of p) 0) [] ++ rest)
      go true = rising-slots i p (count_of p) 0 rest u
      go false = lower (suc i) 0 i 0 rest (inl (omega arith)) u

  pub rising-pages : (s : List ℕ) (n i : ℕ) → Rising i 0 (rows_from shows s n i)
  unfolding rows_from
  rising-pages s zero i = tt
  rising-pages s (suc n) i = rising-page i (page_at i s) (rows_from shows s n (suc i)) (rising-pages s n (suc i))

-- what is behind a row is behind every place before it
pub down : (i k : ℕ) (r : Row) → Before i k r → (i < r.page.0) ⊎ ((i ≡ r.page.0) × (k ≤ suc r.slot))
down i k r (inl l) = inl l
down i k r (inr p) = inr (sym p.0, omega arith)

-- ---- one row after another

module _ (i k : ℕ) where
  -- rows that are all behind a place
  pub all-at : (rs : List Row) → Rising i k rs → rows_at i k rs ≡ rs
  unfolding rows_at
  all-at [] u = refl
  all-at (r ∷ rs) u = rw (before-is i k r u.0) (ap (λ (x : List Row). r ∷ x) (all-at rs (lower r.page.0 (suc r.slot) i k rs (down i k r u.0) u.1)))

-- from slot 0 of page 0 on there are all
pub rows_all : (shows : List ℕ → Bool) (s : List ℕ) → rows_at 0 0 (rows_of shows s) ≡ rows_of shows s
rows_all shows s = all-at 0 0 (rows_of shows s) (rising-pages shows s (pages_in s) 0)

abbrev head_or : Row → List Row → Row
head_or d [] = d
head_or d (r ∷ rs) = r

abbrev tail_of : List Row → List Row
tail_of [] = []
tail_of (r ∷ rs) = rs

module _ (i k : ℕ) (r : Row) (rest : List Row) where
  empty-not : [] ≡ r ∷ rest → ⊥
  empty-not e = absurd (omega (arith, ap length e))

  -- the first of the rows from a place on is one of the rows
  behind : (a c : ℕ) (rs : List Row) → Rising a c rs → rows_at i k rs ≡ r ∷ rest → Before a c r
  unfolding rows_at
  behind a c [] u e = absurd (empty-not e)
  behind a c (q ∷ rs) u e = go (at_or_after i k q) (behind q.page.0 (suc q.slot) rs u.1) e
    where
      over : Before a c q → Before q.page.0 (suc q.slot) r → Before a c r
      over (inl x) (inl y) = inl (omega arith)
      over (inl x) (inr y) = inl (omega arith)
      over (inr x) (inl y) = inl (omega arith)
      over (inr x) (inr y) = inr (omega arith, omega arith)

      go : (t : Bool) → (rows_at i k rs ≡ r ∷ rest → Before q.page.0 (suc q.slot) r) → cons_if t q (rows_at i k rs) ≡ r ∷ rest → Before a c r
      go true f h = let z : q ≡ r = ap (head_or r) h in rw (← z) u.0
      go false f h = over u.0 (f h)

  -- behind it the listing goes on
  goes_on : (a c : ℕ) (rs : List Row) → Rising a c rs → rows_at i k rs ≡ r ∷ rest → rest ≡ rows_at r.page.0 (suc r.slot) rs
  unfolding rows_at
  goes_on a c [] u e = absurd (empty-not e)
  goes_on a c (q ∷ rs) u e = go (at_or_after i k q) refl (goes_on q.page.0 (suc q.slot) rs u.1) e
    where
      past : (Before r.page.0 (suc r.slot) q → ⊥) → rows_at r.page.0 (suc r.slot) (q ∷ rs) ≡ rows_at r.page.0 (suc r.slot) rs
      past n = rw (not-before r.page.0 (suc r.slot) q n)

      not_itself : q ≡ r → Before r.page.0 (suc r.slot) q → ⊥
      not_itself z = rw z apart
        where
          apart : Before r.page.0 (suc r.slot) r → ⊥
          apart (inl x) = absurd (omega arith)
          apart (inr x) = absurd (omega arith)

      not_earlier : Before q.page.0 (suc q.slot) r → Before r.page.0 (suc r.slot) q → ⊥
      not_earlier (inl x) (inl y) = absurd (omega arith)
      not_earlier (inl x) (inr y) = absurd (omega arith)
      not_earlier (inr x) (inl y) = absurd (omega arith)
      not_earlier (inr x) (inr y) = absurd (omega arith)

      go : (t : Bool) → at_or_after i k q ≡ t → (rows_at i k rs ≡ r ∷ rest → rest ≡ rows_at r.page.0 (suc r.slot) rs) → cons_if t q (rows_at i k rs) ≡ r ∷ rest
          → rest ≡ rows_at r.page.0 (suc r.slot) (q ∷ rs)
      go true b f h =
          let z : q ≡ r = ap (head_or r) h in
          let up : Rising i k rs = lower q.page.0 (suc q.slot) i k rs (down i k q (is-before i k q b)) u.1 in
          sym (ap tail_of h) ∙ all-at i k rs up ∙ sym (all-at r.page.0 (suc r.slot) rs (rw z at u.1)) ∙ sym (past (not_itself z))
      go false b f h = f h ∙ sym (past (not_earlier (behind q.page.0 (suc q.slot) rs u.1 h)))

-- the first row, or none
abbrev pub head_row : List Row → Option Row
head_row [] = None
head_row (r ∷ rs) = Some r

first-is : (i k : ℕ) (rs : List Row) → first_at i k rs ≡ head_row (rows_at i k rs)
unfolding first_at rows_at
first-is i k [] = refl
first-is i k (r ∷ rs) = go (at_or_after i k r) (first-is i k rs)
  where
    go : (t : Bool) → first_at i k rs ≡ head_row (rows_at i k rs) → pick t (Some r) (first_at i k rs) ≡ head_row (cons_if t r (rows_at i k rs))
    go true e = refl
    go false e = e

abbrev pub row_or : Row → Option Row → Row
row_or d (Some r) = r
row_or d None = d

head_at : (l : List Row) (r : Row) → head_row l ≡ Some r → l ≡ r ∷ tail_of l
head_at [] r e = cc
head_at (q ∷ l) r e = let z : q ≡ r = ap (row_or r) e in rw z

head-empty : (l : List Row) → head_row l ≡ None → l ≡ []
head-empty [] e = refl
head-empty (r ∷ l) e = cc

-- a page on which a search meets none has none
pub page-none : (shows : List ℕ → Bool) (i : ℕ) (p : List ℕ) → first_at i 0 (page_rows shows i p) ≡ None → page_rows shows i p ≡ []
page-none shows i p e =
    let u : Rising i 0 (page_rows shows i p) = rw (append-nil (page_rows shows i p)) at (rising-page shows i p [] tt) in
    head-empty (page_rows shows i p) (ap head_row (sym (all-at i 0 (page_rows shows i p) u)) ∙ sym (first-is i 0 (page_rows shows i p)) ∙ e)

module _ (shows : List ℕ → Bool) (s : List ℕ) (i k : ℕ) where
  -- a search meets a row, and goes on behind it
  pub row_next : (r : Row) → first_at i k (rows_of shows s) ≡ Some r → rows_at i k (rows_of shows s) ≡ r ∷ rows_at r.page.0 (r.slot + 1) (rows_of shows s)
  row_next r e =
      let h : rows_at i k (rows_of shows s) ≡ r ∷ tail_of (rows_at i k (rows_of shows s)) = head_at (rows_at i k (rows_of shows s)) r (sym (first-is i k (rows_of shows s)) ∙ e) in
      let z : suc r.slot ≡ r.slot + 1 = omega arith in
      h ∙ ap (λ (x : List Row). r ∷ x) (rw (← z) (goes_on i k r (tail_of (rows_at i k (rows_of shows s))) 0 0 (rows_of shows s) (rising-pages shows s (pages_in s) 0) h))

  -- or meets none
  pub row-none : first_at i k (rows_of shows s) ≡ None → rows_at i k (rows_of shows s) ≡ []
  row-none e = head-empty (rows_at i k (rows_of shows s)) (sym (first-is i k (rows_of shows s)) ∙ e)

-- ---- a property of all rows of a listing is one of a row that is met

each_first : (P : Row → Type 0) (i k : ℕ) (r : Row) (rs : List Row) → Each P rs → first_at i k rs ≡ Some r → P r
unfolding first_at
each_first P i k r [] u e = cc
each_first P i k r (q ∷ rs) u e = go (at_or_after i k q) (each_first P i k r rs u.1) e
  where
    go : (t : Bool) → (first_at i k rs ≡ Some r → P r) → pick t (Some q) (first_at i k rs) ≡ Some r → P r
    go true f h = let z : q ≡ r = ap (row_or r) h in rw (← z) u.0
    go false f h = f h

pub row-stands : (shows : List ℕ → Bool) → shows [] ≡ false → (s : List ℕ) → Listable s → (i k : ℕ) (r : Row) → first_at i k (rows_of shows s) ≡ Some r → Standing s r
row-stands shows none s d i k r e = each_first (Standing s) i k r (rows_of shows s) (rows-stand shows none s d) e

-- ---- rows as numbers

length-numbers : (rs : List Row) → length (numbers_of_all rs) ≡ numbers_per_row * length rs
length-numbers [] = refl
length-numbers (r ∷ rs) = omega (arith, length-numbers rs)

numbers-append : (xs ys : List Row) → numbers_of_all (xs ++ ys) ≡ numbers_of_all xs ++ numbers_of_all ys
numbers-append [] ys = refl
numbers-append (r ∷ xs) ys = ap (λ (l : List ℕ). numbers_of r ++ l) (numbers-append xs ys)

-- a store of them
pub row-stored : (d new : List ℕ) (at n : ℕ) (r : Row) → n ≡ numbers_per_row → new ≡ numbers_of r → take at d ++ (new ++ drop n (drop at d)) ≡ paste d at (numbers_of r) numbers_per_row
row-stored d new at n r e h =
    let t : take numbers_per_row (numbers_of r) ≡ numbers_of r = take_all numbers_per_row (numbers_of r) (omega arith) in
    ap₂ (λ (x y : List ℕ). take at d ++ (x ++ y)) (h ∙ sym t) (ap (λ (m : ℕ). drop m (drop at d)) e ∙ drop-drop numbers_per_row at d)
    ∙ sym (append_assoc (take at d) (take numbers_per_row (numbers_of r)) (drop (at + numbers_per_row) d))

-- from slot k₀ of page i₀ on some rows were given and stored as m numbers, and slot k of page i is where to go on
pub record Given (shows : List ℕ → Bool) (s out₀ : List ℕ) (i₀ k₀ i k m : ℕ) (out : List ℕ) : Type 0 where
  pub done : List Row
  pub goes : done ++ rows_at i k (rows_of shows s) ≡ rows_at i₀ k₀ (rows_of shows s)
  pub stored : out ≡ numbers_of_all done ++ drop m out₀
  pub many : m ≡ numbers_per_row * length done
  pub room : m ≤ length out₀

-- some rows of all, the others being left: as many as there is room for, or all
cut : (all done rest : List Row) (n : ℕ) → done ++ rest ≡ all → (length done ≡ n) ⊎ ((rest ≡ []) × (length done ≤ n)) → (take n all ≡ done) × (drop n all ≡ rest)
cut all done rest n e (inl l) = rw (← e) (take_at done rest n l, drop_at done rest n l)
cut all done rest n e (inr p) =
    let z : all ≡ done = sym e ∙ ap (λ (x : List Row). done ++ x) p.0 ∙ append-nil done in
    rw (z, p.0) (take_all n done p.1, drop_of_length-le done p.1)

module _ (shows : List ℕ → Bool) (s out₀ : List ℕ) (i₀ k₀ : ℕ) where
  module _ {i k m : ℕ} {out : List ℕ} (g : Given shows s out₀ i₀ k₀ i k m out) where
    pub given-length : length out ≡ length out₀
    given-length = ap length g.stored ∙ length-append (numbers_of_all g.done) (drop m out₀) ∙ simp (length-numbers, length-drop) (omega (arith, g.many, g.room))

    pub given-more : (r : Row) (new : List ℕ) → first_at i k (rows_of shows s) ≡ Some r → m + numbers_per_row ≤ length out₀ → new ≡ paste out m (numbers_of r) numbers_per_row
        → Given shows s out₀ i₀ k₀ r.page.0 (r.slot + 1) (m + numbers_per_row) new
    given-more r new e l h =
        let front : length (numbers_of_all g.done) ≡ m = length-numbers g.done ∙ sym g.many in
        let t : take m out ≡ numbers_of_all g.done = ap (take m) g.stored ∙ take_at (numbers_of_all g.done) (drop m out₀) m front in
        let d : drop (m + numbers_per_row) out ≡ drop (m + numbers_per_row) out₀ =
        sym (drop-drop numbers_per_row m out) ∙ ap (λ (x : List ℕ). drop numbers_per_row (drop m x)) g.stored ∙ ap (drop numbers_per_row) (drop_at (numbers_of_all g.done) (drop m out₀) m front) ∙ drop-drop numbers_per_row m out₀ in
        record {
          done = g.done ++ (r ∷ []);
          goes = append_assoc g.done (r ∷ []) (rows_at r.page.0 (r.slot + 1) (rows_of shows s)) ∙ ap (λ (x : List Row). g.done ++ x) (sym (row_next shows s i k r e)) ∙ g.goes;
          stored = h ∙ rw (t, d, numbers-append g.done (r ∷ []));
          many = omega (arith, g.many, length-append g.done (r ∷ []));
          room = l;
        }

    -- what is given back in the end
    answer : (rest : List Row) → rows_at i k (rows_of shows s) ≡ rest → (length g.done ≡ length out₀ / numbers_per_row) ⊎ ((rest ≡ []) × (length g.done ≤ length out₀ / numbers_per_row))
        → (listed (m / numbers_per_row) (pages_in s) rest ≡ list_of s (rows_of shows s) i₀ k₀ (length out₀ / numbers_per_row)) × (out ≡ list_after (rows_of shows s) i₀ k₀ out₀)
    unfolding list_of list_after
    answer rest e c =
        let p = cut (rows_at i₀ k₀ (rows_of shows s)) g.done rest (length out₀ / numbers_per_row) (ap (λ (x : List Row). g.done ++ x) (sym e) ∙ g.goes) c in
        let n : m / numbers_per_row ≡ length g.done = omega (arith, g.many) in
        (rw (p.0, p.1, n), rw p.0 (g.stored ∙ ap (λ (x : ℕ). numbers_of_all g.done ++ drop x out₀) g.many))

    pub given-end : rows_at i k (rows_of shows s) ≡ []
        → (listed (m / numbers_per_row) (pages_in s) [] ≡ list_of s (rows_of shows s) i₀ k₀ (length out₀ / numbers_per_row)) × (out ≡ list_after (rows_of shows s) i₀ k₀ out₀)
    given-end e = answer [] e (inr (refl, omega (arith, g.many, g.room)))

    pub given-full : (r : Row) → first_at i k (rows_of shows s) ≡ Some r → length out₀ < m + numbers_per_row
        → (listed (m / numbers_per_row) (pages_in s) (r ∷ []) ≡ list_of s (rows_of shows s) i₀ k₀ (length out₀ / numbers_per_row)) × (out ≡ list_after (rows_of shows s) i₀ k₀ out₀)
    given-full r e l = answer (r ∷ rows_at r.page.0 (r.slot + 1) (rows_of shows s)) (row_next shows s i k r e) (inl (omega (arith, g.many, g.room)))

-- ---- the whole answer

pub list-refused : (magic : ℕ) (s : List ℕ) (rs : List Row) (i k : ℕ) (out : List ℕ) → ((verdict_of magic s).number ≡ 0 → ⊥)
    → (Err (verdict_of magic s) ≡ row_list magic s rs i k (length out / numbers_per_row)) × (out ≡ rows_after magic s rs i k out)
unfolding row_list rows_after
list-refused magic s rs i k out h = let t = ne_eqb (verdict_of magic s).number 0 h in (rw t, rw t)

module _ (magic : ℕ) (s : List ℕ) (rs : List Row) (i k : ℕ) (out : List ℕ) {r : Result Unit Refused} (is : told r ≡ verdict_of magic s) where
  pub list-err : {e : Refused} → r ≡ Err e → (Err (told_by e) ≡ row_list magic s rs i k (length out / numbers_per_row)) × (out ≡ rows_after magic s rs i k out)
  list-err q =
      let f = list-refused magic s rs i k out (err-some is q) in
      (ap Err (err-refused is q) ∙ f.0, f.1)

  pub list-taken : {u : Unit} → r ≡ Ok u → (l : RowList) (new : List ℕ) → l ≡ list_of s rs i k (length out / numbers_per_row) → new ≡ list_after rs i k out
      → (Ok l ≡ row_list magic s rs i k (length out / numbers_per_row)) × (new ≡ rows_after magic s rs i k out)
  unfolding row_list rows_after
  list-taken q l new e f = (ok-answered is q l ∙ ap (answered (verdict_of magic s)) e, rw (eq-eqb (verdict_of magic s).number 0 (ok-accepted is q)) f)
