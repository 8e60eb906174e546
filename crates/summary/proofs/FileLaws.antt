-- What was written reads back; each last LSN and row list has one file only; as many steps as the count give the rows.
-- Assumes nothing.
use mathlib.Core.Path.{◌≡◌, refl, sym, ap, ap₂, ◌∙◌}
use mathlib.Core.Logic.{◌⊎◌, inl, inr}
use mathlib.Core.Bool.{Bool, true, false}
use Prim.Native.Nat.{ℕ, zero, suc, ◌^◌, ◌≤◌, ◌<◌}
use native.Mathlib.Omega.{arith}
use mathlib.Core.List.{List, [], ◌∷◌, ◌++◌, map, append_assoc}
use lib.ListN.{length, take, drop, get_or, length-drop, length-map, drop_of_length-le}
use lib.Seq.{drop-drop, drop_at, take_at}
use lib.Dec.{ltb, eqb}
use borrow.Author.Tests.{le-ltb, ltb-false, eqb-true, eq-eqb}
use Rattle.std.specs.Prelude.{Some, None, Ok, slice_get}
use Rattle.std.proofs.lemmas.Option.{slice_get-get_or, slice_get_past}
use Rattle.endian.specs.Pick.{pick}
use Rattle.endian.specs.Numbers.{Bytes}
use Rattle.endian.proofs.Bytes.{bytes_drop}
use Rattle.refusals.specs.Verdict.{verdict, accepted}
use Rattle.refusals.proofs.Then.{then-zero}
use Rattle.page.specs.Layout.{page_limit, slot_limit, row_head, longest_tuple, pages_in}
use Rattle.page.specs.Fault.{verdict_of}
use Rattle.page.specs.Rows.{visible, visible_rows}
use Rattle.page.specs.declared.Row.{Row}
use Rattle.page.proofs.Listing.{listable}
use Rattle.page.proofs.RowLists.{Rising, rising-pages}
use Rattle.page.proofs.ListedRows.{Each, Standing, rows-stand}
use Rattle.page.proofs.Visibility.{empty}
use Rattle.page.proofs.Verdicts.{accepted-size}
use Rattle.summary.specs.Number.{groups, spelling, value_of, value_at, after_at, refusal_at, any_number}
use Rattle.summary.specs.Summary.{edition, head_of, row_bytes, rows_bytes, file_of, shortened, summary_rows, summary_file, write_verdict, summary_written, summary_after, edition_rule, page_rule, slot_rule, length_rule, number_verdict, second, third, behind, three_verdict, head_verdict, row_verdict, rows_verdict, file_verdict, lsn_of, count_of, row_at, rows_from, rows_of, no_row, step_of, step_rows}
use Rattle.summary.specs.declared.SummaryRow.{SummaryRow}
use Rattle.summary.proofs.Answered.{answered-ok}
use Rattle.summary.proofs.Spelling.{spelling-split, well-spelt, spelling-back, value-back, whole_back, well-back}
use Rattle.summary.proofs.Places.{Reads, reads-refusal, zero-reads}
use Rattle.summary.proofs.RowBytes.{few-rows}
use Rattle.summary.proofs.RuleLaws.{edition-is, page-kept, slot_kept, length-kept}

-- ---- one number

module _ (rule : ℕ → ℕ) (f : List ℕ) (p : ℕ) where
  -- accepted, it reads and keeps its rule
  pub accepted-reads : (number_verdict rule f p).number ≡ 0 → Reads f p × (rule (value_at f p) ≡ 0)
  unfolding number_verdict
  accepted-reads z = by-test (eqb (refusal_at rule f p) 0) refl z
    where
      by-test : (t : Bool) → eqb (refusal_at rule f p) 0 ≡ t → (pick t accepted (verdict (refusal_at rule f p) p)).number ≡ 0 → Reads f p × (rule (value_at f p) ≡ 0)
      by-test true e q = zero-reads f p rule (eqb-true (refusal_at rule f p) 0 e)
      by-test false e q = zero-reads f p rule q

  pub reads-accepted : Reads f p → rule (value_at f p) ≡ 0 → number_verdict rule f p ≡ accepted
  unfolding number_verdict
  reads-accepted r z = rw (reads-refusal f p rule r, z)

module _ (f : List ℕ) (p : ℕ) where
  -- it stands there in its own groups
  pub number_is : Bytes f → Reads f p → drop p f ≡ groups (value_at f p) ++ drop (after_at f p) f
  unfolding value_at after_at
  number_is y r =
      let s : groups (value_of (spelling (drop p f))) ≡ spelling (drop p f) = (well-spelt (drop p f) (bytes_drop p y) r.whole r.well).0 in
      rw (s, ← drop-drop (length (spelling (drop p f))) p f) (spelling-split (drop p f) r.whole)

  -- groups that stand there read back
  pub number-back : (n : ℕ) (u : List ℕ) → drop p f ≡ groups n ++ u → n < 2 ^ 64 → Reads f p × (value_at f p ≡ n) × (drop (after_at f p) f ≡ u)
  unfolding value_at after_at
  number-back n u e l =
      let s : spelling (drop p f) ≡ groups n = ap spelling e ∙ spelling-back u n in (
        record { whole = rw e (whole_back u n); well = rw s (well-back u n l) },
        ap value_of s ∙ value-back u n,
        rw (s, ← drop-drop (length (groups n)) p f, e) (drop_at (groups n) u (length (groups n)) refl),
      )

-- ---- three numbers

module _ (rule₁ : ℕ → ℕ) (rule₂ : ℕ → ℕ → ℕ) (rule₃ : ℕ → ℕ) (f : List ℕ) (p : ℕ) where
  pub record Three : Type 0 where
    pub reads₁ : Reads f p
    pub reads₂ : Reads f (second f p)
    pub reads₃ : Reads f (third f p)
    pub kept₁ : rule₁ (value_at f p) ≡ 0
    pub kept₂ : rule₂ (value_at f p) (value_at f (second f p)) ≡ 0
    pub kept₃ : rule₃ (value_at f (third f p)) ≡ 0

  pub accepted-three : (three_verdict rule₁ rule₂ rule₃ f p).number ≡ 0 → Three
  unfolding three_verdict
  accepted-three z =
      let a = then-zero (number_verdict rule₁ f p) _ z in
      let b = then-zero (number_verdict (rule₂ (value_at f p)) f (second f p)) _ a.1 in
      let n₁ = accepted-reads rule₁ f p a.0 in
      let n₂ = accepted-reads (rule₂ (value_at f p)) f (second f p) b.0 in
      let n₃ = accepted-reads rule₃ f (third f p) b.1 in
      record { reads₁ = n₁.0; reads₂ = n₂.0; reads₃ = n₃.0; kept₁ = n₁.1; kept₂ = n₂.1; kept₃ = n₃.1 }

  pub three-accepted : Three → three_verdict rule₁ rule₂ rule₃ f p ≡ accepted
  unfolding three_verdict
  three-accepted t =
      rw (reads-accepted rule₁ f p t.reads₁ t.kept₁, reads-accepted (rule₂ (value_at f p)) f (second f p) t.reads₂ t.kept₂, reads-accepted rule₃ f (third f p) t.reads₃ t.kept₃)

  pub three-is : Bytes f → Three → drop p f ≡ groups (value_at f p) ++ (groups (value_at f (second f p)) ++ (groups (value_at f (third f p)) ++ drop (behind f p) f))
  three-is y t =
      number_is f p y t.reads₁
      ∙ ap (λ (l : List ℕ). groups (value_at f p) ++ l) (number_is f (second f p) y t.reads₂ ∙ ap (λ (l : List ℕ). groups (value_at f (second f p)) ++ l) (number_is f (third f p) y t.reads₃))

  pub three_back : (a b c : ℕ) (u : List ℕ) → drop p f ≡ groups a ++ (groups b ++ (groups c ++ u)) → a < 2 ^ 64 → b < 2 ^ 64 → c < 2 ^ 64
      → rule₁ a ≡ 0 → rule₂ a b ≡ 0 → rule₃ c ≡ 0
      → Three × (value_at f p ≡ a) × (value_at f (second f p) ≡ b) × (value_at f (third f p) ≡ c) × (drop (behind f p) f ≡ u)
  three_back a b c u e la lb lc ka kb kc =
      let x = number-back f p a (groups b ++ (groups c ++ u)) e la in
      let y = number-back f (second f p) b (groups c ++ u) x.2 lb in
      let z = number-back f (third f p) c u y.2 lc in (
        record { reads₁ = x.0; reads₂ = y.0; reads₃ = z.0; kept₁ = ap rule₁ x.1 ∙ ka; kept₂ = ap₂ rule₂ x.1 y.1 ∙ kb; kept₃ = ap rule₃ z.1 ∙ kc },
        x.1,
        y.1,
        z.1,
        z.2,
      )

-- ---- the rows

-- each is within the ranges and behind the one before, the first at or after slot k of page i
abbrev pub Kept : ℕ → ℕ → List SummaryRow → Type 0
Kept i k [] = Unit
Kept i k (r ∷ rs) =
    (r.page.0 < page_limit) × (r.slot < slot_limit) × (row_head ≤ r.length) × (r.length ≤ longest_tuple) × ((i < r.page.0) ⊎ ((r.page.0 ≡ i) × (k ≤ r.slot)))
    × Kept r.page.0 (suc r.slot) rs

low-page : (i page k n : ℕ) → (i < page) ⊎ ((page ≡ i) × (k ≤ n)) → i ≤ page
low-page i page k n (inl l) = omega arith
low-page i page k n (inr e) = omega arith

-- accepted, they are all that stands there
pub rows_are : (n i k : ℕ) (f : List ℕ) (p : ℕ) → Bytes f → (rows_verdict n i k f p).number ≡ 0 → drop p f ≡ rows_bytes (rows_from n f p)
unfolding rows_verdict rows_from rows_bytes row_bytes
rows_are zero i k f p y z = by-test (ltb p (length f)) refl z
  where
    by-test : (t : Bool) → ltb p (length f) ≡ t → (pick t (verdict 33 p) accepted).number ≡ 0 → drop p f ≡ []
    by-test true e q = absurd (omega arith)
    by-test false e q = drop_of_length-le f (ltb-false p (length f) e)
rows_are (suc n) i k f p y z =
    let a = then-zero (row_verdict i k f p) _ z in
    let t = accepted-three (page_rule i) (slot_rule i k) length_rule f p a.0 in
    three-is (page_rule i) (slot_rule i k) length_rule f p y t
    ∙ rw (rows_are n (value_at f p) (suc (value_at f (second f p))) f (behind f p) y a.1) (simp append_assoc)

-- what stands there is accepted and reads back
pub rows_back : (rows : List SummaryRow) (i k : ℕ) (f : List ℕ) (p : ℕ) → Kept i k rows → drop p f ≡ rows_bytes rows
    → (rows_verdict (length rows) i k f p ≡ accepted) × (rows_from (length rows) f p ≡ rows)
unfolding rows_verdict rows_from rows_bytes row_bytes
rows_back [] i k f p h e = (rw (le-ltb p (length f) (omega (arith, length-drop p f, ap length e))), refl)
rows_back (r ∷ rs) i k f p h e =
    let s : drop p f ≡ groups r.page.0 ++ (groups r.slot ++ (groups r.length ++ rows_bytes rs)) = e ∙ simp append_assoc in
    let t = three_back (page_rule i) (slot_rule i k) length_rule f p r.page.0 r.slot r.length (rows_bytes rs) s (omega (arith, h.0)) (omega (arith, h.1)) (omega (arith, h.3))
    (page-kept i r.page.0 h.0 (low-page i r.page.0 k r.slot h.4))
    (slot_kept i k r.page.0 r.slot h.1 h.4)
    (length-kept r.length h.2 h.3) in
    let b = rows_back rs r.page.0 (suc r.slot) f (behind f p) h.5 t.4 in (
      rw (three-accepted (page_rule i) (slot_rule i k) length_rule f p t.0, t.1, t.2) b.0,
      rw (t.1, t.2, t.3) (ap (λ (l : List SummaryRow). r ∷ l) b.1),
    )

-- ---- the file

length-rows : (n : ℕ) (f : List ℕ) (p : ℕ) → length (rows_from n f p) ≡ n
unfolding rows_from
length-rows zero f p = refl
length-rows (suc n) f p = ap suc (length-rows n f (behind f p))

module _ (f : List ℕ) (ok : (file_verdict f).number ≡ 0) where
  pub head_ok : (head_verdict f).number ≡ 0
  unfolding file_verdict
  head_ok = (then-zero (head_verdict f) _ ok).0

  pub rows_ok : (rows_verdict (count_of f) 0 0 f (behind f 0)).number ≡ 0
  unfolding file_verdict count_of
  rows_ok = (then-zero (head_verdict f) _ ok).1

-- a file that is not refused is the file of what it says
pub the-file : (f : List ℕ) → Bytes f → (file_verdict f).number ≡ 0 → f ≡ file_of (lsn_of f) (rows_of f)
unfolding file_of head_of lsn_of rows_of count_of
the-file f y z =
    let t = accepted-three edition_rule (λ n. any_number) any_number f 0 (head_ok f z) in
    three-is edition_rule (λ n. any_number) any_number f 0 y t
    ∙ rw (edition-is (value_at f 0) t.kept₁, rows_are (value_at f (third f 0)) 0 0 f (behind f 0) y (rows_ok f z), length-rows (value_at f (third f 0)) f (behind f 0)) (simp append_assoc)

-- each last LSN and row list has one file only
pub one-file : (f g : List ℕ) → Bytes f → Bytes g → (file_verdict f).number ≡ 0 → (file_verdict g).number ≡ 0 → lsn_of f ≡ lsn_of g → rows_of f ≡ rows_of g → f ≡ g
one-file f g x y a b l r = the-file f x a ∙ ap₂ file_of l r ∙ sym (the-file g y b)

-- reading what was written
pub record Back (f : List ℕ) (lsn : ℕ) (rows : List SummaryRow) : Type 0 where
  pub taken : file_verdict f ≡ accepted
  pub last : lsn_of f ≡ lsn
  pub count : count_of f ≡ length rows
  pub list : rows_of f ≡ rows

spelled : (lsn : ℕ) (rows : List SummaryRow) → file_of lsn rows ≡ groups edition ++ (groups lsn ++ (groups (length rows) ++ rows_bytes rows))
unfolding file_of head_of
spelled lsn rows = simp append_assoc

pub read_back : (lsn : ℕ) (rows : List SummaryRow) → lsn < 2 ^ 64 → length rows < 2 ^ 64 → Kept 0 0 rows → Back (file_of lsn rows) lsn rows
unfolding file_verdict lsn_of count_of rows_of edition_rule
read_back lsn rows l m h =
    let f : List ℕ = file_of lsn rows in
    let t = three_back edition_rule (λ n. any_number) any_number f 0 edition lsn (length rows) (rows_bytes rows) (spelled lsn rows) (omega arith) l m refl refl refl in
    let b = rows_back rows 0 0 f (behind f 0) h t.4 in
    record {
      taken = rw (three-accepted edition_rule (λ n. any_number) any_number f 0 t.0, t.3) b.0;
      last = t.2;
      count = t.3;
      list = rw t.3 b.1;
    }

-- the rows of the listing keep the rules
rows-kept : (s : List ℕ) (i k : ℕ) (rs : List Row) → pages_in s ≤ page_limit → Each (Standing s) rs → Rising i k rs → Kept i k (map shortened rs)
rows-kept s i k [] l u v = tt
rows-kept s i k (r ∷ rs) l u v =
    (omega (arith, u.0.lent), u.0.low, u.0.long, u.0.short, v.0, rows-kept s r.page.0 (suc r.slot) rs l u.1 v.1)

-- what is written of pages that the listing does not refuse reads back
pub written_back : (magic : ℕ) (s : List ℕ) (lsn : ℕ) → (verdict_of magic s).number ≡ 0 → lsn < 2 ^ 64 → Back (summary_file s lsn) lsn (summary_rows s)
written_back magic s lsn z l =
    let d = listable magic s z in
    let n : pages_in s ≤ page_limit = (accepted-size magic s 0 z).1 in
    read_back lsn (summary_rows s) l (omega (arith, length-map (visible_rows s) shortened, few-rows s d n))
    (rows-kept s 0 0 (visible_rows s) n (rows-stand visible (empty true) s d) (rising-pages visible s (pages_in s) 0))

-- the first bytes of the area, as many as the writer says, are the file, and it reads back
module _ (magic : ℕ) (s : List ℕ) (lsn : ℕ) (area : List ℕ) (n : ℕ) (is : Ok n ≡ summary_written magic s lsn area) where
  written : ((write_verdict magic s lsn area).number ≡ 0) × (n ≡ length (summary_file s lsn))
  written = answered-ok (write_verdict magic s lsn area) (length (summary_file s lsn)) n is

  pub written-front : take n (summary_after magic s lsn area) ≡ summary_file s lsn
  unfolding summary_after
  written-front = rw (written.1, eq-eqb (write_verdict magic s lsn area).number 0 written.0) (take_at (summary_file s lsn) (drop (length (summary_file s lsn)) area) (length (summary_file s lsn)) refl)

  pub read-after-write : lsn < 2 ^ 64 → Back (take n (summary_after magic s lsn area)) lsn (summary_rows s)
  unfolding write_verdict
  read-after-write l = rw written-front (written_back magic s lsn (then-zero (verdict_of magic s) _ written.0).0 l)

-- ---- steps

step_row : (rule₁ : ℕ → ℕ) (rule₂ : ℕ → ℕ → ℕ) (rule₃ : ℕ → ℕ) (f : List ℕ) (p : ℕ) → (three_verdict rule₁ rule₂ rule₃ f p).number ≡ 0
    → step_of f p ≡ record { row = row_at f p; after = behind f p }
unfolding step_of
step_row rule₁ rule₂ rule₃ f p z =
    let t = accepted-three rule₁ rule₂ rule₃ f p z in
    rw (three-accepted any_number (λ n. any_number) any_number f p (record { reads₁ = t.reads₁; reads₂ = t.reads₂; reads₃ = t.reads₃; kept₁ = refl; kept₂ = refl; kept₃ = refl }))

steps-rows : (n i k : ℕ) (f : List ℕ) (p : ℕ) → (rows_verdict n i k f p).number ≡ 0 → step_rows n f p ≡ rows_from n f p
unfolding rows_verdict step_rows rows_from
steps-rows zero i k f p z = refl
steps-rows (suc n) i k f p z =
    let a = then-zero (row_verdict i k f p) _ z in
    rw (step_row (page_rule i) (slot_rule i k) length_rule f p a.0)
    (ap (λ (l : List SummaryRow). row_at f p ∷ l) (steps-rows n (value_at f p) (suc (value_at f (second f p))) f (behind f p) a.1))

-- as many steps as the count, from the first row's place on, give the rows
pub steps-give-rows : (f : List ℕ) → (file_verdict f).number ≡ 0 → step_rows (count_of f) f (behind f 0) ≡ rows_of f
unfolding rows_of
steps-give-rows f z = steps-rows (count_of f) 0 0 f (behind f 0) (rows_ok f z)

-- a row is the same however many steps follow it
step-early : (n c : ℕ) (f : List ℕ) (p : ℕ) → n < c → get_or (step_rows (suc n) f p) n no_row ≡ get_or (step_rows c f p) n no_row
unfolding step_rows
step-early n zero f p l = absurd (omega arith)
step-early zero (suc c) f p l = refl
step-early (suc n) (suc c) f p l = step-early n c f (step_of f p).after (omega arith)

module _ (f : List ℕ) (z : (file_verdict f).number ≡ 0) (n : ℕ) where
  pub row-there : n < count_of f → slice_get (rows_of f) n ≡ Some (get_or (step_rows (suc n) f (behind f 0)) n no_row)
  unfolding rows_of
  row-there l =
      let e = step-early n (count_of f) f (behind f 0) l ∙ ap (λ (rs : List SummaryRow). get_or rs n no_row) (steps-give-rows f z) in
      rw e (slice_get-get_or (rows_of f) n no_row (omega (arith, length-rows (count_of f) f (behind f 0))))

  pub row-past : count_of f ≤ n → slice_get (rows_of f) n ≡ None
  unfolding rows_of
  row-past l = slice_get_past (rows_from (count_of f) f (behind f 0)) n (omega (arith, length-rows (count_of f) f (behind f 0)))
