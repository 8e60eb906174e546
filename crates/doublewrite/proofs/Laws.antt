-- The laws of repair: it is pagewise; twice is once; from any mixture of lent and repaired pages it ends in the same; and with a file written of good pages
-- it puts these where pages are torn and listed, and changes nothing else.
-- Assumes nothing.
use mathlib.Core.Path.{◌≡◌, refl, sym, ap, ◌∙◌}
use mathlib.Core.Logic.{◌⊎◌, inl, inr}
use mathlib.Core.Bool.{Bool, true, false}
use Prim.Native.Nat.{ℕ, zero, suc, ◌*◌, ◌/◌, ◌≤◌, ◌<◌}
use native.Mathlib.Decide.{ℕ_discrete}
use native.Mathlib.Omega.{arith}
use mathlib.Core.List.{List}
use lib.ListN.{length, get_or}
use lib.Dec.{eqb}
use borrow.Author.Tests.{eq-eqb, ne_eqb, eqb-true}
use Rattle.endian.specs.Pick.{pick}
use Rattle.refusals.specs.Verdict.{verdict}
use Rattle.page.specs.Layout.{page_bytes, page_limit, pages_in, page_at}
use Rattle.page.specs.Good.{Good}
use Rattle.page.specs.Fault.{size_wrong}
use Rattle.page.proofs.Areas.{same-pages}
use Rattle.page.proofs.Verdicts.{right-size}
use Rattle.doublewrite.specs.File.{slot_count, file_verdict}
use Rattle.doublewrite.specs.Repair.{copy_in, copy_of, is_torn, repaired_page, repaired, repair_verdict, pages_after}
use Rattle.doublewrite.specs.Write.{file_of, rises}
use Rattle.doublewrite.proofs.Repairing.{copy-good, good-taken, whole-stays, page-kept, page-restored, page-twice, page-by, length-by}
use Rattle.doublewrite.proofs.Listed.{rise-order}
use Rattle.doublewrite.proofs.ReadBack.{rise-lent, rise-count, rise-id, file-copy}

module _ (magic : ℕ) (f : List ℕ) where
  module _ (s : List ℕ) where
    -- pagewise: what page i becomes is decided by that page and its copy alone
    pub pagewise : (i : ℕ) → i < pages_in s → page_at i (repaired magic f s) ≡ repaired_page magic i (copy_of f i) (page_at i s)
    pagewise i l = page-by magic f (slot_count f) s i l

    pub length-repaired : length (repaired magic f s) ≡ pages_in s * page_bytes
    length-repaired = length-by magic f (slot_count f) s

    -- the pages stay as many
    pub count-repaired : pages_in (repaired magic f s) ≡ pages_in s
    count-repaired = omega (arith, length-repaired)

  -- a repair stopped anywhere: each page of q is as lent or as repaired; repaired again, it is what repairing at once gives
  mixture : (s q : List ℕ) → length q ≡ length s → ((i : ℕ) → i < pages_in s → (page_at i q ≡ page_at i s) ⊎ (page_at i q ≡ page_at i (repaired magic f s)))
      → repaired magic f q ≡ repaired magic f s
  mixture s q same each =
      let n : pages_in q ≡ pages_in s = ap (λ (m : ℕ). m / page_bytes) same in
      same-pages (pages_in s) (repaired magic f q) (repaired magic f s) (length-repaired q ∙ ap (λ (m : ℕ). m * page_bytes) n) (length-repaired s)
      (λ i h. pagewise q i (omega (arith, n)) ∙ one i h (each i h) ∙ sym (pagewise s i h))
    where
      one : (i : ℕ) → i < pages_in s → (page_at i q ≡ page_at i s) ⊎ (page_at i q ≡ page_at i (repaired magic f s))
          → repaired_page magic i (copy_of f i) (page_at i q) ≡ repaired_page magic i (copy_of f i) (page_at i s)
      one i h (inl e) = ap (repaired_page magic i (copy_of f i)) e
      one i h (inr e) = ap (repaired_page magic i (copy_of f i)) (e ∙ pagewise s i h) ∙ page-twice magic i (copy_of f i) (page_at i s)

  -- a page that is not torn keeps its bytes, whatever else is wrong with it
  pub whole-kept : (s : List ℕ) (i : ℕ) → i < pages_in s → is_torn (page_at i s) ≡ false → page_at i (repaired magic f s) ≡ page_at i s
  whole-kept s i h w = pagewise s i h ∙ page-kept magic i (copy_of f i) (page_at i s) (whole-stays magic i (copy_of f i) (page_at i s) w)

-- ---- as the repair's promise has it

-- an accepted repair: the pages have a right size, and are then the repaired ones
module _ (s f : List ℕ) (ok : (repair_verdict s f).number ≡ 0) where
  repair-sized : size_wrong s ≡ false
  unfolding repair_verdict
  repair-sized = go (size_wrong s) ok
    where
      go : (b : Bool) → (pick b (verdict 1 0) (file_verdict f (pages_in s))).number ≡ 0 → b ≡ false
      go true h = absurd (omega arith)
      go false h = refl

  pub repair-whole : length s ≡ pages_in s * page_bytes
  repair-whole = let z = right-size s repair-sized in omega arith

  pub after-repair : (magic : ℕ) → pages_after magic s f ≡ repaired magic f s
  unfolding pages_after
  after-repair magic = rw (eq-eqb _ _ ok)

  -- of any pages of the same length
  pub repair-again : (q : List ℕ) → length q ≡ length s → (repair_verdict q f).number ≡ 0
  unfolding repair_verdict size_wrong
  repair-again q same = rw same ok

-- refused, they are as lent
as_lent : (magic : ℕ) (s f : List ℕ) → eqb (repair_verdict s f).number 0 ≡ false → pages_after magic s f ≡ s
unfolding pages_after
as_lent magic s f e = rw e

-- with the same file: stopped between two pages and begun again, it leaves what it would have left
pub stopped : (magic : ℕ) (s f : List ℕ) → (repair_verdict s f).number ≡ 0 → (q : List ℕ) → length q ≡ length s
    → ((i : ℕ) → i < pages_in s → (page_at i q ≡ page_at i s) ⊎ (page_at i q ≡ page_at i (pages_after magic s f))) → pages_after magic q f ≡ pages_after magic s f
stopped magic s f ok q same each =
    let a : pages_after magic s f ≡ repaired magic f s = after-repair s f ok magic in
    after-repair q f (repair-again s f ok q same) magic ∙ mixture magic f s q same (rw a at each) ∙ sym a

-- twice leaves the bytes of once, refused or not
pub pages-twice : (magic : ℕ) (s f : List ℕ) → pages_after magic (pages_after magic s f) f ≡ pages_after magic s f
pages-twice magic s f = go (eqb (repair_verdict s f).number 0) refl
  where
    go : (b : Bool) → eqb (repair_verdict s f).number 0 ≡ b → pages_after magic (pages_after magic s f) f ≡ pages_after magic s f
    go true e =
        let ok : (repair_verdict s f).number ≡ 0 = eqb-true _ _ e in
        stopped magic s f ok (pages_after magic s f) (ap length (after-repair s f ok magic) ∙ length-repaired magic f s ∙ sym (repair-whole s f ok)) (λ i h. inr refl)
    go false e = ap (λ (p : List ℕ). pages_after magic p f) (as_lent magic s f e)

-- ---- with a file written of pages g

module _ (g l : List ℕ) (few : pages_in g ≤ page_limit) (rise : rises 0 (pages_in g) l ≡ true) where
  -- among the first n slots page number k of the list has its copy in slot k
  copy-among : (k n : ℕ) → k < n → n ≤ length l → copy_in (file_of g l) (get_or l k 0) n ≡ page_at (get_or l k 0) g
  unfolding copy_in
  copy-among k zero a b = absurd (omega arith)
  copy-among k (suc n) a b =
      elim (ℕ_discrete k n) [
        | yes e ↦ rw (e, rise-id g l few rise n (omega arith), eq-eqb (get_or l n 0) (get_or l n 0) refl) (file-copy g l (rise-lent g l few rise) n (omega arith))
        | no d ↦ rw (rise-id g l few rise n (omega arith), ne_eqb (get_or l n 0) (get_or l k 0) (λ e. omega (arith, rise-order 0 (pages_in g) l rise k n (omega arith) (omega arith)))) (copy-among k n (omega arith) (omega arith))
      ]

  pub written-copy : (k : ℕ) → k < length l → copy_of (file_of g l) (get_or l k 0) ≡ page_at (get_or l k 0) g
  written-copy k h = rw (rise-count g l few rise) (copy-among k (length l) h (omega arith))

  -- a torn page that is listed becomes the good page that was written
  pub written-restores : (magic : ℕ) (s : List ℕ) (k : ℕ) → k < length l → get_or l k 0 < pages_in s → Good magic (get_or l k 0) (page_at (get_or l k 0) g) → is_torn (page_at (get_or l k 0) s) ≡ true
      → page_at (get_or l k 0) (repaired magic (file_of g l) s) ≡ page_at (get_or l k 0) g
  written-restores magic s k h b good torn =
      let i : ℕ = get_or l k 0 in
      pagewise magic (file_of g l) s i b
      ∙ ap (λ (c : List ℕ). repaired_page magic i c (page_at i s)) (written-copy k h)
      ∙ page-restored magic i (page_at i g) (page_at i s) (good-taken magic i (page_at i g) (page_at i s) torn (copy-good magic i (page_at i g) good))
