-- Repair page by page: what becomes of one page, and of each page of an area.
-- Assumes nothing.
use mathlib.Core.Path.{◌≡◌, refl, ap, ◌∙◌}
use mathlib.Core.Bool.{Bool, true, false}
use Prim.Native.Nat.{ℕ, zero, suc, ◌+◌, ◌*◌, ◌≤◌, ◌<◌}
use native.Mathlib.Nat.{add-zero, zero-add}
use native.Mathlib.Omega.{arith}
use mathlib.Core.List.{List, []}
use lib.ListN.{length, length-append}
use lib.Dec.{eqb}
use borrow.Author.Tests.{eq-eqb, eqb-true}
use Rattle.std.specs.Prelude.{Option, None, Some}
use Rattle.endian.specs.Pick.{pick}
use Rattle.crc32c.specs.Crc.{crc32c}
use Rattle.page.specs.Layout.{page_bytes, pages_in, page_at, crc_of, body_of}
use Rattle.page.specs.Good.{Good}
use Rattle.page.specs.Fault.{fault_of, is_sound}
use Rattle.page.specs.declared.Fault.{Fault}
use Rattle.page.proofs.Picks.{never, both}
use Rattle.page.proofs.FaultLaws.{sound-good, good-sound}
use Rattle.page.proofs.Areas.{page-first, page-later}
use Rattle.page.proofs.Verdicts.{page-length}
use Rattle.doublewrite.specs.Repair.{copy_in, is_torn, is_good, is_taken, repaired_page, repaired_by}

-- ---- one page

is-sound : (f : Option Fault) → is_sound f ≡ true → f ≡ None
is-sound None e = refl
is-sound (Some f) e = never e

module _ (magic i : ℕ) where
  -- a copy passes exactly if it is a good page
  pub good-copy : (c : List ℕ) → is_good magic i c ≡ true → Good magic i c
  unfolding is_good
  good-copy c e =
      let p = both (eqb (length c) page_bytes) _ e in
      sound-good magic i c (eqb-true _ _ p.0) (is-sound (fault_of magic i c) p.1)

  pub copy-good : (c : List ℕ) → Good magic i c → is_good magic i c ≡ true
  unfolding is_good
  copy-good c g = rw (eq-eqb (length c) page_bytes g.size, good-sound magic i c g)

  -- no copy is taken where there is none
  pub none-taken : (p : List ℕ) → is_taken magic i [] p ≡ false
  unfolding is_taken is_good
  none-taken p = by-test (is_torn p)
    where
      by-test : (t : Bool) → pick t false false ≡ false
      by-test true = refl
      by-test false = refl

  -- a good page is not torn
  pub good-whole : (p : List ℕ) → Good magic i p → is_torn p ≡ false
  unfolding is_torn
  good-whole p g = rw (eq-eqb (crc_of p) (crc32c (body_of p)) g.crc_right)

  module _ (c p : List ℕ) where
    -- a page that is not torn stays, and so does one whose copy is not good
    pub whole-stays : is_torn p ≡ false → is_taken magic i c p ≡ false
    unfolding is_taken
    whole-stays h = rw h

    pub bad-stays : is_torn p ≡ true → is_good magic i c ≡ false → is_taken magic i c p ≡ false
    unfolding is_taken
    bad-stays h g = rw (h, g)

    pub good-taken : is_torn p ≡ true → is_good magic i c ≡ true → is_taken magic i c p ≡ true
    unfolding is_taken
    good-taken h g = rw (h, g)

    -- what is taken is good
    pub taken-good : is_taken magic i c p ≡ true → Good magic i c
    unfolding is_taken
    taken-good e = good-copy c (both (is_torn p) _ e).1

    pub page-kept : is_taken magic i c p ≡ false → repaired_page magic i c p ≡ p
    unfolding repaired_page
    page-kept h = rw h

    pub page-restored : is_taken magic i c p ≡ true → repaired_page magic i c p ≡ c
    unfolding repaired_page
    page-restored h = rw h

    -- a page is kept, or its copy is taken
    pub page-cases : (A : List ℕ → Type 0) → (is_taken magic i c p ≡ false → A p) → (is_taken magic i c p ≡ true → A c) → A (repaired_page magic i c p)
    unfolding repaired_page
    page-cases A k t = go (is_taken magic i c p) refl
      where
        go : (b : Bool) → is_taken magic i c p ≡ b → A (pick b c p)
        go true e = t e
        go false e = k e

    pub length-page : length p ≡ page_bytes → length (repaired_page magic i c p) ≡ page_bytes
    length-page h = page-cases (λ q. length q ≡ page_bytes) (λ e. h) (λ e. (taken-good e).size)

  -- repaired twice is repaired once
  pub page-twice : (c p : List ℕ) → repaired_page magic i c (repaired_page magic i c p) ≡ repaired_page magic i c p
  page-twice c p =
      page-cases c p (λ q. repaired_page magic i c q ≡ q) (page-kept c p)
      (λ e. page-kept c c (whole-stays c c (good-whole c (taken-good c p e))))

-- ---- an area

module _ (magic : ℕ) (f : List ℕ) (k : ℕ) (s : List ℕ) where
  abbrev after : ℕ → List ℕ
  after i = repaired_page magic i (copy_in f i k) (page_at i s)

  long : (i : ℕ) → i < pages_in s → length (after i) ≡ page_bytes
  long i h = length-page magic i (copy_in f i k) (page_at i s) (page-length s i h)

  -- page j of the n pages from i on, repaired
  page-repaired : (n i j : ℕ) → i + n ≤ pages_in s → j < n → page_at j (repaired_by magic f k s n i) ≡ after (i + j)
  unfolding repaired_by
  page-repaired zero i j h l = absurd (omega arith)
  page-repaired (suc n) i zero h l = rw add-zero (page-first (after i) (repaired_by magic f k s n (suc i)) (long i (omega arith)))
  page-repaired (suc n) i (suc j) h l =
      let e : suc i + j ≡ i + suc j = omega arith in
      page-later j (after i) (repaired_by magic f k s n (suc i)) (long i (omega arith)) ∙ page-repaired n (suc i) j (omega arith) (omega arith) ∙ ap after e

  length_from : (n i : ℕ) → i + n ≤ pages_in s → length (repaired_by magic f k s n i) ≡ n * page_bytes
  unfolding repaired_by
  length_from zero i h = refl
  length_from (suc n) i h =
      length-append (after i) (repaired_by magic f k s n (suc i)) ∙ omega (arith, long i (omega arith), length_from n (suc i) (omega arith))

  pub page-by : (i : ℕ) → i < pages_in s → page_at i (repaired_by magic f k s (pages_in s) 0) ≡ after i
  page-by i l = page-repaired (pages_in s) 0 i (omega arith) l ∙ ap after (zero-add i)

  pub length-by : length (repaired_by magic f k s (pages_in s) 0) ≡ pages_in s * page_bytes
  length-by = length_from (pages_in s) 0 (omega arith)
