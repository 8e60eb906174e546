-- A mended page area page by page, and two that are mended alike.
-- Assumes nothing.
use mathlib.Core.Path.{◌≡◌, refl, ap, ap₂, ◌∙◌}
use Prim.Native.Nat.{ℕ, zero, suc, ◌+◌, ◌*◌, ◌≤◌, ◌<◌}
use native.Mathlib.Omega.{arith}
use native.Mathlib.Nat.{add-zero}
use mathlib.Core.List.{List, ◌++◌}
use lib.ListN.{length, length-append}
use Rattle.wal.specs.Entry.{Entry}
use Rattle.page.specs.Layout.{page_bytes, page_at}
use Rattle.page.proofs.Areas.{page-first, page-later}
use Rattle.rules.specs.Mend.{mend}
use Rattle.rules.specs.Recover.{mended_from}

module _ (es : List Entry) (s : List ℕ) where
  -- page j of the n pages from i on, mended
  pub page-mended : (n i j : ℕ) → ((k : ℕ) → i ≤ k → k < i + n → length (mend es k (page_at k s)) ≡ page_bytes) → j < n
      → page_at j (mended_from es s n i) ≡ mend es (i + j) (page_at (i + j) s)
  unfolding mended_from
  page-mended zero i j h l = absurd (omega arith)
  page-mended (suc n) i zero h l =
      rw add-zero (page-first (mend es i (page_at i s)) (mended_from es s n (suc i)) (h i (omega arith) (omega arith)))
  page-mended (suc n) i (suc j) h l =
      let e : suc i + j ≡ i + suc j = omega arith in
      page-later j (mend es i (page_at i s)) (mended_from es s n (suc i)) (h i (omega arith) (omega arith))
      ∙ page-mended n (suc i) j (λ k a b. h k (omega arith) (omega arith)) (omega arith)
      ∙ ap (λ (k : ℕ). mend es k (page_at k s)) e

  pub length-mended : (n i : ℕ) → ((k : ℕ) → i ≤ k → k < i + n → length (mend es k (page_at k s)) ≡ page_bytes) → length (mended_from es s n i) ≡ n * page_bytes
  unfolding mended_from
  length-mended zero i h = refl
  length-mended (suc n) i h =
      length-append (mend es i (page_at i s)) (mended_from es s n (suc i))
      ∙ omega (arith, h i (omega arith) (omega arith), length-mended n (suc i) (λ k a b. h k (omega arith) (omega arith)))

-- two areas mended alike, page by page
pub mended-alike : (es : List Entry) (s t : List ℕ) (n i : ℕ) → ((k : ℕ) → i ≤ k → k < i + n → mend es k (page_at k s) ≡ mend es k (page_at k t))
    → mended_from es s n i ≡ mended_from es t n i
unfolding mended_from
mended-alike es s t zero i h = refl
mended-alike es s t (suc n) i h =
    ap₂ ◌++◌ (h i (omega arith) (omega arith)) (mended-alike es s t n (suc i) (λ k a b. h k (omega arith) (omega arith)))
