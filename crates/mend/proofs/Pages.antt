-- One page mended: as it was where it is untouched, else repacked.
-- Assumes nothing.
use mathlib.Core.Path.{◌≡◌, refl, sym, ap, ◌∙◌}
use Prim.Native.Nat.{ℕ, zero, suc, ◌*◌, ◌<◌}
use native.Mathlib.Omega.{arith}
use mathlib.Core.List.{List}
use lib.ListN.{get_or}
use lib.Seq.{paste}
use borrow.Author.Tests.{lt-ltb, le-ltb}
use Rattle.wal.specs.Entry.{Entry}
use Rattle.wal.specs.Walk.{entries, end_of}
use Rattle.wal.proofs.Prefix.{before-end}
use Rattle.page.specs.Layout.{page_bytes, page_at}
use Rattle.page.proofs.Pasting.{paste-own}
use Rattle.rules.specs.Order.{one}
use Rattle.rules.specs.Mend.{committed, top_of, repacked, unless, mend_by, mend}
use Rattle.rules.specs.Recover.{is_touched}
use Rattle.cells.specs.Measure.{LastAt, Lasts}

module _ (es : List Entry) (i : ℕ) where
  unless-touched : (n : ℕ) (p q : List ℕ) → 0 < n → unless (committed es) es i n p q ≡ q
  unless-touched zero p q h = absurd (omega arith)
  unless-touched (suc n) p q h = refl

  module _ (h : top_of i es ≡ 0) where
    pub mend-untouched : (p : List ℕ) → mend es i p ≡ p
    unfolding mend mend_by
    mend-untouched p = rw h

    pub one-untouched : 0 ≡ one (is_touched es i)
    one-untouched = rw (le-ltb 0 (top_of i es) (omega arith))

    pub paste-untouched : (d : List ℕ) → d ≡ paste d (i * page_bytes) (mend es i (page_at i d)) page_bytes
    paste-untouched d = rw (mend-untouched (page_at i d)) (sym (paste-own d (i * page_bytes) page_bytes))

  module _ (h : 0 < top_of i es) where
    mend-touched : (p : List ℕ) → repacked (committed es) es i p ≡ mend es i p
    unfolding mend mend_by
    mend-touched p = sym (unless-touched (top_of i es) p (repacked (committed es) es i p) h)

    -- stored where the page stood
    pub paste-touched : (d : List ℕ) {v w p : List ℕ} → v ≡ paste d (i * page_bytes) w page_bytes → w ≡ repacked (committed es) es i p → p ≡ page_at i d → v ≡ paste d (i * page_bytes) (mend es i (page_at i d)) page_bytes
    paste-touched d e f q = e ∙ ap (λ (u : List ℕ). paste d (i * page_bytes) u page_bytes) (f ∙ ap (repacked (committed es) es i) q ∙ mend-touched (page_at i d))

    pub one-touched : 1 ≡ one (is_touched es i)
    one-touched = rw (lt-ltb 0 (top_of i es) h)

-- the place of the last change on a touched page
pub last-known : {s : List ℕ} {n : ℕ} {lasts : List ℕ} → Lasts s (end_of s) n lasts → {i : ℕ} → i < n → 0 < top_of i (entries s) → LastAt s (end_of s) i (get_or lasts i 0)
last-known {s} l {i} h t = l.some i h (rw (before-end s) t)
