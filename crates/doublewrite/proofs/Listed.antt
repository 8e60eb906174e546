-- A list of pages: as code goes through it, and what it says of its pages that it strictly rises.
-- Assumes nothing.
use mathlib.Core.Path.{◌≡◌, sym}
use mathlib.Core.Bool.{true, false}
use Prim.Native.Nat.{ℕ, zero, suc, ◌+◌, ◌≤◌, ◌<◌}
use native.Mathlib.Numerals.{add-one}
use native.Mathlib.Omega.{arith}
use mathlib.Core.List.{List, [], ◌∷◌}
use lib.ListN.{length, drop, get_or, drop_of_length-le}
use lib.Seq.{drop-cons}
use lib.Dec.{ltb, leb}
use borrow.Author.Tests.{lt-ltb, le-ltb, le-leb, lt-leb, ltb-true, leb-true}
use Rattle.page.proofs.Picks.{both}
use Rattle.doublewrite.specs.Write.{rises}

module _ (least pages : ℕ) (l : List ℕ) (k : ℕ) where
  module _ (h : k < length l) where
    pub rise-low : get_or l k 0 < least → false ≡ rises least pages (drop k l)
    unfolding rises
    rise-low e = sym (rw (drop-cons l k 0 h, lt-leb least (get_or l k 0) e))

    module _ (m : least ≤ get_or l k 0) where
      pub rise-high : pages ≤ get_or l k 0 → false ≡ rises least pages (drop k l)
      unfolding rises
      rise-high e = sym (rw (drop-cons l k 0 h, le-leb least (get_or l k 0) m, le-ltb (get_or l k 0) pages e))

      pub rise-more : get_or l k 0 < pages → rises (get_or l k 0 + 1) pages (drop (k + 1) l) ≡ rises least pages (drop k l)
      unfolding rises
      rise-more e = rw (add-one k, add-one (get_or l k 0), drop-cons l k 0 h, le-leb least (get_or l k 0) m, lt-ltb (get_or l k 0) pages e)

  pub rise-end : length l ≤ k → true ≡ rises least pages (drop k l)
  unfolding rises
  rise-end h = sym (rw (drop_of_length-le l h))

-- ---- what it says

-- the first page and the others
rise-parts : (least pages i : ℕ) (l : List ℕ) → rises least pages (i ∷ l) ≡ true → (least ≤ i) × (i < pages) × (rises (suc i) pages l ≡ true)
unfolding rises
rise-parts least pages i l e =
    let p = both (leb least i) _ e in
    let q = both (ltb i pages) _ p.1 in
    (leb-true _ _ p.0, ltb-true _ _ q.0, q.1)

-- each page is lent, and not below the least
pub rise-each : (least pages : ℕ) (l : List ℕ) → rises least pages l ≡ true → (k : ℕ) → k < length l → (least ≤ get_or l k 0) × (get_or l k 0 < pages)
rise-each least pages [] e k h = absurd (omega arith)
rise-each least pages (i ∷ l) e zero h = let p = rise-parts least pages i l e in (p.0, p.1)
rise-each least pages (i ∷ l) e (suc k) h =
    let p = rise-parts least pages i l e in
    let q = rise-each (suc i) pages l p.2 k (omega arith) in
    (omega arith, q.1)

-- a later one is above an earlier one
pub rise-order : (least pages : ℕ) (l : List ℕ) → rises least pages l ≡ true → (j k : ℕ) → j < k → k < length l → get_or l j 0 < get_or l k 0
rise-order least pages [] e j k a b = absurd (omega arith)
rise-order least pages (i ∷ l) e j zero a b = absurd (omega arith)
rise-order least pages (i ∷ l) e zero (suc k) a b = omega (arith, rise-each (suc i) pages l (rise-parts least pages i l e).2 k (omega arith))
rise-order least pages (i ∷ l) e (suc j) (suc k) a b = rise-order (suc i) pages l (rise-parts least pages i l e).2 j k (omega arith) (omega arith)

-- there are no more than there are pages
pub rise-length : (least pages : ℕ) (l : List ℕ) → rises least pages l ≡ true → least ≤ pages → least + length l ≤ pages
rise-length least pages [] e h = omega arith
rise-length least pages (i ∷ l) e h =
    let p = rise-parts least pages i l e in
    omega (arith, rise-length (suc i) pages l p.2 (omega arith))
