-- What the rules say of a number, case by case.
-- Assumes nothing.
use mathlib.Core.Path.{◌≡◌, refl}
use mathlib.Core.Logic.{◌⊎◌, inl, inr}
use mathlib.Core.Bool.{Bool, true, false}
use Prim.Native.Nat.{ℕ, ◌≤◌, ◌<◌}
use native.Mathlib.Omega.{arith}
use lib.Dec.{ltb, eqb}
use borrow.Author.Tests.{lt-ltb, le-ltb, eq-eqb, ne_eqb, ltb-true, eqb-true}
use Rattle.endian.specs.Pick.{pick}
use Rattle.page.specs.Layout.{page_limit, slot_limit, row_head, longest_tuple}
use Rattle.summary.specs.Summary.{edition, edition_rule, page_rule, slot_rule, length_rule}

module _ (n : ℕ) where
  pub edition-other : (n ≡ edition → ⊥) → edition_rule n ≡ 30
  unfolding edition_rule
  edition-other h = rw (ne_eqb n edition h)

  pub edition-kept : n ≡ edition → edition_rule n ≡ 0
  unfolding edition_rule
  edition-kept e = rw (eq-eqb n edition e)

  pub edition-is : edition_rule n ≡ 0 → n ≡ edition
  unfolding edition_rule
  edition-is z = by-test (eqb n edition) refl z
    where
      by-test : (t : Bool) → eqb n edition ≡ t → ◌≡◌ {A = ℕ} (pick t 0 30) 0 → n ≡ edition
      by-test true e q = eqb-true n edition e
      by-test false e q = absurd (omega arith)

  pub length-short : n < row_head → length_rule n ≡ 31
  unfolding length_rule
  length-short l = rw (lt-ltb n row_head l)

  pub length-long : row_head ≤ n → longest_tuple < n → length_rule n ≡ 31
  unfolding length_rule
  length-long l m = rw (le-ltb n row_head l, lt-ltb longest_tuple n m)

  pub length-kept : row_head ≤ n → n ≤ longest_tuple → length_rule n ≡ 0
  unfolding length_rule
  length-kept l m = rw (le-ltb n row_head l, le-ltb longest_tuple n m)

module _ (i n : ℕ) where
  pub page-high : page_limit ≤ n → page_rule i n ≡ 31
  unfolding page_rule
  page-high l = rw (le-ltb n page_limit l)

  pub page-falls : n < page_limit → n < i → page_rule i n ≡ 32
  unfolding page_rule
  page-falls l m = rw (lt-ltb n page_limit l, lt-ltb n i m)

  pub page-kept : n < page_limit → i ≤ n → page_rule i n ≡ 0
  unfolding page_rule
  page-kept l m = rw (lt-ltb n page_limit l, le-ltb n i m)

module _ (i k page n : ℕ) where
  pub slot-high : slot_limit ≤ n → slot_rule i k page n ≡ 31
  unfolding slot_rule
  slot-high l = rw (le-ltb n slot_limit l)

  pub slot-other : n < slot_limit → (page ≡ i → ⊥) → slot_rule i k page n ≡ 0
  unfolding slot_rule
  slot-other l h = rw (lt-ltb n slot_limit l, ne_eqb page i h)

  pub slot-stays : n < slot_limit → page ≡ i → n < k → slot_rule i k page n ≡ 32
  unfolding slot_rule
  slot-stays l e m = rw (lt-ltb n slot_limit l, eq-eqb page i e, lt-ltb n k m)

  pub slot-rises : n < slot_limit → page ≡ i → k ≤ n → slot_rule i k page n ≡ 0
  unfolding slot_rule
  slot-rises l e m = rw (lt-ltb n slot_limit l, eq-eqb page i e, le-ltb n k m)

  pub slot_kept : n < slot_limit → (i < page) ⊎ ((page ≡ i) × (k ≤ n)) → slot_rule i k page n ≡ 0
  slot_kept l (inl m) = slot-other l (λ e. absurd (omega arith))
  slot_kept l (inr m) = slot-rises l m.0 m.1

  -- a slot that is not refused is below the limit
  pub slot-low : slot_rule i k page n ≡ 0 → n < slot_limit
  unfolding slot_rule
  slot-low z = by-test (ltb n slot_limit) refl z
    where
      by-test : (t : Bool) → ltb n slot_limit ≡ t → ◌≡◌ {A = ℕ} (pick t (pick (eqb page i) (pick (ltb n k) 32 0) 0) 31) 0 → n < slot_limit
      by-test true e q = ltb-true n slot_limit e
      by-test false e q = absurd (omega arith)
