-- Internal: a change that stands in a log, and the places of all that change a page.
use Rattle.std.specs.Prelude.{ℕ, zero, suc, ◌+◌, ◌<◌, max, ◌≡◌, Bool, true, false, List, [], ◌∷◌, ◌++◌, length, get_or, eqb}
use Rattle.endian.specs.Pick.{cons_if}
use Rattle.wal.specs.Entry.{Entry, size_of}
use Rattle.wal.specs.Prefix.{Met, Stands, said}
use Rattle.rules.specs.Shape.{either, is_change, is_shaped, is_on, page_of, slot_of}
use Rattle.rules.specs.Order.{last_lsn}

-- a shorter log has places that fit 31 bits
abbrev pub reach : ℕ
reach = 2147483648

-- ---- what is known of the entries of a log, entry by entry

-- each has the right shape (refusal 6)
pub record AllShaped (es : List Entry) : Type 0 where
  pub at : (xs : List Entry) (e : Entry) (ys : List Entry) → es ≡ xs ++ (e ∷ ys) → is_shaped e ≡ true

-- LSNs rise (refusal 7)
pub record LsnsRise (es : List Entry) : Type 0 where
  pub at : (xs : List Entry) (e : Entry) (ys : List Entry) → es ≡ xs ++ (e ∷ ys) → last_lsn xs < e.lsn

-- ---- one change

-- a change of the right shape stands at p
pub record ChangeAt (s : List ℕ) (p : ℕ) : Type 0 where
  pub met : Met s p
  pub stands : Stands s p
  pub change : is_change (said s p) ≡ true
  pub shaped : is_shaped (said s p) ≡ true

-- it changes page i
pub record ChangeOn (s : List ℕ) (i p : ℕ) : Type 0 where
  pub at : ChangeAt s p
  pub page : page_of (said s p) ≡ i

-- the slots that a change changes, rising
unfoldable pub slots_of : Entry → List ℕ
slots_of e = slot_of e ∷ []

-- k is one of some slots
unfoldable pub has_slot : ℕ → List ℕ → Bool
has_slot k [] = false
has_slot k (j ∷ ks) = either (eqb j k) (has_slot k ks)

-- one more than the highest of them
unfoldable pub top_slot : List ℕ → ℕ
top_slot [] = zero
top_slot (k ∷ ks) = max (suc k) (top_slot ks)

-- ---- the changes of page i

-- the places of those entries that change page i, in their order, where the first of the entries stands at `at`
unfoldable pub places_on : ℕ → List Entry → ℕ → List ℕ
places_on i [] at = []
places_on i (e ∷ es) at = cons_if (is_on i e) at (places_on i es (at + size_of e))

-- one more than the highest slot that the changes at some places change
unfoldable pub top_at : List ℕ → List ℕ → ℕ
top_at s [] = zero
top_at s (p ∷ ps) = max (top_slot (slots_of (said s p))) (top_at s ps)

-- P holds of each of some places
pub record Each (P : ℕ → Type 0) (ps : List ℕ) : Type 0 where
  pub at : (j : ℕ) → j < length ps → P (get_or ps j 0)
