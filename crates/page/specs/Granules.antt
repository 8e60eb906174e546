-- Internal: what the pass by granules keeps. A granule is 24 bytes of a body, and two tuples that start in one granule overlap.
use Rattle.std.specs.Prelude.{ℕ, suc, ◌+◌, ◌/◌, ◌≤◌, ◌<◌, ◌≡◌, true, List, length, get_or}
use Rattle.endian.specs.Pick.{pick}
use Rattle.page.specs.Layout.{row_head, slot_off, slot_len}
use Rattle.page.specs.Fault.{is_filled, is_empty}

abbrev pub granules : ℕ
granules = 680

-- where the tuple of slot k starts
abbrev pub granule_of : List ℕ → ℕ → ℕ
granule_of b k = slot_off b k / row_head

-- none of the first k slots is at fault by itself
pub record Singly (b : List ℕ) (end k : ℕ) : Type 0 where
  pub at : (j : ℕ) → j < k → pick (is_empty b j) true (is_filled b end j) ≡ true

-- the granule of each of the first k slots that has bytes holds 1 + its number
pub record Placed (b : List ℕ) (k : ℕ) (grid : List ℕ) : Type 0 where
  pub size : length grid ≡ granules
  pub low : (g : ℕ) → g < granules → get_or grid g 0 ≤ k
  pub at : (j : ℕ) → j < k → 0 < slot_len b j → get_or grid (granule_of b j) 0 ≡ suc j

-- of n slots' tuples that start in the first g granules, one that starts in an earlier granule than another ends before it
pub record Lined (b : List ℕ) (n g : ℕ) : Type 0 where
  pub at : (j k : ℕ) → j < n → k < n → 0 < slot_len b j → 0 < slot_len b k → granule_of b j < granule_of b k → granule_of b k < g
      → slot_off b j + slot_len b j ≤ slot_off b k
