-- Internal: the first clash before a place.
use Rattle.std.specs.Prelude.{ℕ, ◌≤◌, ◌<◌, ◌≡◌, Bool, true, false, List, ltb, leb}
use Rattle.wal.specs.Entry.{Entry}
use Rattle.wal.specs.Prefix.{Met, said, before}
use Rattle.rules.specs.Shape.{both, is_shaped, page_of}
use Rattle.states.specs.Clash.{clash_after}

-- the entry's page is one from lo up to hi
unfoldable pub is_in : ℕ → ℕ → Entry → Bool
is_in lo hi e = both (leb lo (page_of e)) (ltb (page_of e) hi)

-- the entry at p clashes, on one of those pages
abbrev pub clash_in : ℕ → ℕ → List ℕ → ℕ → Bool
clash_in lo hi s p = both (is_in lo hi (said s p)) (clash_after (before s p) (said s p))

-- each entry before limit has its shape
pub record Shaped (s : List ℕ) (limit : ℕ) : Type 0 where
  pub at : (p : ℕ) → Met s p → p < limit → is_shaped (said s p) ≡ true

-- r is the place of the first clash on those pages before stop, or stop where there is none
pub record FirstIn (lo hi : ℕ) (s : List ℕ) (stop r : ℕ) : Type 0 where
  pub met : Met s r
  pub low : r ≤ stop
  pub none : (p : ℕ) → Met s p → p < r → clash_in lo hi s p ≡ false
  pub some : r < stop → clash_after (before s r) (said s r) ≡ true
