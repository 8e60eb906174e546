-- Internal: the places that the walk comes by, and the entries before such a place and from it on.
use Rattle.std.specs.Prelude.{ℕ, ◌+◌, ◌-◌, ◌≡◌, List, [], ◌∷◌, map, ltb, Option, Some, None}
use Rattle.endian.specs.Pick.{pick}
use Rattle.wal.specs.Entry.{Entry, entry_of}
use Rattle.wal.specs.Read.{first, length_at, length_before, view, read_at}
use Rattle.wal.specs.Walk.{views_from, end_from, views}
use Rattle.wal.specs.declared.EntryView.{EntryView}
use Rattle.wal.specs.declared.Reading.{Reading}
use Rattle.wal.specs.declared.Reading.TheVariants.{Whole, End}

-- the entry at p by the length that stands there, and what it says
abbrev pub entry_in : List ℕ → ℕ → EntryView
entry_in s p = view s p (length_at s p)

abbrev pub said : List ℕ → ℕ → Entry
said s p = entry_of s (entry_in s p)

-- a whole entry stands at p
pub record Stands (s : List ℕ) (p : ℕ) : Type 0 where
  pub is : read_at s p ≡ Whole (entry_in s p)

-- the reading of a walk to `end` over entries that are known to stand
unfoldable pub known_at : List ℕ → ℕ → ℕ → Reading
known_at s p end = pick (ltb p end) (Whole (entry_in s p)) End

-- the same backward, to the first entry
unfoldable pub known_before : List ℕ → ℕ → Option EntryView
known_before s p = pick (ltb first p) (Some (entry_in s (p - length_before s p))) None

-- those of some entries that start before p, where the first starts at `at`
unfoldable pub up_to : ℕ → ℕ → List EntryView → List EntryView
up_to p at [] = []
up_to p at (v ∷ vs) = pick (ltb at p) (v ∷ up_to p (at + v.length) vs) []

-- the walk comes by p: there stands one of its entries, or it ends there
pub record Met (s : List ℕ) (p : ℕ) : Type 0 where
  pub is : end_from first (up_to p first (views s)) ≡ p

-- what the entries before p say, and those from p on
unfoldable pub before : List ℕ → ℕ → List Entry
before s p = map (entry_of s) (up_to p first (views s))

unfoldable pub onward : List ℕ → ℕ → List Entry
onward s p = map (entry_of s) (views_from s p)
