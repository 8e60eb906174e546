-- Internal: sixteen tables in a row, each of 256 entries: entry k of table j is what the byte k leaves in the register after itself and j more bytes.
use Rattle.std.specs.Prelude.{◌≡◌, List, ℕ, ◌+◌, ◌*◌, ◌/◌, ◌%◌, ◌<◌, get_or}
use Rattle.crc32c.specs.Crc.{shifts}

pub record Tables (l : List ℕ) : Type 0 where
  pub at : (k : ℕ) → k < 4096 → get_or l k 0 ≡ shifts (8 * (k / 256 + 1)) (k % 256)

-- what entry k of the row is
abbrev pub leaves : ℕ → ℕ
leaves k = shifts (8 * (k / 256 + 1)) (k % 256)

-- the first k entries are right
abbrev pub Upto : List ℕ → ℕ → Type 0
Upto l k = (m : ℕ) → m < k → get_or l m 0 ≡ leaves m
