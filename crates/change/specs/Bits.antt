-- Internal: the outcome bits, one for each change of a log.
use Rattle.std.specs.Prelude.{ℕ, zero, suc, ◌+◌, ◌-◌, ◌*◌, ◌/◌, ◌%◌, ◌≡◌, Bool, List, get_or, set, eqb}
use Rattle.endian.specs.Pick.{pick}
use Rattle.wal.specs.Read.{first}
use Rattle.wal.specs.Walk.{entries}
use Rattle.wal.specs.Prefix.{said}
use Rattle.rules.specs.Mend.{committed}
use Rattle.change.specs.Places.{ChangeAt}

-- a change has at least so many bytes: the fixed parts, a key and an image
abbrev pub shortest_change : ℕ
shortest_change = 77

-- so each has a number of its own
unfoldable pub number_for : ℕ → ℕ
number_for p = (p - first) / shortest_change

-- so many bytes of a log have their bits in one byte
abbrev pub span_of_byte : ℕ
span_of_byte = 616

-- bit j of a number, the lowest is bit 0, and what that bit counts
unfoldable pub bit_in : ℕ → ℕ → Bool
bit_in zero n = eqb (n % 2) 1
bit_in (suc j) n = bit_in j (n / 2)

unfoldable pub weight : ℕ → ℕ
weight zero = 1
weight (suc j) = 2 * weight j

-- the outcome bit of the change at p
unfoldable pub bit_of : List ℕ → ℕ → Bool
bit_of bits p = bit_in (number_for p % 8) (get_or bits (number_for p / 8) 0)

-- the bits with that one set
unfoldable pub with_bit : List ℕ → ℕ → List ℕ
with_bit bits p =
    pick (bit_of bits p) bits
    (set bits (number_for p / 8) (get_or bits (number_for p / 8) 0 + weight (number_for p % 8)))

-- the bit of each change of the log tells whether its transaction committed
pub record Outcomes (s bits : List ℕ) : Type 0 where
  pub at : (p : ℕ) → ChangeAt s p → bit_of bits p ≡ committed (entries s) (said s p).txn
