-- Internal: the checksums of the pieces of a list, mixed into one number.
use Rattle.std.specs.Prelude.{List, ℕ, zero, suc, ◌*◌}
use Rattle.std.specs.Int.Bits.{bit_xor}
use Rattle.endian.specs.Numbers.{part}
use Rattle.crc32c.specs.Crc.{crc32c}

-- of the first k pieces of n bytes
unfoldable pub mixed : ℕ → ℕ → List ℕ → ℕ
mixed zero n s = 0
mixed (suc k) n s = bit_xor (mixed k n s) (crc32c (part (k * n) n s))
