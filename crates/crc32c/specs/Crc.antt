-- CRC32c, the Castagnoli checksum of RFC 3720, bit by bit, the lowest bit first (paper 01: reflected polynomial 82F63B78 hex,
-- start all ones, final inversion).
use Rattle.std.specs.Prelude.{List, [], ◌∷◌, ℕ, zero, suc, ◌*◌, ◌/◌, ◌%◌}
use Rattle.std.specs.Int.Bits.{bit_xor}

abbrev pub poly : ℕ
poly = 0x82F6_3B78

-- one bit leaves the register at its low end; where it is 1, the polynomial goes in
unfoldable pub shift : ℕ → ℕ
shift c = bit_xor (c % 2 * poly) (c / 2)

-- n bits leave
unfoldable pub shifts : ℕ → ℕ → ℕ
shifts zero c = c
shifts (suc n) c = shifts n (shift c)

-- the register c after the bytes of a list, eight bits for each
unfoldable pub fed : ℕ → List ℕ → ℕ
fed c [] = c
fed c (b ∷ bs) = fed (shifts 8 (bit_xor c b)) bs

-- the register before the first byte
abbrev pub start : ℕ
start = 0xFFFF_FFFF

-- the checksum that a register stands for
unfoldable pub finished : ℕ → ℕ
finished c = bit_xor c 0xFFFF_FFFF

-- the checksum of a list of bytes
unfoldable pub crc32c : List ℕ → ℕ
crc32c bs = finished (fed start bs)
