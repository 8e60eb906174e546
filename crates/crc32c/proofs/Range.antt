-- The register of 32 bits stays one, so a checksum of bytes has 32 bits.
-- Assumes nothing.
use Prim.Native.Nat.{ℕ, zero, suc, ◌*◌, ◌/◌, ◌%◌, ◌^◌, ◌<◌}
use mathlib.Core.List.{List, [], ◌∷◌}
use native.Mathlib.Omega.{arith}
use lib.Bits.{bit_xor, xor_lt}
use Rattle.endian.specs.Numbers.{Bytes}
use Rattle.crc32c.specs.Crc.{poly, shift, shifts, fed, finished, crc32c}

shift-lt : (c : ℕ) → c < 2 ^ 32 → shift c < 2 ^ 32
unfolding shift
shift-lt c h = xor_lt 32 (c % 2 * poly) (c / 2) (omega arith) (omega arith)

shifts-lt : (n c : ℕ) → c < 2 ^ 32 → shifts n c < 2 ^ 32
unfolding shifts
shifts-lt zero c h = h
shifts-lt (suc n) c h = shifts-lt n (shift c) (shift-lt c h)

pub fed-lt : (c : ℕ) (bs : List ℕ) → c < 2 ^ 32 → Bytes bs → fed c bs < 2 ^ 32
unfolding fed
fed-lt c [] h b = h
fed-lt c (x ∷ bs) h b =
    let x_lt : x < 256 = b.at 0 in
    fed-lt (shifts 8 (bit_xor c x)) bs (shifts-lt 8 (bit_xor c x) (xor_lt 32 c x h (omega arith))) (record { at = λ i. b.at (suc i) })

pub crc-lt : {bs : List ℕ} → Bytes bs → crc32c bs < 2 ^ 32
unfolding crc32c finished
crc-lt {bs} b = xor_lt 32 (fed 0xFFFF_FFFF bs) 0xFFFF_FFFF (fed-lt 0xFFFF_FFFF bs (omega arith) b) (omega arith)
