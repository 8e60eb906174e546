-- The register's bit-step is linear over `bit_xor`, and so is any number of steps; zero bits at the low end only move what stands above them.
-- Assumes nothing.
use mathlib.Core.Path.{◌≡◌, refl, sym, ap, ap₂, ◌∙◌}
use Prim.Native.Nat.{ℕ, zero, suc, ◌+◌, ◌*◌, ◌/◌, ◌%◌, ◌^◌}
use native.Mathlib.Nat.{zero-add, suc-add, mod-lt, mul-div_cancel, mul-mod_left, zero-mul, mul_assoc, mul-one, pow-suc}
use lib.Pow.{split, pow_pos}
use lib.Bits.{bit_xor, xor_shr, xor_shifted}
use Rattle.crc32c.specs.Crc.{poly, shift, shifts}
use Rattle.crc32c.proofs.Xor.{xor4, odd-times}

pub shift-xor : (a b : ℕ) → shift (bit_xor a b) ≡ bit_xor (shift a) (shift b)
unfolding shift
shift-xor a b =
    ap₂ bit_xor (odd-times poly a b) (xor_shr a b 1) ∙ xor4 (a % 2 * poly) (b % 2 * poly) (a / 2) (b / 2)

pub shifts-xor : (n a b : ℕ) → shifts n (bit_xor a b) ≡ bit_xor (shifts n a) (shifts n b)
unfolding shifts
shifts-xor zero a b = refl
shifts-xor (suc n) a b = ap (shifts n) (shift-xor a b) ∙ shifts-xor n (shift a) (shift b)

pub shifts-add : (m n c : ℕ) → shifts (m + n) c ≡ shifts n (shifts m c)
unfolding shifts
shifts-add zero n c = ap (λ (k : ℕ). shifts k c) (zero-add n)
shifts-add (suc m) n c = ap (λ (k : ℕ). shifts k c) (suc-add m n) ∙ shifts-add m n _

pub shift-shifts : (n c : ℕ) → shift (shifts n c) ≡ shifts n (shift c)
unfolding shifts
shift-shifts zero c = refl
shift-shifts (suc n) c = shift-shifts n (shift c)

pub shift-even : (a : ℕ) → shift (a * 2) ≡ a
unfolding shift
shift-even a =
    ap₂ bit_xor (ap (λ (x : ℕ). x * poly) (mul-mod_left a 2) ∙ zero-mul poly) (mul-div_cancel a (pow_pos 1))

-- n zero bits at the low end are shifted out
pub shifts-out : (n a : ℕ) → shifts n (a * 2 ^ n) ≡ a
unfolding shifts
shifts-out zero a = mul-one a
shifts-out (suc n) a =
    ap (λ (x : ℕ). shifts n (shift x)) (ap (λ (x : ℕ). a * x) (pow-suc 2 n) ∙ sym (mul_assoc a (2 ^ n) 2))
    ∙ ap (shifts n) (shift-even (a * 2 ^ n)) ∙ shifts-out n a

pub shifts-zero : (n : ℕ) → shifts n 0 ≡ 0
shifts-zero n = ap (shifts n) (sym (zero-mul (2 ^ n))) ∙ shifts-out n 0

-- n bits of a register: the rest of it, and what its n low bits leave
pub shifts-split : (n c : ℕ) → shifts n c ≡ bit_xor (c / 2 ^ n) (shifts n (c % 2 ^ n))
shifts-split n c =
    ap (shifts n) (sym (xor_shifted (c / 2 ^ n) n (c % 2 ^ n) (mod-lt c (pow_pos n)) ∙ split c n))
    ∙ shifts-xor n (c / 2 ^ n * 2 ^ n) (c % 2 ^ n)
    ∙ ap (λ (x : ℕ). bit_xor x (shifts n (c % 2 ^ n))) (shifts-out n (c / 2 ^ n))
