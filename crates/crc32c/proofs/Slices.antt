-- A word of any number of bytes leaves the register as the sum of what each of its bytes leaves by itself, so it is as many looks at the tables.
-- Assumes nothing.
use mathlib.Core.Path.{◌≡◌, sym, ap, ap₂, ◌∙◌}
use mathlib.Core.List.{List}
use Prim.Native.Nat.{ℕ, zero, suc, ◌+◌, ◌*◌, ◌/◌, ◌%◌, ◌^◌, ◌<◌}
use native.Mathlib.Nat.{add-zero, div-one, div-eq_of_lt}
use native.Mathlib.Omega.{arith}
use lib.Bits.{bit_xor, xor_zero_l}
use lib.Pow.{shr-shr, high, low}
use lib.ListN.{get_or}
use Rattle.crc32c.specs.Crc.{shifts}
use Rattle.crc32c.specs.Tables.{Tables}
use Rattle.crc32c.proofs.Shifts.{shifts-xor, shifts-add, shifts-split, shifts-zero}

-- eight bits and n more: the low byte apart from the rest
peel : (n x : ℕ) → shifts (8 + n) x ≡ bit_xor (shifts n (x / 256)) (shifts (8 + n) (x % 256))
peel n x =
    shifts-add 8 n x ∙ ap (shifts n) (shifts-split 8 x)
    ∙ shifts-xor n (x / 256) (shifts 8 (x % 256))
    ∙ ap (bit_xor (shifts n (x / 256))) (sym (shifts-add 8 n (x % 256)))

-- what n bytes of x from byte j up leave after themselves and k more bytes: what stands above them, and a look for each, the highest first
unfoldable pub looks : ℕ → ℕ → ℕ → ℕ → ℕ
looks k zero j x = shifts (8 * k) (x / 2 ^ (8 * j))
looks k (suc n) j x = bit_xor (looks k n (suc j) x) (shifts (8 * (k + suc n)) (x / 2 ^ (8 * j) % 256))

-- the step, for every width
pub sliced : (k n j x : ℕ) → shifts (8 * (k + n)) (x / 2 ^ (8 * j)) ≡ looks k n j x
unfolding looks
sliced k zero j x = ap (λ (m : ℕ). shifts (8 * m) (x / 2 ^ (8 * j))) (add-zero k)
sliced k (suc n) j x =
    let y = x / 2 ^ (8 * j) in
    let e : 8 * (k + suc n) ≡ 8 + 8 * (k + n) = omega arith in
    let f : 8 * j + 8 ≡ 8 * suc j = omega arith in
    ap (λ (m : ℕ). shifts m y) e ∙ peel (8 * (k + n)) y
    ∙ ap₂ bit_xor (ap (shifts (8 * (k + n))) (shr-shr x (8 * j) 8 ∙ ap (λ (m : ℕ). x / 2 ^ m) f) ∙ sliced k n (suc j) x)
    (ap (λ (m : ℕ). shifts m (y % 256)) (sym e))

-- one, two and four bytes of a number, as the code looks them up: all of it, or with what stands above them
pub looked-1 : (x a : ℕ) → a ≡ shifts 8 (x % 256) → bit_xor (x / 2 ^ 8) a ≡ shifts 8 x
looked-1 x a ea = ap (bit_xor (x / 2 ^ 8)) ea ∙ sym (shifts-split 8 x)

pub looked-2 : (x a b : ℕ) → a ≡ shifts 8 (x / 2 ^ 8 % 256) → b ≡ shifts 16 (x % 256) → bit_xor (bit_xor (x / 2 ^ 16) a) b ≡ shifts 16 x
unfolding looks shifts
looked-2 x a b ea eb =
    ap₂ bit_xor (ap (bit_xor (x / 2 ^ 16)) ea) (eb ∙ ap (λ (y : ℕ). shifts 16 (y % 256)) (sym (div-one x)))
    ∙ sym (sliced 0 2 0 x) ∙ ap (shifts 16) (div-one x)

pub looked-4 : (k x a b c d : ℕ) → x < 2 ^ 32 → a ≡ shifts (8 * (k + 1)) (x / 2 ^ 24 % 256) → b ≡ shifts (8 * (k + 1 + 1)) (x / 2 ^ 16 % 256)
    → c ≡ shifts (8 * (k + 2 + 1)) (x / 2 ^ 8 % 256) → d ≡ shifts (8 * (k + 3 + 1)) (x % 256) → bit_xor (bit_xor (bit_xor a b) c) d ≡ shifts (8 * (k + 4)) x
unfolding looks
looked-4 k x a b c d h ea eb ec ed =
    let e1 : k + 1 + 1 ≡ k + 2 = omega arith in
    let e2 : k + 2 + 1 ≡ k + 3 = omega arith in
    let e3 : k + 3 + 1 ≡ k + 4 = omega arith in
    let top : shifts (8 * k) (x / 2 ^ 32) ≡ 0 = ap (shifts (8 * k)) (div-eq_of_lt {n = x} {m = 2 ^ 32} h) ∙ shifts-zero (8 * k) in
    ap₂ bit_xor (ap₂ bit_xor (ap₂ bit_xor
    (ea ∙ sym (xor_zero_l (shifts (8 * (k + 1)) (x / 2 ^ 24 % 256))) ∙ ap (λ (z : ℕ). bit_xor z (shifts (8 * (k + 1)) (x / 2 ^ 24 % 256))) (sym top))
    (eb ∙ ap (λ (m : ℕ). shifts (8 * m) (x / 2 ^ 16 % 256)) e1))
    (ec ∙ ap (λ (m : ℕ). shifts (8 * m) (x / 2 ^ 8 % 256)) e2))
    (ed ∙ ap₂ (λ (m y : ℕ). shifts (8 * m) (y % 256)) e3 (sym (div-one x)))
    ∙ sym (sliced k 4 0 x) ∙ ap (shifts (8 * (k + 4))) (div-one x)

-- the entry for the byte b in table k
pub entry : (t : List ℕ) (k b : ℕ) → Tables t → k < 16 → b < 256 → get_or t (k * 256 + b) 0 ≡ shifts (8 * (k + 1)) b
entry t k b T h l =
    T.at (k * 256 + b) (omega arith) ∙ ap₂ (λ (p q : ℕ). shifts (8 * (p + 1)) q) (high k 8 l) (low k 8 l)
