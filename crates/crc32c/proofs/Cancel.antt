-- The sparse multiple: a register that is shifted by 209 * k bytes is the sum of itself and of what it is after 14 * k, 39 * k, 54 * k and 144 * k bytes.
-- It is enough to see that at the register's top bit, which is computed for k = 1 and k = 2.
-- Assumes nothing.
use mathlib.Core.Path.{◌≡◌, refl, sym, ap, ap₂, ◌∙◌, subst}
use Prim.Native.Nat.{ℕ, zero, suc, ◌+◌, ◌*◌, ◌/◌, ◌%◌, ◌^◌, ◌<◌}
use native.Mathlib.Nat.{zero-mul, add-mul, mul_assoc, mod-lt, mul-one, pow-suc, div-lt_iff_lt-mul, le_of_suc-le-suc, not-suc-le-zero}
use native.Mathlib.Omega.{arith}
use lib.Dec.{eqb→eq}
use lib.Bits.{bit_xor, xor_shifted}
use lib.Pow.{split, pow_pos, pow-add, shl_lt}
use Rattle.crc32c.specs.Crc.{shift, shifts}
use Rattle.crc32c.specs.Sparse.{degree, e₄, e₃, e₂, e₁, pull}
use Rattle.crc32c.proofs.Xor.{xor4}
use Rattle.crc32c.proofs.Shifts.{shifts-xor, shift-xor, shift-even, shift-shifts, shifts-zero}

-- ---- `pull` is linear

pub pull-same : (k : ℕ) (f g : ℕ → ℕ) (j : ℕ) → ((i : ℕ) → f i ≡ g i) → pull k f j ≡ pull k g j
unfolding pull
pull-same k f g j h =
    ap₂ bit_xor (h _) (ap₂ bit_xor (h _) (ap₂ bit_xor (h _) (ap₂ bit_xor (h _) (h _))))

pub pull-xor : (k : ℕ) (f g : ℕ → ℕ) (j : ℕ) → pull k (λ i. bit_xor (f i) (g i)) j ≡ bit_xor (pull k f j) (pull k g j)
unfolding pull
pull-xor k f g j =
    ap (bit_xor (bit_xor (f (j + e₄ * k)) (g (j + e₄ * k))))
    (ap (bit_xor (bit_xor (f (j + e₃ * k)) (g (j + e₃ * k))))
    (ap (bit_xor (bit_xor (f (j + e₂ * k)) (g (j + e₂ * k)))) (xor4 (f (j + e₁ * k)) (g (j + e₁ * k)) (f j) (g j))
    ∙ xor4 (f (j + e₂ * k)) (g (j + e₂ * k)) _ _)
    ∙ xor4 (f (j + e₃ * k)) (g (j + e₃ * k)) _ _)
    ∙ xor4 (f (j + e₄ * k)) (g (j + e₄ * k)) _ _

pub pull-shifts : (k n : ℕ) (f : ℕ → ℕ) (j : ℕ) → pull k (λ i. shifts n (f i)) j ≡ shifts n (pull k f j)
unfolding pull
pull-shifts k n f j =
    sym (shifts-xor n (f (j + e₄ * k)) _
    ∙ ap (bit_xor (shifts n (f (j + e₄ * k)))) (shifts-xor n (f (j + e₃ * k)) _
    ∙ ap (bit_xor (shifts n (f (j + e₃ * k)))) (shifts-xor n (f (j + e₂ * k)) _
    ∙ ap (bit_xor (shifts n (f (j + e₂ * k)))) (shifts-xor n (f (j + e₁ * k)) (f j)))))

-- from place a on
pub pull-at : (k a : ℕ) (f : ℕ → ℕ) (j : ℕ) → pull k (λ i. f (a + i)) j ≡ pull k f (a + j)
unfolding pull
pull-at k a f j =
    ap₂ bit_xor (ap f (at e₄)) (ap₂ bit_xor (ap f (at e₃)) (ap₂ bit_xor (ap f (at e₂)) (ap₂ bit_xor (ap f (at e₁)) refl)))
  where
    at : (m : ℕ) → a + (j + m * k) ≡ a + j + m * k
    at m = omega arith

-- ---- the sum of the register's six places

abbrev pub six : ℕ → ℕ → ℕ
six k x = bit_xor (shifts (8 * (degree * k)) x) (pull k (λ i. shifts (8 * i) x) 0)

six-xor : (k x y : ℕ) → six k (bit_xor x y) ≡ bit_xor (six k x) (six k y)
six-xor k x y =
    ap₂ bit_xor (shifts-xor (8 * (degree * k)) x y)
    (pull-same k (λ i. shifts (8 * i) (bit_xor x y)) (λ i. bit_xor (shifts (8 * i) x) (shifts (8 * i) y)) 0 (λ i. shifts-xor (8 * i) x y)
    ∙ pull-xor k (λ i. shifts (8 * i) x) (λ i. shifts (8 * i) y) 0)
    ∙ xor4 (shifts (8 * (degree * k)) x) (shifts (8 * (degree * k)) y) _ _

six-shift : (k x : ℕ) → six k (shift x) ≡ shift (six k x)
unfolding shifts
six-shift k x =
    ap₂ bit_xor (sym (shift-shifts (8 * (degree * k)) x))
    (pull-same k (λ i. shifts (8 * i) (shift x)) (λ i. shift (shifts (8 * i) x)) 0 (λ i. sym (shift-shifts (8 * i) x))
    ∙ pull-shifts k 1 (λ i. shifts (8 * i) x) 0)
    ∙ sym (shift-xor (shifts (8 * (degree * k)) x) _)

-- what holds at the top bit, by computation
abbrev pub Top : ℕ → Type 0
Top k = six k (2 ^ 31) ≡ 0

module _ (k : ℕ) (top : Top k) where
  six-zero : six k 0 ≡ 0
  unfolding pull
  six-zero =
      ap₂ bit_xor (shifts-zero (8 * (degree * k)))
      (ap₂ bit_xor (shifts-zero (8 * (0 + e₄ * k)))
      (ap₂ bit_xor (shifts-zero (8 * (0 + e₃ * k)))
      (ap₂ bit_xor (shifts-zero (8 * (0 + e₂ * k)))
      (ap₂ bit_xor (shifts-zero (8 * (0 + e₁ * k))) (shifts-zero (8 * 0))))))

  six-bit : (b : ℕ) → b < 2 → six k (b * 2 ^ 31) ≡ 0
  six-bit zero h = six-zero
  six-bit (suc zero) h = top
  six-bit (suc (suc b)) h = absurd (not-suc-le-zero (le_of_suc-le-suc (le_of_suc-le-suc h)))

  six_high : (i j x : ℕ) → i + j ≡ 32 → x < 2 ^ i → six k (x * 2 ^ j) ≡ 0
  six_high zero j x e h =
      let z : x ≡ 0 = omega arith in
      ap (λ (y : ℕ). six k (y * 2 ^ j)) z ∙ ap (six k) (zero-mul (2 ^ j)) ∙ six-zero
  six_high (suc i) j x e h =
      let lo = x % 2 ^ i in
      let b = x / 2 ^ i in
      let e1 : i + j ≡ 31 = omega arith in
      let e2 : i + suc j ≡ 32 = omega arith in
      let p : x < 2 ^ i * 2 = subst (λ (y : ℕ). x < y) (pow-suc 2 i) h in
      let bl : b < 2 = (div-lt_iff_lt-mul {k = 2 ^ i} {x = x} {y = 2} (pow_pos i)).1 (omega arith) in
      let ll : lo < 2 ^ i = mod-lt x (pow_pos i) in
      let small : lo * 2 ^ j < 2 ^ 31 = subst (λ (y : ℕ). lo * 2 ^ j < 2 ^ y) e1 (shl_lt i j ll) in
      let parts : bit_xor (b * 2 ^ 31) (lo * 2 ^ j) ≡ x * 2 ^ j =
      xor_shifted b 31 (lo * 2 ^ j) small
      ∙ ap (λ (y : ℕ). b * y + lo * 2 ^ j) (ap (λ (y : ℕ). 2 ^ y) (sym e1) ∙ pow-add 2 i j)
      ∙ ap (λ (y : ℕ). y + lo * 2 ^ j) (sym (mul_assoc b (2 ^ i) (2 ^ j)))
      ∙ sym (add-mul (b * 2 ^ i) lo (2 ^ j))
      ∙ ap (λ (y : ℕ). y * 2 ^ j) (split x i) in
      let even : shift (lo * 2 ^ suc j) ≡ lo * 2 ^ j =
      ap shift (ap (λ (y : ℕ). lo * y) (pow-suc 2 j) ∙ sym (mul_assoc lo (2 ^ j) 2)) ∙ shift-even (lo * 2 ^ j) in
      let rest : six k (lo * 2 ^ j) ≡ 0 =
      ap (six k) (sym even) ∙ six-shift k (lo * 2 ^ suc j) ∙ ap shift (six_high i (suc j) lo e2 ll) ∙ shift-even 0 in
      ap (six k) (sym parts) ∙ six-xor k (b * 2 ^ 31) (lo * 2 ^ j) ∙ ap₂ bit_xor (six-bit b bl) rest

  pub six-none : (x : ℕ) → x < 2 ^ 32 → six k x ≡ 0
  six-none x h = ap (six k) (sym (mul-one x)) ∙ six_high 32 0 x refl h

-- the two scales
pub top-1 : Top 1
unfolding shifts shift pull
top-1 = eqb→eq (six 1 (2 ^ 31)) 0 tt

pub top-2 : Top 2
unfolding shifts shift pull
top-2 = eqb→eq (six 2 (2 ^ 31)) 0 tt
