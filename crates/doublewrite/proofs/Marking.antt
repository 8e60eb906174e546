-- Bits set and read.
-- Assumes nothing.
use mathlib.Core.Path.{◌≡◌, refl, sym, ap, ◌∙◌}
use Prim.Native.Nat.{ℕ, zero, suc, ◌+◌, ◌*◌, ◌/◌, ◌%◌, ◌^◌, ◌≤◌, ◌<◌, max}
use native.Mathlib.Decide.{ℕ_discrete}
use native.Mathlib.Nat.{pow-suc, pow-succ', one-le-pow, pow-le-pow_right, zero-div, div-div-eq-div-mul, div-one, div-eq_of_lt}
use native.Mathlib.Numerals.{add-one}
use native.Mathlib.Omega.{arith}
use mathlib.Core.List.{List}
use mathlib.Core.Bool.{Bool, true, false, not}
use lib.ListN.{length, get_or, set, replicate, get_or-replicate}
use lib.Seq.{get_or-set_same, get_or-set_other}
use lib.Bits.{bit_or, or_step, or_shr}
use lib.Dec.{eqb}
use borrow.Author.Tests.{eq-eqb, ne_eqb}
use Rattle.endian.specs.Pick.{pick}
use Rattle.page.specs.Layout.{page_limit}
use Rattle.doublewrite.specs.File.{id_at, is_named}
use Rattle.doublewrite.specs.Marks.{mark_bytes, bit_at, Marks}

eqb-suc : (j k : ℕ) → eqb j k ≡ eqb (suc j) (suc k)
eqb-suc j k = elim (ℕ_discrete j k) [ yes e ↦ rw (eq-eqb j k e, eq-eqb (suc j) (suc k) (ap suc e)) | no h ↦ rw (ne_eqb j k h, ne_eqb (suc j) (suc k) (λ e. h (omega arith))) ]

-- bit k of a power of 2
power-bit : (j k : ℕ) → 2 ^ j / 2 ^ k % 2 ≡ pick (eqb j k) 1 0
power-bit zero zero = refl
power-bit zero (suc k) =
    let h : 1 ≤ 2 ^ k = one-le-pow k 2 (omega arith) in
    let z : 1 / 2 ^ suc k ≡ 0 = rw pow-suc (div-eq_of_lt (omega arith)) in
    rw (z, ne_eqb 0 (suc k) (λ e. omega arith))
power-bit (suc j) zero =
    rw (pow-suc, div-one, ne_eqb (suc j) 0 (λ e. omega arith)) (omega arith)
power-bit (suc j) (suc k) =
    let q : 2 ^ j * 2 / 2 ≡ 2 ^ j = omega arith in
    let z : 2 ^ suc j / 2 ^ suc k ≡ 2 ^ j / 2 ^ k = rw (pow-suc 2 j, pow-succ' 2 k, ← div-div-eq-div-mul, q) in
    rw z (power-bit j k ∙ ap (λ (b : Bool). pick b 1 0) (eqb-suc j k))

-- bit k, after the bit j was set
bit-set : (a j k : ℕ) → bit_or a (2 ^ j) / 2 ^ k % 2 ≡ pick (eqb j k) 1 (a / 2 ^ k % 2)
bit-set a j k =
    let x : ℕ = a / 2 ^ k in
    let y : ℕ = 2 ^ j / 2 ^ k in
    let s : bit_or x y % 2 ≡ max (x % 2) (y % 2) = rw or_step (omega arith) in
    rw (or_shr, s, power-bit) (by-test (eqb j k) (x % 2) (omega arith))
  where
    by-test : (b : Bool) (r : ℕ) → r < 2 → max r (pick b 1 0) ≡ pick b 1 r
    by-test true r h = omega arith
    by-test false r h = omega arith

-- a power of 2 in a byte
small : (r : ℕ) → r < 8 → 1 * 2 ^ r % 256 ≡ 2 ^ r
small r h =
    let l : 2 ^ r ≤ 2 ^ 7 = pow-le-pow_right (omega arith) {i = r} {j = 7} (omega arith) in
    omega arith

-- bit j, after the bit of page i was set
pub marked-bit : (l : List ℕ) (i j : ℕ) → i / 8 < length l
    → bit_at (set l (i / 8) (bit_or (get_or l (i / 8) 0) (1 * 2 ^ (i % 8) % 256))) j ≡ pick (eqb i j) 1 (bit_at l j)
unfolding bit_at
marked-bit l i j h =
    rw (small (i % 8) (omega arith))
    (elim (ℕ_discrete (j / 8) (i / 8)) [
      | yes e ↦
          rw (e, get_or-set_same l (i / 8) (bit_or (get_or l (i / 8) 0) (2 ^ (i % 8))) 0 h, bit-set (get_or l (i / 8) 0) (i % 8) (j % 8))
          (ap (λ (b : Bool). pick b 1 (get_or l (i / 8) 0 / 2 ^ (j % 8) % 2)) (same_bit e))
      | no d ↦
          rw (get_or-set_other l (i / 8) (j / 8) (bit_or (get_or l (i / 8) 0) (2 ^ (i % 8))) 0 d, ne_eqb i j (λ e. d (ap (λ (n : ℕ). n / 8) (sym e))))
    ])
  where
    same_bit : j / 8 ≡ i / 8 → eqb (i % 8) (j % 8) ≡ eqb i j
    same_bit e =
        elim (ℕ_discrete i j) [
          | yes z ↦ rw (z, eq-eqb (j % 8) (j % 8) refl, eq-eqb j j refl)
          | no d ↦ rw (ne_eqb i j d, ne_eqb (i % 8) (j % 8) (λ z. d (omega arith)))
        ]

-- ---- the bits of the pages that slots name

pub marks-none : (f : List ℕ) → Marks f 0 (replicate mark_bytes 0)
unfolding bit_at is_named
marks-none f = record { at = λ i h. rw (get_or-replicate {A = ℕ} mark_bytes (i / 8) 0 0 (omega arith), zero-div) }

module _ {f : List ℕ} {k : ℕ} {l : List ℕ} (m : Marks f k l) where
  -- as the set says of a page that is put into it whether it is new
  module _ (i : ℕ) (h : i < page_limit) where
    pub marks-old : not (eqb (bit_at l i) 1) ≡ false → is_named f i k ≡ true
    marks-old e = by-test (is_named f i k) (rw (m.at i h) at e)
      where
        by-test : (b : Bool) → not (eqb (pick b 1 0) 1) ≡ false → b ≡ true
        by-test true e = refl
        by-test false e = sym e

    pub marks-new : not (eqb (bit_at l i) 1) ≡ true → is_named f i k ≡ false
    marks-new e = by-test (is_named f i k) (rw (m.at i h) at e)
      where
        by-test : (b : Bool) → not (eqb (pick b 1 0) 1) ≡ true → b ≡ false
        by-test true e = sym e
        by-test false e = refl

  -- one slot more
  pub marks-more : (i : ℕ) (v : List ℕ) → i ≡ id_at f k → ((j : ℕ) → bit_at v j ≡ pick (eqb i j) 1 (bit_at l j)) → Marks f (k + 1) v
  unfolding is_named
  marks-more i v e b =
      record { at = λ j h. rw (add-one k, ← e) (b j ∙ ap (pick (eqb i j) 1) (m.at j h) ∙ by-test (eqb i j) (is_named f j k)) }
    where
      by-test : (t u : Bool) → ◌≡◌ {A = ℕ} (pick t 1 (pick u 1 0)) (pick (pick t true u) 1 0)
      by-test true u = refl
      by-test false u = refl
