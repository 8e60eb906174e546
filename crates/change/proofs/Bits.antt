-- The outcome bits: one set, and the others kept. Assumes nothing.
use Prim.Native.Nat.{ℕ, zero, suc, ◌+◌, ◌*◌, ◌/◌, ◌%◌, ◌≤◌, ◌<◌, ◌^◌}
use mathlib.Core.Path.{◌≡◌, refl, sym, ap, ◌∙◌, subst}
use mathlib.Core.Bool.{Bool, true, false}
use mathlib.Core.List.{List, ◌∷◌, ◌++◌}
use native.Mathlib.Omega.{arith}
use native.Mathlib.Nat.{pow-succ', div-one, div-div-eq-div-mul, one-mul}
use native.Mathlib.Numerals.{one-add}
use lib.Pow.{shl_exact}
use lib.ListN.{length, get_or, set, length-set}
use lib.Seq.{get_or-set_same, get_or-set_other}
use lib.Dec.{eqb, lit<}
use borrow.Author.Tests.{eq-eqb, eqb-true, eqb-false}
use Rattle.endian.specs.Pick.{pick}
use Rattle.wal.specs.Entry.{Entry, sizes_of}
use Rattle.wal.specs.Walk.{entries}
use Rattle.wal.specs.Read.{length_at}
use Rattle.wal.specs.Prefix.{said, before, onward}
use Rattle.rules.specs.Shape.{is_change}
use Rattle.rules.specs.Mend.{committed}
use Rattle.change.specs.Places.{ChangeAt}
use Rattle.change.specs.Bits.{number_for, span_of_byte, bit_in, weight, bit_of, with_bit, Outcomes}
use Rattle.change.proofs.Places.{change-apart, change-size, split_at, met-place}

-- ---- the bits of one number

-- an unset one, set
pub bit_added : (j n : ℕ) → bit_in j n ≡ false → bit_in j (n + weight j) ≡ true
unfolding bit_in weight
bit_added zero n h = let z : n % 2 ≡ 1 → ⊥ = eqb-false _ _ h in eq-eqb ((n + 1) % 2) 1 (omega arith)
bit_added (suc j) n h = let e : (n + 2 * weight j) / 2 ≡ n / 2 + weight j = omega arith in rw e (bit_added j (n / 2) h)

-- the others stay
pub bit_kept : (j k n : ℕ) → bit_in j n ≡ false → (k ≡ j → ⊥) → bit_in k (n + weight j) ≡ bit_in k n
unfolding bit_in weight
bit_kept zero zero n h d = absurd (d refl)
bit_kept zero (suc k) n h d =
    let z : n % 2 ≡ 1 → ⊥ = eqb-false _ _ h in
    let e : (n + 1) / 2 ≡ n / 2 = omega arith in
    rw e
bit_kept (suc j) zero n h d = let e : (n + 2 * weight j) % 2 ≡ n % 2 = omega arith in rw e
bit_kept (suc j) (suc k) n h d =
    let e : (n + 2 * weight j) / 2 ≡ n / 2 + weight j = omega arith in
    rw e (bit_kept j k (n / 2) h (λ q. d (ap suc q)))

-- ---- of a list of bytes

module _ (bits : List ℕ) (p : ℕ) (room : number_for p / 8 < length bits) where
  pub bit-set : bit_of (with_bit bits p) p ≡ true
  unfolding with_bit bit_of
  bit-set = go (bit_in (number_for p % 8) (get_or bits (number_for p / 8) 0)) refl
    where
      go : (b : Bool) → bit_in (number_for p % 8) (get_or bits (number_for p / 8) 0) ≡ b
          → bit_in (number_for p % 8) (get_or (pick b bits (set bits (number_for p / 8) (get_or bits (number_for p / 8) 0 + weight (number_for p % 8)))) (number_for p / 8) 0) ≡ true
      go true q = q
      go false q = rw (get_or-set_same bits (number_for p / 8) (get_or bits (number_for p / 8) 0 + weight (number_for p % 8)) 0 room) (bit_added (number_for p % 8) _ q)

  -- that of another number
  pub bit-other : (r : ℕ) → (number_for r ≡ number_for p → ⊥) → bit_of (with_bit bits p) r ≡ bit_of bits r
  unfolding with_bit bit_of
  bit-other r d = go (bit_in (number_for p % 8) (get_or bits (number_for p / 8) 0)) refl
    where
      go : (b : Bool) → bit_in (number_for p % 8) (get_or bits (number_for p / 8) 0) ≡ b
          → bit_in (number_for r % 8) (get_or (pick b bits (set bits (number_for p / 8) (get_or bits (number_for p / 8) 0 + weight (number_for p % 8)))) (number_for r / 8) 0) ≡ bit_in (number_for r % 8) (get_or bits (number_for r / 8) 0)
      go true q = refl
      go false q = same (eqb (number_for r / 8) (number_for p / 8)) refl
        where
          same : (b : Bool) → eqb (number_for r / 8) (number_for p / 8) ≡ b
              → bit_in (number_for r % 8) (get_or (set bits (number_for p / 8) (get_or bits (number_for p / 8) 0 + weight (number_for p % 8))) (number_for r / 8) 0) ≡ bit_in (number_for r % 8) (get_or bits (number_for r / 8) 0)
          same true e =
              let i : number_for r / 8 ≡ number_for p / 8 = eqb-true _ _ e in
              let n : number_for r ≡ number_for p → ⊥ = d in
              let k : number_for r % 8 ≡ number_for p % 8 → ⊥ = λ z. n (omega arith) in
              rw (i, get_or-set_same bits (number_for p / 8) (get_or bits (number_for p / 8) 0 + weight (number_for p % 8)) 0 room)
              (bit_kept (number_for p % 8) (number_for r % 8) (get_or bits (number_for p / 8) 0) q k)
          same false e = ap (bit_in (number_for r % 8)) (get_or-set_other bits (number_for p / 8) (number_for r / 8) _ 0 (eqb-false _ _ e))

  pub bits-long : length (with_bit bits p) ≡ length bits
  unfolding with_bit
  bits-long = go (bit_of bits p)
    where
      go : (b : Bool) → length (pick b bits (set bits (number_for p / 8) (get_or bits (number_for p / 8) 0 + weight (number_for p % 8)))) ≡ length bits
      go true = refl
      go false = length-set bits _ _

-- ---- two changes have two bits

pub numbers_apart : {s : List ℕ} {p q : ℕ} → ChangeAt s p → ChangeAt s q → p < q → number_for p < number_for q
unfolding number_for
numbers_apart c d h = omega (arith, change-apart c d h, (change-size c).2)

-- the bit of a change is one of those that n bytes have, where they span the log
pub number-within : {s : List ℕ} {p : ℕ} (n : ℕ) → ChangeAt s p → length s ≤ span_of_byte * n → number_for p / 8 < n
unfolding number_for
number-within n c h = let k = change-size c in omega (arith, k.0, k.1, k.2)

-- ---- told entry by entry

pub outcomes-by : (s bits : List ℕ)
    → ((xs : List Entry) (e : Entry) (ys : List Entry) → entries s ≡ xs ++ (e ∷ ys) → is_change e ≡ true → bit_of bits (32 + sizes_of xs) ≡ committed (entries s) e.txn)
    → Outcomes s bits
outcomes-by s bits f =
    record { at = λ p c. ap (bit_of bits) (sym (met-place c.met)) ∙ f (before s p) (said s p) (onward s (p + length_at s p)) (split_at c.met c.stands) c.change }

-- ---- as code reads and writes them

weight-pow : (j : ℕ) → weight j ≡ 2 ^ j
unfolding weight
weight-pow zero = refl
weight-pow (suc j) = ap (λ (n : ℕ). 2 * n) (weight-pow j) ∙ sym (pow-succ' 2 j)

bit_shifted : (j n : ℕ) → eqb (n / 2 ^ j % 2) 1 ≡ bit_in j n
unfolding bit_in
bit_shifted zero n = ap (λ (m : ℕ). eqb (m % 2) 1) (div-one n)
bit_shifted (suc j) n = ap (λ (m : ℕ). eqb (m % 2) 1) (ap (λ (m : ℕ). n / m) (pow-succ' 2 j) ∙ sym (div-div-eq-div-mul n 2 (2 ^ j))) ∙ bit_shifted j (n / 2)

weight-shifted : (j : ℕ) → j < 8 → (1 * 2 ^ j) % 2 ^ 8 ≡ weight j
weight-shifted j h = shl_exact {a = 1} 1 j 8 (lit< tt) (subst (λ (x : ℕ). x ≤ 8) (sym (one-add j)) h) ∙ one-mul (2 ^ j) ∙ sym (weight-pow j)

-- a byte with an unset bit has room for it
bit-fits : (m j n : ℕ) → j < m → n < weight m → bit_in j n ≡ false → n + weight j < weight m
unfolding bit_in weight
bit-fits zero j n l h q = absurd (omega arith)
bit-fits (suc m) zero n l h q = let z : n % 2 ≡ 1 → ⊥ = eqb-false _ _ q in omega arith
bit-fits (suc m) (suc j) n l h q = omega (arith, bit-fits m j (n / 2) (omega arith) (omega arith) q)

-- one that is set
pub bit-stays : (bits : List ℕ) (p : ℕ) {b : Bool} → b ≡ bit_of bits p → b ≡ true → bits ≡ with_bit bits p
unfolding with_bit
bit-stays bits p f t = sym (rw (sym f ∙ t))

module _ (bits : List ℕ) (p : ℕ) {n : ℕ} (e : n ≡ number_for p) where
  pub bit-read : eqb (get_or bits (n / 8) 0 / 2 ^ (n % 8) % 2) 1 ≡ bit_of bits p
  unfolding bit_of
  bit-read = rw e (bit_shifted (number_for p % 8) (get_or bits (number_for p / 8) 0))

  module _ {b : Bool} (f : b ≡ bit_of bits p) (t : b ≡ false) where
    unset : bit_in (n % 8) (get_or bits (n / 8) 0) ≡ false
    unfolding bit_of
    unset = rw e (sym f ∙ t)

    pub bit-room : get_or bits (n / 8) 0 < 256 → get_or bits (n / 8) 0 + (1 * 2 ^ (n % 8)) % 2 ^ 8 < 256
    unfolding weight
    bit-room h = rw (weight-shifted (n % 8) (omega arith)) (bit-fits 8 (n % 8) (get_or bits (n / 8) 0) (omega arith) h unset)

    pub bit-written : set bits (n / 8) (get_or bits (n / 8) 0 + (1 * 2 ^ (n % 8)) % 2 ^ 8) ≡ with_bit bits p
    unfolding with_bit
    bit-written = rw (weight-shifted (n % 8) (omega arith), e) (sym (rw (sym f ∙ t)))
