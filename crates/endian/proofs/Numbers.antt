-- Laws of little-endian numbers, for every width: what a number's bytes read as, and a number of several bytes taken apart.
-- Assumes nothing.
use mathlib.Core.Path.{◌≡◌, refl, ap}
use Prim.Native.Nat.{ℕ, zero, suc, ◌+◌, ◌*◌, ◌/◌, ◌%◌, ◌^◌, ◌<◌}
use native.Mathlib.Nat.{pow-suc, pow-succ', one-le-pow, zero-add, suc-add, div-div-eq-div-mul, div-one}
use native.Mathlib.Omega.{arith}
use lib.Arith.{mod-mul}
use mathlib.Core.List.{List, [], ◌∷◌, ◌++◌}
use lib.ListN.{length, take, drop}
use lib.Seq.{take-nil, drop-drop}
use Rattle.endian.specs.Numbers.{bytes_of, number_of, number_at}

pub length-bytes_of : (w n : ℕ) → length (bytes_of w n) ≡ w
unfolding bytes_of
length-bytes_of zero n = refl
length-bytes_of (suc w) n = ap suc (length-bytes_of w (n / 256))

-- a number that fits its bytes reads back
pub number-back : (w n : ℕ) → n < 256 ^ w → number_of (bytes_of w n) ≡ n
unfolding bytes_of number_of
number-back zero n h = omega arith
number-back (suc w) n h =
    let k : n < 256 ^ w * 256 = rw pow-suc at h in
    let ih : number_of (bytes_of w (n / 256)) ≡ n / 256 = number-back w (n / 256) (omega arith) in
    omega arith

-- v bytes and then w: the second number weighs 256 ^ v
number-run : (v w : ℕ) (l : List ℕ) → number_of (take (v + w) l) ≡ number_of (take v l) + 256 ^ v * number_of (take w (drop v l))
unfolding number_of
number-run zero w l = rw (zero-add w) (omega arith)
number-run (suc v) w [] = rw (suc-add, take-nil w) (omega arith)
number-run (suc v) w (x ∷ l) = rw (suc-add, pow-suc) (omega (arith, number-run v w l))

pub number-split : (v w at : ℕ) (l : List ℕ) → number_at (v + w) at l ≡ number_at v at l + 256 ^ v * number_at w (at + v) l
unfolding number_at
number-split v w at l = rw (← drop-drop v at l) (number-run v w (drop at l))

-- the bytes of v + w bytes: the low v, and the w of the rest
pub bytes-split : (v w n : ℕ) → bytes_of (v + w) n ≡ bytes_of v n ++ bytes_of w (n / 256 ^ v)
unfolding bytes_of
bytes-split zero w n = rw (zero-add, div-one)
bytes-split (suc v) w n = rw (suc-add, pow-succ', ← div-div-eq-div-mul) (ap (λ (l : List ℕ). n % 256 ∷ l) (bytes-split v w (n / 256)))

-- the low w bytes of a number are those of its remainder
pub bytes_low : (w n : ℕ) → bytes_of w (n % 256 ^ w) ≡ bytes_of w n
unfolding bytes_of
bytes_low zero n = refl
bytes_low (suc w) n =
    let e : n % (256 ^ w * 256) ≡ (n / 256 % 256 ^ w) * 256 + n % 256 = mod-mul n (one-le-pow w 256 (omega arith)) (omega arith) in
    let q : n % (256 ^ w * 256) / 256 ≡ n / 256 % 256 ^ w = omega arith in
    let r : n % (256 ^ w * 256) % 256 ≡ n % 256 = omega arith in
    rw (pow-suc, q, r) (ap (λ (l : List ℕ). n % 256 ∷ l) (bytes_low w (n / 256)))
