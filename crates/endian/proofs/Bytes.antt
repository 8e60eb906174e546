-- Lists of bytes: what keeps them so, and the range of a number read from one.
-- Assumes nothing.
use Prim.Native.Nat.{ℕ, zero, suc, ◌+◌, ◌/◌, ◌^◌, ◌≤◌, ◌<◌}
use native.Mathlib.Nat.{pow-suc, one-le-pow}
use native.Mathlib.Omega.{arith}
use mathlib.Core.List.{List, [], ◌∷◌, ◌++◌}
use lib.ListN.{length, take, drop, get_or, replicate}
use lib.Seq.{get_or-drop, take_all}
use Rattle.endian.specs.Numbers.{bytes_of, number_of, number_at, Bytes}

tail : {x : ℕ} {l : List ℕ} → Bytes (x ∷ l) → Bytes l
tail b = record { at = λ i. b.at (suc i) }

pub bytes-nil : Bytes []
bytes-nil = record { at = λ i. omega arith }

pub bytes-cons : {x : ℕ} {l : List ℕ} → x < 256 → Bytes l → Bytes (x ∷ l)
bytes-cons {x} {l} h b = record { at = go }
  where
    go : (i : ℕ) → get_or (x ∷ l) i 0 < 256
    go zero = h
    go (suc i) = b.at i

pub bytes-append : {a b : List ℕ} → Bytes a → Bytes b → Bytes (a ++ b)
bytes-append {a = []} x y = y
bytes-append {a = c ∷ a} x y = bytes-cons (x.at 0) (bytes-append (tail x) y)

pub bytes-of : (w n : ℕ) → Bytes (bytes_of w n)
unfolding bytes_of
bytes-of zero n = bytes-nil
bytes-of (suc w) n = bytes-cons (omega arith) (bytes-of w (n / 256))

pub bytes_drop : (n : ℕ) {l : List ℕ} → Bytes l → Bytes (drop n l)
bytes_drop n b = record { at = λ i. rw get_or-drop (b.at (n + i)) }

pub bytes_take : (n : ℕ) {l : List ℕ} → Bytes l → Bytes (take n l)
bytes_take zero b = bytes-nil
bytes_take (suc n) {l = []} b = bytes-nil
bytes_take (suc n) {l = x ∷ l} b = bytes-cons (b.at 0) (bytes_take n (tail b))

pub bytes-zeros : (n : ℕ) → Bytes (replicate n 0)
bytes-zeros zero = bytes-nil
bytes-zeros (suc n) = bytes-cons (omega arith) (bytes-zeros n)

pub ruleset bytes = (bytes-append, bytes-of, bytes-zeros, bytes_take, bytes_drop, bytes-nil)

number_lt : (w : ℕ) (l : List ℕ) → Bytes l → number_of (take w l) < 256 ^ w
unfolding number_of
number_lt zero l b = omega arith
number_lt (suc w) [] b = one-le-pow (suc w) 256 (omega arith)
number_lt (suc w) (x ∷ xs) b = rw pow-suc (omega (arith, b.at 0, number_lt w xs (tail b)))

-- a number of w bytes is below 256 ^ w
pub number-range : (w at : ℕ) {l : List ℕ} → Bytes l → number_at w at l < 256 ^ w
unfolding number_at
number-range w at {l} b = number_lt w (drop at l) (bytes_drop at b)

-- at most w bytes are a number below 256 ^ w
pub number-below : (w : ℕ) {l : List ℕ} → Bytes l → length l ≤ w → number_of l < 256 ^ w
number-below w {l} b h = rw (take_all w l h) at (number_lt w l b)
