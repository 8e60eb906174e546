-- The groups of a number: one by one, how many, and stored.
-- Assumes nothing.
use mathlib.Core.Path.{◌≡◌, refl, sym, ap, ◌∙◌}
use Prim.Native.Nat.{ℕ, zero, suc, ◌+◌, ◌*◌, ◌/◌, ◌%◌, ◌^◌, ◌≤◌, ◌<◌}
use native.Mathlib.Decide.{dec_le}
use native.Mathlib.Nat.{pow-suc, pow-le-pow_right}
use native.Mathlib.Omega.{arith}
use mathlib.Core.List.{List, [], ◌∷◌, ◌++◌}
use lib.ListN.{length, set, length-append}
use lib.Pow.{pow-add}
use lib.Seq.{paste, paste-zero, sets-eq, length-paste}
use borrow.Author.Tests.{lt-ltb, le-ltb}
use Rattle.endian.proofs.Places.{paste-two}
use Rattle.summary.specs.Number.{groups_in, groups}
use Rattle.summary.specs.Inner.{put}

-- ---- one group after another

-- room for the groups is room enough
enough : (v w n : ℕ) → n < v → n < w → groups_in v n ≡ groups_in w n
unfolding groups_in
enough zero w n l m = absurd (omega arith)
enough (suc v) zero n l m = absurd (omega arith)
enough (suc v) (suc w) n l m =
    elim (dec_le 128 n) [
      | yes h ↦ rw (le-ltb n 128 h) (ap (λ (g : List ℕ). (128 + n % 128) ∷ g) (enough v w (n / 128) (omega arith) (omega arith)))
      | no h ↦ rw (lt-ltb n 128 (omega arith))
    ]

module _ (n : ℕ) where
  pub groups-last : n < 128 → groups n ≡ n ∷ []
  unfolding groups groups_in
  groups-last l = rw (lt-ltb n 128 l)

  pub groups-more : 128 ≤ n → groups n ≡ (128 + n % 128) ∷ groups (n / 128)
  unfolding groups groups_in
  groups-more l = rw (le-ltb n 128 l) (ap (λ (g : List ℕ). (128 + n % 128) ∷ g) (enough n (suc (n / 128)) (n / 128) (omega arith) (omega arith)))

-- ---- how many

pub groups-few : (w n : ℕ) → n < 128 ^ suc w → length (groups n) ≤ suc w
groups-few zero n h = rw (groups-last n (omega (arith, pow-suc 128 0))) (omega arith)
groups-few (suc w) n h =
    elim (dec_le 128 n) [
      | yes m ↦ let k : n < 128 ^ suc w * 128 = rw pow-suc at h in rw (groups-more n m) (omega (arith, groups-few w (n / 128) (omega arith)))
      | no m ↦ rw (groups-last n (omega arith)) (omega arith)
    ]

-- one at least
pub groups-some : (n : ℕ) → 1 ≤ length (groups n)
groups-some n =
    elim (dec_le 128 n) [
      | yes m ↦ rw (groups-more n m) (omega arith)
      | no m ↦ rw (groups-last n (omega arith)) (omega arith)
    ]

pub groups-many : (w n : ℕ) → 128 ^ w ≤ n → suc w ≤ length (groups n)
groups-many zero n h = groups-some n
groups-many (suc w) n h =
    let k : 128 ^ w * 128 ≤ n = rw pow-suc at h in
    let z : 0 ≤ w = omega arith in
    let l : 128 ^ 0 ≤ 128 ^ w = pow-le-pow_right (omega arith) z in
    rw (groups-more n (omega arith)) (omega (arith, groups-many w (n / 128) (omega arith)))

seven : (q : ℕ) → 128 ^ q ≡ 2 ^ (7 * q)
seven zero = refl
seven (suc q) =
    let e : 7 * suc q ≡ 7 * q + 7 = omega arith in
    rw (pow-suc, e, pow-add 2 (7 * q) 7, seven q) refl

-- a group for every seven bits
pub groups-bits : (n b : ℕ) → 2 ^ b ≤ n → n < 2 * 2 ^ b → b / 7 + 1 ≡ length (groups n)
groups-bits n b l m =
    let q : ℕ = b / 7 in
    let under : 7 * q ≤ b = omega arith in
    let over : suc b ≤ 7 * suc q = omega arith in
    let low : 2 ^ (7 * q) ≤ 2 ^ b = pow-le-pow_right (omega arith) under in
    let high : 2 ^ suc b ≤ 2 ^ (7 * suc q) = pow-le-pow_right (omega arith) over in
    let few : n < 128 ^ suc q = omega (arith, seven (suc q), pow-suc 2 b) in
    let many : 128 ^ q ≤ n = omega (arith, seven q) in
    omega (arith, groups-few q n few, groups-many q n many)

-- of a number of 64 bits ten at most
pub groups-ten : (n : ℕ) → n < 2 ^ 64 → length (groups n) ≤ 10
groups-ten n h = groups-few 9 n (omega arith)

-- ---- stored

pub length-put : (d x : List ℕ) (at : ℕ) → at + length x ≤ length d → length (put d at x) ≡ length d
length-put d x at h = length-paste d at x (length x) h (omega arith)

-- nothing more
pub put-none : (d : List ℕ) (at : ℕ) → put d at [] ≡ d
put-none d at = sym (paste-zero d at [])

-- one behind the other
pub put_two : (d a b : List ℕ) (at : ℕ) → at + length a ≤ length d → put (put d at a) (at + length a) b ≡ put d at (a ++ b)
put_two d a b at h = paste-two d a b at (length a) (length b) refl refl h ∙ ap (paste d at (a ++ b)) (sym (length-append a b))

pub put_byte : (d : List ℕ) (at b : ℕ) → at < length d → set d at b ≡ put d at (b ∷ [])
put_byte d at b h = sets-eq (b ∷ []) d at (omega arith)

module _ (d : List ℕ) (at n : ℕ) (room : at + length (groups n) ≤ length d) where
  pub put_in : at < length d
  put_in = omega (arith, groups-some n)

  pub put_last : n < 128 → (at + 1 ≡ at + length (groups n)) × (set d at n ≡ put d at (groups n))
  put_last l = (omega (arith, ap length (groups-last n l)), rw (groups-last n l) (put_byte d at n put_in))

  pub put-more : 128 ≤ n → put (set d at (128 + n % 128)) (at + 1) (groups (n / 128)) ≡ put d at (groups n)
  put-more l =
      let h : at < length d = put_in in
      rw (put_byte d at (128 + n % 128) (omega arith), groups-more n l) (put_two d ((128 + n % 128) ∷ []) (groups (n / 128)) at (omega arith))
