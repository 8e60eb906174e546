-- Where a number stands: a read depends only on its bytes, and what a write leaves at its own place and at any other.
-- Assumes nothing.
use mathlib.Core.Path.{◌≡◌, refl, sym, ap, ◌∙◌}
use mathlib.Core.Logic.{◌⊎◌, inl, inr}
use Prim.Native.Nat.{ℕ, zero, suc, ◌+◌, ◌*◌, ◌-◌, ◌/◌, ◌%◌, ◌^◌, ◌≤◌, ◌<◌, min}
use native.Mathlib.Decide.{dec_le}
use native.Mathlib.Numerals.{add-one}
use native.Mathlib.Omega.{arith}
use mathlib.Core.List.{List, [], ◌∷◌, ◌++◌, append_assoc}
use lib.ListN.{length, take, drop, set, get_or, length-append, length-drop, drop_of_length-le}
use lib.Seq.{take-take, take_all, take_at, drop_at, drop-cons, drop-drop, drop-length, take-append-le, length-take-le, length-paste, length_paste_head, take-paste, drop-paste, paste, sets-eq}
use borrow.Author.Tests.{le-leb, lt-leb}
use Rattle.endian.specs.Numbers.{part, bytes_of, number_of, number_at, written}
use Rattle.endian.proofs.Numbers.{length-bytes_of, number-back, bytes-split, bytes_low}

-- ---- parts

-- a part that ends within the first n elements is a part of those
pub part-take : (at w n : ℕ) (l : List ℕ) → at + w ≤ n → part at w (take n l) ≡ part at w l
part-take zero w n l h = take-take w n l (omega arith)
part-take (suc at) w zero l h = absurd (omega arith)
part-take (suc at) w (suc n) [] h = refl
part-take (suc at) w (suc n) (x ∷ l) h = part-take at w n l (omega arith)

pub part-drop : (at w k : ℕ) (l : List ℕ) → part at w (drop k l) ≡ part (k + at) w l
part-drop at w k l = ap (take w) (drop-drop at k l)

drop-take : (m n : ℕ) (l : List ℕ) → m ≤ n → drop m (take n l) ≡ take (n - m) (drop m l)
drop-take zero n l h = let e : n ≡ n - 0 = omega arith in ap (λ (z : ℕ). take z l) e
drop-take (suc m) zero l h = absurd (omega arith)
drop-take (suc m) (suc n) [] h = sym (none (suc n - suc m))
  where
    none : (n : ℕ) → take {A = ℕ} n [] ≡ []
    none zero = refl
    none (suc n) = refl
drop-take (suc m) (suc n) (x ∷ l) h =
    let e : n - m ≡ suc n - suc m = omega arith in
    drop-take m n l (omega arith) ∙ ap (λ (z : ℕ). take z (drop m l)) e

-- a part without its first bytes
pub drop-part : (m a n : ℕ) (s : List ℕ) → m ≤ n → drop m (part a n s) ≡ part (a + m) (n - m) s
drop-part m a n s h = drop-take m n (drop a s) h ∙ ap (take (n - m)) (drop-drop m a s)

pub part-append : (at w : ℕ) (a b : List ℕ) → at + w ≤ length a → part at w (a ++ b) ≡ part at w a
part-append at w a b h =
    let e : take (at + w) (a ++ b) ≡ take (at + w) a = take-append-le (at + w) a b h in
    sym (part-take at w (at + w) (a ++ b) (omega arith)) ∙ ap (part at w) e ∙ part-take at w (at + w) a (omega arith)

module _ (d s : List ℕ) (at n : ℕ) (long : length s ≡ n) (room : at + n ≤ length d) where
  -- what was stored stands there
  pub part_same : part at n (paste d at s n) ≡ s
  part_same =
      let e : take n s ≡ s = take_all n s (omega arith) in
      rw (append_assoc (take at d) (take n s) (drop (at + n) d), e, drop_at (take at d) (s ++ drop (at + n) d) at (length-take-le at d (omega arith)))
      (take_at s (drop (at + n) d) n long)

  -- what stands before it is as it was
  pub part-before : (a w : ℕ) → a + w ≤ at → part a w (paste d at s n) ≡ part a w d
  part-before a w h =
      let l : length (take at d) ≡ at = length-take-le at d (omega arith) in
      rw (append_assoc (take at d) (take n s) (drop (at + n) d))
      (part-append a w (take at d) (take n s ++ drop (at + n) d) (omega arith) ∙ part-take a w at d h)

  -- and so is what stands behind it
  pub part-behind : (a w : ℕ) → at + n ≤ a → part a w (paste d at s n) ≡ part a w d
  part-behind a w h =
      let e : a ≡ at + n + (a - (at + n)) = omega arith in
      let l : length (take at d ++ take n s) ≡ at + n = length_paste_head d at s n (omega arith) (omega arith) in
      rw e
      (sym (part-drop (a - (at + n)) w (at + n) (paste d at s n)) ∙ ap (part (a - (at + n)) w) (drop_at (take at d ++ take n s) (drop (at + n) d) (at + n) l)
      ∙ part-drop (a - (at + n)) w (at + n) d)

-- ---- numbers

-- a read depends only on its bytes
pub number_same : (w at bt : ℕ) (l m : List ℕ) → part at w l ≡ part bt w m → number_at w at l ≡ number_at w bt m
unfolding number_at
number_same w at bt l m e = ap number_of e

pub number-take : (w at n : ℕ) (l : List ℕ) → at + w ≤ n → number_at w at (take n l) ≡ number_at w at l
number-take w at n l h = number_same w at at (take n l) l (part-take at w n l h)

pub number-drop : (w at k : ℕ) (l : List ℕ) → number_at w at (drop k l) ≡ number_at w (k + at) l
number-drop w at k l = number_same w at (k + at) (drop k l) l (part-drop at w k l)

pub number_append : (w at : ℕ) (a b : List ℕ) → at + w ≤ length a → number_at w at (a ++ b) ≡ number_at w at a
number_append w at a b h = number_same w at at (a ++ b) a (part-append at w a b h)

-- a stored number reads back
pub number-stored : (w at n : ℕ) (l : List ℕ) → at + w ≤ length l → n < 256 ^ w → number_at w at (paste l at (bytes_of w n) w) ≡ n
unfolding number_at
number-stored w at n l h k = ap number_of (part_same l (bytes_of w n) at w (length-bytes_of w n) h) ∙ number-back w n k

-- ---- writes

pub written-fits : (w at n : ℕ) (l : List ℕ) → at + w ≤ length l → written w at n l ≡ paste l at (bytes_of w n) w
unfolding written
written-fits w at n l h = simp (le-leb _ _ h)

pub written-short : (w at n : ℕ) (l : List ℕ) → length l < at + w → written w at n l ≡ l
unfolding written
written-short w at n l h = simp (lt-leb _ _ h)

module _ (w at n : ℕ) (l : List ℕ) (room : at + w ≤ length l) where
  pub length-written : length (written w at n l) ≡ length l
  length-written = rw (written-fits w at n l room) (length-paste l at (bytes_of w n) w room (omega (arith, length-bytes_of w n)))

  -- read after write at the same place
  pub read-written : n < 256 ^ w → number_at w at (written w at n l) ≡ n
  read-written k = rw (written-fits w at n l room) (number-stored w at n l room k)

  -- and at another
  pub read-other : (v a : ℕ) → (a + v ≤ at) ⊎ (at + w ≤ a) → number_at v a (written w at n l) ≡ number_at v a l
  read-other v a (inl h) = rw (written-fits w at n l room) (number_same v a a _ l (part-before l (bytes_of w n) at w (length-bytes_of w n) room a v h))
  read-other v a (inr h) = rw (written-fits w at n l room) (number_same v a a _ l (part-behind l (bytes_of w n) at w (length-bytes_of w n) room a v h))

-- ---- as code reads and writes

-- a number of one byte
pub number-byte : (at : ℕ) (l : List ℕ) → number_at 1 at l ≡ get_or l at 0
unfolding number_at number_of
number-byte zero [] = refl
number-byte zero (x ∷ l) = omega arith
number-byte (suc at) [] = refl
number-byte (suc at) (x ∷ l) = number-byte at l

-- of a number that reaches past the end, only the bytes to the end count
pub number-over : (w at : ℕ) (l : List ℕ) → length l ≤ at + w → number_at w at l ≡ number_of (drop at l)
unfolding number_at
number-over w at l h = ap number_of (take_all w (drop at l) (simp length-drop (omega arith)))

-- one byte more at the front of the bytes to the end
pub number-front : (i : ℕ) (l : List ℕ) → i < length l → number_of (drop i l) ≡ get_or l i 0 + 256 * number_of (drop (suc i) l)
unfolding number_of
number-front i l h = rw (drop-cons l i 0)

-- past the end there is nothing, wherever the place
pub number-rest : (i at : ℕ) (l : List ℕ) → i ≡ min at (length l) → number_of (drop i l) ≡ number_of (drop at l)
number-rest i at l e =
    elim (dec_le at (length l)) [
      | yes h ↦ let z : i ≡ at = omega arith in rw z
      | no h ↦ let z : i ≡ length l = omega arith in
          let k : length l ≤ at = omega arith in rw (z, drop-length, drop_of_length-le l k)
    ]

-- a byte is a number of one
pub set-byte : (d : List ℕ) (at v : ℕ) → at < length d → v < 256 → set d at v ≡ paste d at (bytes_of 1 v) 1
unfolding bytes_of
set-byte d at v h b =
    let e : v % 256 ≡ v = omega arith in
    rw e (sets-eq (v ∷ []) d at (omega arith))

-- a byte and the byte after it are a number of two
pub stored-two : (at n : ℕ) (d : List ℕ) → at + 2 ≤ length d → n < 65536 → set (set d at (n % 256)) (at + 1) (n / 256) ≡ paste d at (bytes_of 2 n) 2
unfolding bytes_of
stored-two at n d h k =
    let e : n / 256 % 256 ≡ n / 256 = omega arith in
    rw (add-one, e) (sets-eq (n % 256 ∷ n / 256 ∷ []) d at h)

-- two pastes in a row are one
pub paste-two : (d a b : List ℕ) (at m n : ℕ) → length a ≡ m → length b ≡ n → at + m ≤ length d
    → paste (paste d at a m) (at + m) b n ≡ paste d at (a ++ b) (m + n)
paste-two d a b at m n e f h =
    let ta : take m a ≡ a = take_all m a (omega arith) in
    let tb : take n b ≡ b = take_all n b (omega arith) in
    let tab : take (m + n) (a ++ b) ≡ a ++ b = take_all (m + n) (a ++ b) (omega (arith, length-append a b)) in
    let s : at + m + n ≡ at + (m + n) = omega arith in
    let dr : drop (at + m + n) (paste d at a m) ≡ drop (at + m + n) d =
    sym (drop-drop n (at + m) (paste d at a m)) ∙ ap (drop n) (drop-paste d at a m (omega arith) (omega arith)) ∙ drop-drop n (at + m) d in
    rw (take-paste d at a m (omega arith) (omega arith), dr, tab, tb, ta, s) (ap (λ r. r ++ drop (at + (m + n)) d) (append_assoc (take at d) a b))

-- the low v bytes, and behind them the w bytes of the rest, are the number in v + w bytes
pub stored-run : (v w at n : ℕ) (d : List ℕ) → at + v ≤ length d
    → paste (paste d at (bytes_of v (n % 256 ^ v)) v) (at + v) (bytes_of w (n / 256 ^ v)) w ≡ paste d at (bytes_of (v + w) n) (v + w)
stored-run v w at n d h =
    rw (bytes_low, bytes-split v w n)
    (paste-two d (bytes_of v n) (bytes_of w (n / 256 ^ v)) at v w (length-bytes_of v n) (length-bytes_of w (n / 256 ^ v)) h)
