-- Bytes that are all zero: the numbers that stand in them, a front of them, and what is left behind it. Assumes nothing.
use Rattle.std.specs.Prelude.{◌/◌, IsTrue, EachIndex, ◌↔◌}
use Rattle.std.specs.Simd.{first_chunks}
use Prim.Native.Nat.{ℕ, zero, suc, ◌+◌, ◌-◌, ◌*◌, ◌≤◌, ◌<◌}
use mathlib.Core.Path.{◌≡◌, refl, sym, ap, ◌∙◌}
use mathlib.Core.List.{List, [], ◌∷◌, ◌++◌}
use mathlib.Core.Bool.{Bool, true, false}
use native.Mathlib.Omega.{arith}
use lib.ListN.{length, get_or, take, drop, replicate, length-drop}
use lib.Dec.{eqb}
use lib.Seq.{drop-append-le, drop-append-add, drop-drop}
use borrow.Author.Tests.{eqb-true, eqb-false, eq-eqb, ne_eqb}
use Rattle.endian.specs.Pick.{pick}
use Rattle.endian.specs.Numbers.{number_of, number_at}
use Rattle.endian.proofs.Places.{number-take, number-drop}
use Rattle.wal.specs.Read.{all_zero}

false-true : {A : Type 0} → false ≡ true → A
false-true h = let z : ◌≡◌ {A = ℕ} 0 1 = ap (λ (b : Bool). pick b 1 0) h in absurd (omega arith)

-- ---- a front of them
unfolds : (b : ℕ) (l : List ℕ) → all_zero (b ∷ l) ≡ true → (b ≡ 0) × (all_zero l ≡ true)
unfolding all_zero
unfolds b l h = go (eqb b 0) refl h
  where
    go : (c : Bool) → eqb b 0 ≡ c → pick c (all_zero l) false ≡ true → (b ≡ 0) × (all_zero l ≡ true)
    go true e k = (eqb-true b 0 e, k)
    go false e k = false-true k

-- zero bytes are the number 0
pub zero_number : (w : ℕ) (l : List ℕ) → all_zero l ≡ true → number_of (take w l) ≡ 0
unfolding number_of
zero_number zero l h = refl
zero_number (suc w) [] h = refl
zero_number (suc w) (b ∷ l) h =
    let z = unfolds b l h in
    omega (arith, z.0, zero_number w l z.1)

-- all are zero exactly where their number is
pub all-number : (l : List ℕ) → eqb (number_of l) 0 ≡ all_zero l
unfolding number_of all_zero
all-number [] = refl
all-number (b ∷ l) = go (eqb b 0) refl (all-number l)
  where
    go : (c : Bool) → eqb b 0 ≡ c → eqb (number_of l) 0 ≡ all_zero l → eqb (b + 256 * number_of l) 0 ≡ pick c (all_zero l) false
    go true e r = rw (eqb-true b 0 e) (last (eqb (number_of l) 0) refl ∙ r)
      where
        last : (c : Bool) → eqb (number_of l) 0 ≡ c → eqb (0 + 256 * number_of l) 0 ≡ c
        last true q = eq-eqb (0 + 256 * number_of l) 0 (omega (arith, eqb-true (number_of l) 0 q))
        last false q = ne_eqb (0 + 256 * number_of l) 0 (λ x. eqb-false (number_of l) 0 q (omega arith))
    go false e r = ne_eqb (b + 256 * number_of l) 0 (λ x. eqb-false b 0 e (omega arith))

-- where the number of the first bytes is 0, the others decide; where it is not, not all are zero
pub front-zero : (w : ℕ) (l : List ℕ) → w ≤ length l → number_of (take w l) ≡ 0 → all_zero (drop w l) ≡ all_zero l
unfolding number_of all_zero
front-zero zero l h n = refl
front-zero (suc w) [] h n = absurd (omega arith)
front-zero (suc w) (b ∷ l) h n = rw (eq-eqb b 0 (omega arith)) (front-zero w l (omega arith) (omega arith))

pub front-other : (w : ℕ) (l : List ℕ) → (number_of (take w l) ≡ 0 → ⊥) → all_zero l ≡ false
front-other w l n = go (all_zero l) refl
  where
    go : (b : Bool) → all_zero l ≡ b → all_zero l ≡ false
    go true e = absurd (n (zero_number w l e))
    go false e = e

-- ---- the bytes from a place on
module _ (s : List ℕ) (p : ℕ) where
  pub number-other : (w : ℕ) → (number_at w p s ≡ 0 → ⊥) → all_zero (drop p s) ≡ false
  unfolding number_at
  number-other w n = front-other w (drop p s) n

  pub number-on : (w : ℕ) → p + w ≤ length s → number_at w p s ≡ 0 → all_zero (drop (p + w) s) ≡ all_zero (drop p s)
  unfolding number_at
  number-on w h n = ap all_zero (sym (drop-drop w p s)) ∙ front-zero w (drop p s) (omega (arith, length-drop p s)) n

-- not all zero, and longer
append-other : (a b : List ℕ) → all_zero a ≡ false → all_zero (a ++ b) ≡ false
unfolding all_zero
append-other [] b h = false-true (sym h)
append-other (x ∷ a) b h = go (eqb x 0) h (append-other a b)
  where
    go : (c : Bool) → pick c (all_zero a) false ≡ false → (all_zero a ≡ false → all_zero (a ++ b) ≡ false) → pick c (all_zero (a ++ b)) false ≡ false
    go true k more = more k
    go false k more = refl

pub longer-other : (p : ℕ) (s t : List ℕ) → p ≤ length s → all_zero (drop p s) ≡ false → all_zero (drop p (s ++ t)) ≡ false
longer-other p s t h z = ap all_zero (drop-append-le p s t h) ∙ append-other (drop p s) t z

-- ---- zeros behind bytes
pub zeros : (n : ℕ) → all_zero (replicate n 0) ≡ true
unfolding all_zero
zeros zero = refl
zeros (suc n) = zeros n

zeros-drop : (m : ℕ) (l : List ℕ) → all_zero l ≡ true → all_zero (drop m l) ≡ true
zeros-drop zero l h = h
zeros-drop (suc m) [] h = h
zeros-drop (suc m) (b ∷ l) h = zeros-drop m l (unfolds b l h).1

-- a number that stands wholly in the zeros is 0
pub number-zeros : (w q z : ℕ) (a : List ℕ) → length a ≤ q → number_at w q (a ++ replicate z 0) ≡ 0
unfolding number_at
number-zeros w q z a h =
    let e : q ≡ length a + (q - length a) = omega arith in
    rw (e, drop-append-add a (replicate z 0) (q - length a)) (zero_number w (drop (q - length a) (replicate z 0)) (zeros-drop (q - length a) (replicate z 0) (zeros z)))

-- ---- eight at a time

chunk-at : (n k i : ℕ) (l : List ℕ) → i < k → get_or (first_chunks n k l) i [] ≡ take n (drop (i * n) l)
chunk-at n zero i l h = absurd (omega arith)
chunk-at n (suc k) zero l h = let z : 0 * n ≡ 0 = omega arith in rw z
chunk-at n (suc k) (suc i) l h = chunk-at n k i (drop n l) (omega arith) ∙ ap (take n) (drop-drop (i * n) n l ∙ ap (λ (j : ℕ). drop j l) (omega arith))

module _ (l : List ℕ) {eights : List (List ℕ)} (f : eights ≡ first_chunks 8 (length l / 8) l) (i : ℕ) (h : i < length l / 8) {n : ℕ} (e : n ≡ number_at 8 0 (get_or eights i [])) where
  read : n ≡ number_at 8 (i * 8) l
  read =
      e ∙ ap (λ (es : List (List ℕ)). number_at 8 0 (get_or es i [])) f ∙ ap (number_at 8 0) (chunk-at 8 (length l / 8) i l h) ∙ number-take 8 0 8 (drop (i * 8) l) (omega arith)
      ∙ number-drop 8 0 (i * 8) l ∙ ap (λ (j : ℕ). number_at 8 j l) (omega arith)

  pub eight-on : n ≡ 0 → all_zero (drop ((i + 1) * 8) l) ≡ all_zero (drop (i * 8) l)
  eight-on z = ap (λ (j : ℕ). all_zero (drop j l)) (omega arith) ∙ number-on l (i * 8) 8 (omega arith) (sym read ∙ z)

  pub eight-other : (n ≡ 0 → ⊥) → all_zero (drop (i * 8) l) ≡ false
  eight-other z = number-other l (i * 8) 8 (λ q. z (read ∙ q))

-- what a test of each byte tells
each-zero : (l : List ℕ) → all_zero l ≡ true → EachIndex l (λ k. get_or l k 0 ≡ 0)
unfolding all_zero
each-zero [] h = λ k m. absurd (omega arith)
each-zero (b ∷ l) h = let z = unfolds b l h in go z.0 (each-zero l z.1)
  where
    go : b ≡ 0 → EachIndex l (λ k. get_or l k 0 ≡ 0) → (k : ℕ) → k < suc (length l) → get_or (b ∷ l) k 0 ≡ 0
    go z more zero m = z
    go z more (suc k) m = more k (omega arith)

zero-each : (l : List ℕ) → EachIndex l (λ k. get_or l k 0 ≡ 0) → all_zero l ≡ true
unfolding all_zero
zero-each [] h = refl
zero-each (b ∷ l) h = rw (eq-eqb b 0 (h 0 (omega arith))) (zero-each l (λ k m. h (suc k) (omega arith)))

pub tested : (l : List ℕ) (b : Bool) → IsTrue b ↔ EachIndex l (λ k. get_or l k 0 ≡ 0) → b ≡ all_zero l
tested l true h = sym (zero-each l (h.0 refl))
tested l false h = go (all_zero l) refl
  where
    go : (c : Bool) → all_zero l ≡ c → false ≡ all_zero l
    go true e = false-true (h.1 (each-zero l e))
    go false e = sym e
