-- P1, P4: the slots of a packed page read back, and its length.
-- Assumes nothing.
use mathlib.Core.Path.{◌≡◌, refl, sym, ap, ap₂, ◌∙◌}
use Prim.Native.Nat.{ℕ, zero, suc, ◌+◌, ◌-◌, ◌*◌, ◌≤◌, ◌<◌}
use native.Mathlib.Omega.{arith}
use native.Mathlib.Decide.{dec_le}
use mathlib.Core.List.{List, [], ◌∷◌, ◌++◌, append_assoc, append-nil}
use lib.ListN.{length, take, get_or, replicate, length-append, length-replicate, get_or-eq_default}
use lib.Seq.{take_at, drop_at}
use borrow.Author.Tests.{lt-ltb, le-ltb}
use Rattle.endian.specs.Numbers.{part, bytes_of, number_of, number_at}
use Rattle.endian.proofs.Numbers.{number-back}
use Rattle.page.specs.Layout.{page_bytes, body_bytes, body_of, count_of, slot_off, slot_len, slot_at}
use Rattle.page.specs.Packed.{Head, packed, body, dir, heap, off_of, tuple_bytes, room_for}
use Rattle.page.proofs.Fields.{count-back, body_back}

-- ---- lengths

pub length-dir : (top : ℕ) (ss : List (List ℕ)) → length (dir top ss) ≡ 4 * length ss
unfolding bytes_of
length-dir top [] = refl
length-dir top (t ∷ ss) = omega (arith, length-dir (top - length t) ss)

pub length-heap : (ss : List (List ℕ)) → length (heap ss) ≡ tuple_bytes ss
length-heap [] = refl
length-heap (t ∷ ss) = omega (arith, length-append (heap ss) t, length-heap ss)

pub length-body : (ss : List (List ℕ)) → room_for ss ≤ body_bytes → length (body ss) ≡ body_bytes
unfolding body
length-body ss f = simp (length-append, length-dir, length-heap, length-replicate) (omega arith)

-- P4
pub length-packed : (h : Head) (ss : List (List ℕ)) → length h.reserved ≡ 28 → room_for ss ≤ body_bytes → length (packed h ss) ≡ page_bytes
unfolding packed bytes_of
length-packed h ss r f = omega (arith, length-append h.reserved (body ss), length-body ss f)

-- ---- what a slot says

-- where the tuple of slot k starts
abbrev pub off_at : ℕ → List (List ℕ) → ℕ → ℕ
off_at top [] k = zero
off_at top (t ∷ ss) zero = off_of (length t) (top - length t)
off_at top (t ∷ ss) (suc k) = off_at (top - length t) ss k

off-le : (n o : ℕ) → off_of n o ≤ o
off-le zero o = omega arith
off-le (suc n) o = omega arith

pub off-read : (top : ℕ) (ss : List (List ℕ)) (x : List ℕ) (k : ℕ) → top ≤ body_bytes → k < length ss → slot_off (dir top ss ++ x) k ≡ off_at top ss k
unfolding number_at bytes_of number_of
off-read top [] x k b l = absurd (omega arith)
off-read top (t ∷ ss) x zero b l = number-back 2 (off_of (length t) (top - length t)) (omega (arith, off-le (length t) (top - length t)))
off-read top (t ∷ ss) x (suc k) b l =
    let e : 4 * suc k ≡ suc (suc (suc (suc (4 * k)))) = omega arith in
    rw e (off-read (top - length t) ss x k (omega arith) (omega arith))

pub len_read : (top : ℕ) (ss : List (List ℕ)) (x : List ℕ) (k : ℕ) → tuple_bytes ss ≤ body_bytes → k < length ss → slot_len (dir top ss ++ x) k ≡ length (get_or ss k [])
unfolding number_at bytes_of number_of
len_read top [] x k b l = absurd (omega arith)
len_read top (t ∷ ss) x zero b l = number-back 2 (length t) (omega arith)
len_read top (t ∷ ss) x (suc k) b l =
    let e : 4 * suc k + 2 ≡ suc (suc (suc (suc (4 * k + 2)))) = omega arith in
    rw e (len_read (top - length t) ss x k (omega arith) (omega arith))

-- ---- what stands there

pub part_at : (p t s : List ℕ) (a n : ℕ) → length p ≡ a → length t ≡ n → part a n (p ++ (t ++ s)) ≡ t
part_at p t s a n e f = ap (take n) (drop_at p (t ++ s) a e) ∙ take_at t s n f

regroup : (p a t s : List ℕ) → p ++ ((a ++ t) ++ s) ≡ (p ++ a) ++ (t ++ s)
regroup p a t s = simp append_assoc

pub tuple-there : (top : ℕ) (ss : List (List ℕ)) (p s : List ℕ) (k : ℕ) → length p + tuple_bytes ss ≡ top
    → part (off_at top ss k) (length (get_or ss k [])) (p ++ (heap ss ++ s)) ≡ get_or ss k []
tuple-there top [] p s k e = refl
tuple-there top ([] ∷ ss) p s zero e = refl
tuple-there top ((b ∷ t) ∷ ss) p s zero e =
    rw (regroup p (heap ss) (b ∷ t) s)
    (part_at (p ++ heap ss) (b ∷ t) s (top - suc (length t)) (suc (length t)) (omega (arith, length-append p (heap ss), length-heap ss)) refl)
tuple-there top (t ∷ ss) p s (suc k) e =
    rw (append_assoc (heap ss) t s) (tuple-there (top - length t) ss p (t ++ s) k (omega arith))

-- ---- P1

pub body-slot : (ss : List (List ℕ)) (k : ℕ) → room_for ss ≤ body_bytes → k < length ss
    → part (slot_off (body ss) k) (slot_len (body ss) k) (body ss) ≡ get_or ss k []
unfolding body
body-slot ss k f l =
    let z : List ℕ = replicate (body_bytes - room_for ss) 0 in
    let p : List ℕ = dir body_bytes ss ++ z in
    let lp : length p + tuple_bytes ss ≡ body_bytes = simp (length-append, length-dir, length-replicate) (omega arith) in
    let split : body ss ≡ p ++ (heap ss ++ []) = simp (append_assoc, append-nil) in
    ap₂ (λ (o n : ℕ). part o n (body ss)) (off-read body_bytes ss (z ++ heap ss) k (omega arith) l) (len_read body_bytes ss (z ++ heap ss) k (omega arith) l)
    ∙ ap (part (off_at body_bytes ss k) (length (get_or ss k []))) split
    ∙ tuple-there body_bytes ss p [] k lp

-- past the item count there is nothing
pub slot-past : (p : List ℕ) (k : ℕ) → count_of p ≤ k → slot_at p k ≡ []
unfolding slot_at
slot-past p k l = simp (le-ltb k (count_of p) l)

pub slot-in : (p : List ℕ) (k : ℕ) → k < count_of p → slot_at p k ≡ part (slot_off (body_of p) k) (slot_len (body_of p) k) (body_of p)
unfolding slot_at
slot-in p k l = simp (lt-ltb k (count_of p) l)

pub slot-back : (h : Head) (ss : List (List ℕ)) (k : ℕ) → length h.reserved ≡ 28 → room_for ss ≤ body_bytes
    → slot_at (packed h ss) k ≡ get_or ss k []
slot-back h ss k r f =
    let c : count_of (packed h ss) ≡ length ss = count-back h ss (omega arith) in
    elim (dec_le (suc k) (length ss)) [
      | yes l ↦ slot-in (packed h ss) k (omega arith) ∙ rw (body_back h ss r) (body-slot ss k f l)
      | no n ↦ slot-past (packed h ss) k (omega arith) ∙ sym (get_or-eq_default ss [] (omega arith))
    ]
