-- P3: a packed page is good, and made of bytes.
-- Assumes nothing.
use mathlib.Core.Path.{◌≡◌, refl, sym, ap, ◌∙◌}
use mathlib.Core.Logic.{inl, inr}
use Prim.Native.Nat.{ℕ, zero, suc, ◌+◌, ◌-◌, ◌^◌, ◌≤◌, ◌<◌}
use native.Mathlib.Omega.{arith}
use mathlib.Core.List.{List, [], ◌∷◌}
use lib.ListN.{length, get_or}
use Rattle.endian.specs.Numbers.{Bytes}
use Rattle.endian.proofs.Bytes.{bytes-nil, bytes-append, bytes-of, bytes-zeros, bytes}
use Rattle.crc32c.specs.Crc.{crc32c}
use Rattle.page.specs.Layout.{body_bytes, body_of, count_of, free_end_of, slot_off, slot_len}
use Rattle.page.specs.Packed.{Head, packed, body, dir, heap, off_of, tuple_bytes, room_for}
use Rattle.page.specs.Good.{SlotGood, Holds, Good, TupleGood}
use Rattle.page.proofs.Fields.{magic-back, type-back, count-back, crc-back, id-back, free_start-back, free_end-back, body_back}
use Rattle.page.proofs.Slots.{off_at, off-read, len_read, body-slot, length-packed}

off-range : (top : ℕ) (ss : List (List ℕ)) (k : ℕ) → tuple_bytes ss ≤ top → 0 < length (get_or ss k [])
    → (top - tuple_bytes ss ≤ off_at top ss k) × (off_at top ss k + length (get_or ss k []) ≤ top)
off-range top [] k f l = omega arith
off-range top ([] ∷ ss) zero f l = omega arith
off-range top ((b ∷ t) ∷ ss) zero f l = omega arith
off-range top (t ∷ ss) (suc k) f l = omega (arith, off-range (top - length t) ss k (omega arith) l)

off-apart : (top : ℕ) (ss : List (List ℕ)) (j k : ℕ) → tuple_bytes ss ≤ top → j < k → 0 < length (get_or ss j []) → 0 < length (get_or ss k [])
    → off_at top ss k + length (get_or ss k []) ≤ off_at top ss j
off-apart top [] j k f l m n = omega arith
off-apart top (t ∷ ss) j zero f l m n = absurd (omega arith)
off-apart top ([] ∷ ss) zero (suc k) f l m n = absurd (omega arith)
off-apart top ((b ∷ t) ∷ ss) zero (suc k) f l m n = omega (arith, off-range (top - suc (length t)) ss k (omega arith) n)
off-apart top (t ∷ ss) (suc j) (suc k) f l m n = off-apart (top - length t) ss j k (omega arith) (omega arith) m n

module _ (ss : List (List ℕ)) (fits : room_for ss ≤ body_bytes) where
  -- what slot k of the body says
  off-body : (k : ℕ) → k < length ss → slot_off (body ss) k ≡ off_at body_bytes ss k
  unfolding body
  off-body k l = off-read body_bytes ss _ k (omega arith) l

  len-body : (k : ℕ) → k < length ss → slot_len (body ss) k ≡ length (get_or ss k [])
  unfolding body
  len-body k l = len_read body_bytes ss _ k (omega arith) l

  off-empty : (top : ℕ) (rs : List (List ℕ)) (k : ℕ) → get_or rs k [] ≡ [] → off_at top rs k ≡ 0
  off-empty top [] k e = refl
  off-empty top ([] ∷ rs) zero e = refl
  off-empty top ((b ∷ t) ∷ rs) zero e = absurd (omega (arith, ap length e))
  off-empty top (t ∷ rs) (suc k) e = off-empty (top - length t) rs k e

  body-slot-good : (k : ℕ) → k < length ss → TupleGood (get_or ss k []) → SlotGood (body ss) (body_bytes - tuple_bytes ss) k
  body-slot-good k l (inl e) = inl (off-body k l ∙ off-empty body_bytes ss k e, len-body k l ∙ ap length e)
  body-slot-good k l (inr g) =
      let r : (body_bytes - tuple_bytes ss ≤ off_at body_bytes ss k) × (off_at body_bytes ss k + length (get_or ss k []) ≤ body_bytes) =
      off-range body_bytes ss k (omega arith) (omega arith) in
      inr (record {
        long = omega (arith, len-body k l);
        above = omega (arith, off-body k l);
        within = omega (arith, off-body k l, len-body k l);
        deleted = rw (body-slot ss k fits l) g.1;
      })

  body-apart : (j k i : ℕ) → j < k → k < length ss → Holds (body ss) j i → Holds (body ss) k i → ⊥
  body-apart j k i l m x y =
      let nj : 0 < length (get_or ss j []) = omega (arith, len-body j (omega arith)) in
      let nk : 0 < length (get_or ss k []) = omega (arith, len-body k m) in
      omega (arith, off-body j (omega arith), off-body k m, len-body j (omega arith), len-body k m, off-apart body_bytes ss j k (omega arith) l nj nk)

-- P3
pub packed-good : (h : Head) (ss : List (List ℕ)) → h.magic < 2 ^ 64 → h.type ≤ 6 → h.id < 2 ^ 64 → length h.reserved ≡ 28
    → room_for ss ≤ body_bytes → Bytes (body ss) → ((k : ℕ) → TupleGood (get_or ss k [])) → Good h.magic h.id (packed h ss)
packed-good h ss mb tb ib r f bb tg =
    let cnt : count_of (packed h ss) ≡ length ss = count-back h ss (omega arith) in
    let bod : body_of (packed h ss) ≡ body ss = body_back h ss r in
    let fe : free_end_of (packed h ss) ≡ body_bytes - tuple_bytes ss = free_end-back h ss in
    record {
      size = length-packed h ss r f;
      magic_fits = magic-back h ss mb;
      type_known = omega (arith, type-back h ss (omega arith));
      id_fits = id-back h ss ib;
      crc_right = crc-back h ss bb ∙ ap crc32c (sym bod);
      data_good = λ _. record {
        start = omega (arith, free_start-back h ss (omega arith));
        start_end = omega (arith, free_start-back h ss (omega arith));
        end = omega arith;
        slots = rw (cnt, bod, fe) (λ k l. body-slot-good ss f k l (tg k));
        apart = rw (cnt, bod) (body-apart ss f);
      };
    }

-- ---- the bytes of a packed page

pub dir-bytes : (top : ℕ) (ss : List (List ℕ)) → Bytes (dir top ss)
dir-bytes top [] = bytes-nil
dir-bytes top (t ∷ ss) = bytes-append (bytes-append (bytes-of 2 (off_of (length t) (top - length t))) (bytes-of 2 (length t))) (dir-bytes (top - length t) ss)

pub heap-bytes : (ss : List (List ℕ)) → ((k : ℕ) → Bytes (get_or ss k [])) → Bytes (heap ss)
heap-bytes [] h = bytes-nil
heap-bytes (t ∷ ss) h = bytes-append (heap-bytes ss (λ k. h (suc k))) (h zero)

pub body_bytes_lem : (ss : List (List ℕ)) → ((k : ℕ) → Bytes (get_or ss k [])) → Bytes (body ss)
unfolding body
body_bytes_lem ss a = bytes-append (dir-bytes body_bytes ss) (bytes-append (bytes-zeros (body_bytes - room_for ss)) (heap-bytes ss a))

pub packed-bytes : (h : Head) (ss : List (List ℕ)) → Bytes h.reserved → ((k : ℕ) → Bytes (get_or ss k [])) → Bytes (packed h ss)
unfolding packed
packed-bytes h ss r a =
    let b : Bytes (body ss) = body_bytes_lem ss a in
    search bytes depth 12
