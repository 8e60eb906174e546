-- M1, M3: mending by a longer log what a shorter one mended is mending by the longer one; the room that 14 measures is the same.
-- Assumes nothing.
use mathlib.Core.Path.{◌≡◌, refl, sym, ap, ap₂, ◌∙◌}
use Prim.Native.Nat.{ℕ, zero, suc, ◌^◌, ◌≤◌, ◌<◌, max}
use native.Mathlib.Omega.{arith}
use native.Mathlib.Decide.{dec_le}
use mathlib.Core.Bool.{Bool}
use mathlib.Core.List.{List, [], ◌++◌}
use lib.ListN.{length, length-take, length-drop, get_or-eq_default}
use Rattle.endian.specs.Numbers.{Bytes}
use Rattle.endian.proofs.Bytes.{number-range}
use Rattle.wal.specs.Entry.{Entry}
use Rattle.page.specs.Layout.{page_bytes, body_bytes, count_of, magic_of, type_of, id_of, lsn_of, reserved_of, slot_at}
use Rattle.page.specs.Packed.{Head, packed, tab, room_for}
use Rattle.page.proofs.Fields.{magic-back, type-back, count-back, id-back, lsn-back, reserved-back}
use Rattle.page.proofs.Slots.{slot-back, slot-past, length-packed}
use Rattle.page.proofs.Tables.{length-tab, get_d-tab}
use Rattle.rules.specs.Mend.{top_of, last_on, decided, slots_for, head_for, repacked, unless, mend_by}
use Rattle.rules.proofs.Slots.{top-append, last-append, decided-again, decided-untouched}

module _ (c : ℕ → Bool) (es : List Entry) (i : ℕ) (p : List ℕ) where
  pub length-slots : length (slots_for c es i p) ≡ max (count_of p) (top_of i es)
  unfolding slots_for
  length-slots = length-tab (max (count_of p) (top_of i es)) (λ k. decided c es i k (slot_at p k))

  module _ (size : length p ≡ page_bytes) where
    reserved-28 : length (reserved_of p) ≡ 28
    reserved-28 = simp (length-take, length-drop) (omega arith)

    -- the slots of a repacked page
    pub slot-repacked : room_for (slots_for c es i p) ≤ body_bytes → (k : ℕ) → slot_at (repacked c es i p) k ≡ decided c es i k (slot_at p k)
    unfolding slots_for
    slot-repacked fits k =
        slot-back (head_for c es i p) (slots_for c es i p) k reserved-28 fits
        ∙ elim (dec_le (suc k) (max (count_of p) (top_of i es))) [
          | yes l ↦ get_d-tab (max (count_of p) (top_of i es)) (λ j. decided c es i j (slot_at p j)) k l
          | no n ↦ get_or-eq_default (slots_for c es i p) [] (omega (arith, length-slots))
              ∙ sym (decided-untouched i c es k (slot_at p k) (omega arith) ∙ slot-past p k (omega arith))
        ]

    -- the slots and the length of a mended page
    pub slot-mended : (0 < top_of i es → room_for (slots_for c es i p) ≤ body_bytes) → (k : ℕ) → slot_at (mend_by c es i p) k ≡ decided c es i k (slot_at p k)
    unfolding mend_by
    slot-mended fits k = go (top_of i es) refl
      where
        go : (n : ℕ) → top_of i es ≡ n → slot_at (unless c es i n p (repacked c es i p)) k ≡ decided c es i k (slot_at p k)
        go zero e = sym (decided-untouched i c es k (slot_at p k) (omega arith))
        go (suc n) e = slot-repacked (fits (omega arith)) k

    pub length-mended : (0 < top_of i es → room_for (slots_for c es i p) ≤ body_bytes) → length (mend_by c es i p) ≡ page_bytes
    unfolding mend_by
    length-mended fits = go (top_of i es) refl
      where
        go : (n : ℕ) → top_of i es ≡ n → length (unless c es i n p (repacked c es i p)) ≡ page_bytes
        go zero e = size
        go (suc n) e = length-packed (head_for c es i p) (slots_for c es i p) reserved-28 (fits (omega arith))

module _ (c d : ℕ → Bool) (es fs : List Entry) (i : ℕ) (p : List ℕ)
    (size : length p ≡ page_bytes) (bytes : Bytes p) (lsns : last_on i es < 2 ^ 64) where
  module _ (fits : room_for (slots_for c es i p) ≤ body_bytes) where
    abbrev q : List ℕ
    q = repacked c es i p

    count-q : count_of q ≡ max (count_of p) (top_of i es)
    count-q = count-back (head_for c es i p) (slots_for c es i p) (omega (arith, length-slots c es i p)) ∙ length-slots c es i p

    pub slots-again : slots_for d (es ++ fs) i q ≡ slots_for d (es ++ fs) i p
    unfolding slots_for
    slots-again =
        let n : max (count_of q) (top_of i (es ++ fs)) ≡ max (count_of p) (top_of i (es ++ fs)) = omega (arith, count-q, top-append i es fs) in
        ap₂ tab n
        (λ j k. (ap (decided d (es ++ fs) i k) (slot-repacked c es i p size fits k) ∙ decided-again i c d es fs k (slot_at p k)) j)

    head-again : head_for d (es ++ fs) i q ≡ head_for d (es ++ fs) i p
    head-again =
        let h : Head = head_for c es i p in
        let ss : List (List ℕ) = slots_for c es i p in
        let m : magic_of q ≡ magic_of p = magic-back h ss (number-range 8 0 bytes) in
        let t : type_of q ≡ type_of p = type-back h ss (number-range 1 8 bytes) in
        let n : id_of q ≡ id_of p = id-back h ss (number-range 8 16 bytes) in
        let l : lsn_of q ≡ max (lsn_of p) (last_on i es) = lsn-back h ss (omega (arith, number-range 8 24 bytes)) in
        let r : reserved_of q ≡ reserved_of p = reserved-back h ss (reserved-28 c es i p size) in
        let a : max (lsn_of q) (last_on i (es ++ fs)) ≡ max (lsn_of p) (last_on i (es ++ fs)) = omega (arith, last-append i es fs) in
        λ j. record { magic = m j; type = t j; id = n j; lsn = a j; reserved = r j }

    again : repacked d (es ++ fs) i q ≡ repacked d (es ++ fs) i p
    again = ap₂ packed head-again slots-again

  module _ (fits : 0 < top_of i es → room_for (slots_for c es i p) ≤ body_bytes) where
    pub mend-slots : slots_for d (es ++ fs) i (mend_by c es i p) ≡ slots_for d (es ++ fs) i p
    unfolding mend_by
    mend-slots = go (top_of i es) refl
      where
        go : (n : ℕ) → top_of i es ≡ n → slots_for d (es ++ fs) i (unless c es i n p (repacked c es i p)) ≡ slots_for d (es ++ fs) i p
        go zero e = refl
        go (suc n) e = slots-again (fits (omega arith))

    -- M3
    pub mend-room : room_for (slots_for d (es ++ fs) i (mend_by c es i p)) ≡ room_for (slots_for d (es ++ fs) i p)
    mend-room = ap room_for mend-slots

    -- M1
    pub mend-again : mend_by d (es ++ fs) i (mend_by c es i p) ≡ mend_by d (es ++ fs) i p
    unfolding mend_by
    mend-again = go (top_of i es) refl
      where
        full : List ℕ → List ℕ
        full = repacked d (es ++ fs) i

        step : (m : ℕ) → 0 < m → 0 < top_of i es → unless d (es ++ fs) i m (repacked c es i p) (full (repacked c es i p)) ≡ unless d (es ++ fs) i m p (full p)
        step zero l t = absurd (omega arith)
        step (suc m) l t = again (fits t)

        go : (n : ℕ) → top_of i es ≡ n
            → unless d (es ++ fs) i (top_of i (es ++ fs)) (unless c es i n p (repacked c es i p)) (full (unless c es i n p (repacked c es i p)))
            ≡ unless d (es ++ fs) i (top_of i (es ++ fs)) p (full p)
        go zero e = refl
        go (suc n) e = step (top_of i (es ++ fs)) (omega (arith, top-append i es fs)) (omega arith)
