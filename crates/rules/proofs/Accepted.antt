-- M2: a page that a shorter log mended is accepted with the longer log where it was before.
-- Assumes nothing.
use mathlib.Core.Path.{◌≡◌, refl, ap, ◌∙◌, subst₂}
use mathlib.Core.Logic.{inl, inr}
use Prim.Native.Nat.{ℕ, zero, suc, ◌^◌, ◌≤◌, ◌<◌, max}
use native.Mathlib.Omega.{arith}
use native.Mathlib.Decide.{dec_le}
use mathlib.Core.Bool.{Bool, true, false}
use mathlib.Core.List.{List, [], ◌++◌}
use lib.ListN.{length, drop, get_or, length-take, length-drop, get_or-eq_default}
use lib.Seq.{length-take-le}
use lib.Dec.{ltb}
use Rattle.endian.specs.Pick.{pick}
use Rattle.endian.specs.Numbers.{Bytes, part}
use Rattle.endian.proofs.Bytes.{number-range, bytes_take, bytes_drop, bytes-nil}
use Rattle.wal.specs.Entry.{Entry}
use Rattle.page.specs.Layout.{page_bytes, count_of, type_of, lsn_of, free_end_of, body_of, slot_off, slot_len, slot_at}
use Rattle.page.specs.Packed.{Head, packed, room_for}
use Rattle.page.specs.Good.{Good, DataGood, SlotGood, TupleGood}
use Rattle.page.proofs.Fields.{type-back, lsn-back}
use Rattle.page.proofs.Slots.{slot-past, slot-in}
use Rattle.page.proofs.Tables.{length-tab, get_d-tab}
use Rattle.page.proofs.Goodness.{packed-good, packed-bytes, body_bytes_lem}
use Rattle.rules.specs.Mend.{changes, top_of, last_on, decided, slots_for, head_for, repacked, unless, mend_by, Accepts}
use Rattle.rules.proofs.Slots.{Images, decided-keeps, last-append}
use Rattle.rules.proofs.Mended.{slots-again}

-- ---- the tuples of a good page

pub slot-good : (p : List ℕ) (k : ℕ) → length p ≡ page_bytes → DataGood p → TupleGood (slot_at p k)
slot-good p k size g =
    elim (dec_le (suc k) (count_of p)) as (λ _. TupleGood (slot_at p k)) [
      | yes l ↦ rw (slot-in p k l) (of (g.slots k l))
      | no n ↦ inl (slot-past p k (omega arith))
    ]
  where
    of : SlotGood (body_of p) (free_end_of p) k → TupleGood (part (slot_off (body_of p) k) (slot_len (body_of p) k) (body_of p))
    of (inl e) = inl (rw e.1)
    of (inr f) = inr (rw (length-take-le (slot_len (body_of p) k) (drop (slot_off (body_of p) k) (body_of p)) (simp length-drop (omega arith))) f.long, f.deleted)

pub slot-bytes : (p : List ℕ) (k : ℕ) → Bytes p → Bytes (slot_at p k)
unfolding slot_at
slot-bytes p k b = of (ltb k (count_of p))
  where
    of : (t : Bool) → Bytes (pick t (part (slot_off (body_of p) k) (slot_len (body_of p) k) (body_of p)) [])
    of true = bytes_take (slot_len (body_of p) k) (bytes_drop (slot_off (body_of p) k) (bytes_drop 64 b))
    of false = bytes-nil

module _ (c d : ℕ → Bool) (magic floor₁ floor last last' : ℕ) (es fs : List Entry) (i : ℕ) (p : List ℕ)
    (first : Accepts c magic floor₁ last es i p) (second : Accepts d magic floor last' (es ++ fs) i p)
    (bytes : Bytes p) (lsns : last_on i (es ++ fs) ≤ last') (small : last' < 2 ^ 64)
    (images : (k : ℕ) → Images TupleGood (changes i k es)) (image-bytes : (k : ℕ) → Images Bytes (changes i k es)) where
  module _ (touched : 0 < top_of i es) where
    abbrev h : Head
    h = head_for c es i p

    abbrev ss : List (List ℕ)
    ss = slots_for c es i p

    each : (P : List ℕ → Type 0) → P [] → ((k : ℕ) → P (decided c es i k (slot_at p k))) → (k : ℕ) → P (get_or ss k [])
    unfolding slots_for
    each P z f k =
        elim (dec_le (suc k) (max (count_of p) (top_of i es))) as (λ _. P (get_or ss k [])) [
          | yes l ↦ rw (get_d-tab (max (count_of p) (top_of i es)) (λ j. decided c es i j (slot_at p j)) k l) (f k)
          | no n ↦ rw (get_or-eq_default ss [] {n = k} (omega (arith, length-tab (max (count_of p) (top_of i es)) (λ j. decided c es i j (slot_at p j))))) z
        ]

    data-good : DataGood p
    data-good = first.good.data_good (first.is_data touched)

    tuples-good : (k : ℕ) → TupleGood (get_or ss k [])
    tuples-good = each TupleGood (inl refl) (λ k. decided-keeps TupleGood c es i k (slot_at p k) (images k) (slot-good p k first.good.size data-good))

    tuples-bytes : (k : ℕ) → Bytes (get_or ss k [])
    tuples-bytes = each Bytes bytes-nil (λ k. decided-keeps Bytes c es i k (slot_at p k) (image-bytes k) (slot-bytes p k bytes))

    q-good : Good magic i (packed h ss)
    q-good =
        subst₂ (λ (m j : ℕ). Good m j (packed h ss)) first.good.magic_fits first.good.id_fits
        (packed-good h ss (number-range 8 0 bytes) first.good.type_known (number-range 8 16 bytes) (simp (length-take, length-drop) (omega (arith, first.good.size)))
        (first.has_room touched) (body_bytes_lem ss tuples-bytes) tuples-good)

    q-bytes : Bytes (packed h ss)
    q-bytes = packed-bytes h ss (bytes_take 28 (bytes_drop 36 bytes)) tuples-bytes

    q-lsn : lsn_of (packed h ss) ≡ max (lsn_of p) (last_on i es)
    q-lsn = lsn-back h ss (omega (arith, number-range 8 24 bytes, last-append i es fs))

    q-type : type_of (packed h ss) ≡ type_of p
    q-type = type-back h ss (number-range 1 8 bytes)

    q_room : room_for (slots_for d (es ++ fs) i (packed h ss)) ≡ room_for (slots_for d (es ++ fs) i p)
    q_room =
        ap room_for (slots-again c d es fs i p first.good.size bytes (omega (arith, last-append i es fs)) (first.has_room touched))

    q-accepted : Accepts d magic floor last' (es ++ fs) i (packed h ss)
    q-accepted =
        record {
          good = q-good;
          lsn_known = omega (arith, second.lsn_known, q-lsn, last-append i es fs);
          is_data = λ t. q-type ∙ second.is_data t;
          has_room = λ t. rw q_room (second.has_room t);
        }

  -- M2
  pub mend-accepted : Accepts d magic floor last' (es ++ fs) i (mend_by c es i p) × Bytes (mend_by c es i p)
  unfolding mend_by
  mend-accepted = go (top_of i es) refl
    where
      go : (n : ℕ) → top_of i es ≡ n
          → Accepts d magic floor last' (es ++ fs) i (unless c es i n p (repacked c es i p))
          × Bytes (unless c es i n p (repacked c es i p))
      go zero e = (second, bytes)
      go (suc n) e = (q-accepted (omega arith), q-bytes (omega arith))
