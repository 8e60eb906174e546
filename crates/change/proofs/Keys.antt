-- Where the page and the slot of a change stand in the log, and how long it is at least. Assumes nothing.
use Prim.Native.Nat.{ℕ, zero, suc, ◌+◌, ◌≤◌, ◌<◌}
use native.Mathlib.Omega.{arith}
use mathlib.Core.Path.{◌≡◌, refl, sym, ap, ◌∙◌}
use mathlib.Core.Bool.{Bool, true, false}
use mathlib.Core.List.{List}
use lib.ListN.{length, get_or, take, drop, length-drop}
use lib.Seq.{length-take-le}
use lib.Dec.{leb, eqb}
use borrow.Author.Tests.{leb-true, eqb-true}
use Rattle.endian.specs.Pick.{pick}
use Rattle.endian.specs.Numbers.{part, number_at}
use Rattle.endian.proofs.Places.{number-take, number-drop}
use Rattle.wal.specs.Entry.{Entry, insert, delete, update, checkpoint, entry_of}
use Rattle.wal.specs.Read.{length_at, key_len, view}
use Rattle.wal.specs.Prefix.{said, Stands}
use Rattle.wal.proofs.WalkLaws.{inner-lengths}
use Rattle.wal.proofs.Prefix.{stands_at}
use Rattle.wal.proofs.Places.{size-of}
use Rattle.rules.specs.Shape.{both, either, is_change, is_changing, is_image, is_none, same, is_key, is_keyed, is_bare, is_shaped, page_of, slot_of}
use Rattle.rules.proofs.Tests.{both_true, false-true}
use Rattle.change.specs.Places.{ChangeAt, slots_of, top_slot}

-- an image has 24 bytes or more
image-long : (t : List ℕ) → is_image t ≡ true → 24 ≤ length t
unfolding is_image
image-long t h = leb-true _ _ (both_true (leb 24 (length t)) _ h).0

-- a change of right shape has a key of ten bytes, and an image
change-parts : (e : Entry) → is_change e ≡ true → is_shaped e ≡ true → (length e.key ≡ 10) × (24 ≤ length e.old + length e.new)
unfolding is_changing is_shaped is_keyed
change-parts e = go (eqb e.kind insert) (eqb e.kind delete) (eqb e.kind update)
  where
    go : (a b c : Bool) → either a (either b c) ≡ true
        → pick a (both (is_key e.key) (both (is_none e.old) (is_image e.new)))
        (pick b (both (is_key e.key) (both (is_image e.old) (is_none e.new)))
        (pick c (both (is_key e.key) (both (is_keyed e.key e.old) (is_keyed e.key e.new)))
        (pick (eqb e.kind checkpoint) (both (is_bare e) (eqb e.txn 0)) (is_bare e)))) ≡ true
        → (length e.key ≡ 10) × (24 ≤ length e.old + length e.new)
    go true b c h s =
        let k = both_true (is_key e.key) _ s in
        (eqb-true _ _ k.0, omega (arith, image-long e.new (both_true (is_none e.old) _ k.1).1))
    go false true c h s =
        let k = both_true (is_key e.key) _ s in
        (eqb-true _ _ k.0, omega (arith, image-long e.old (both_true (is_image e.old) _ k.1).0))
    go false false true h s =
        let k = both_true (is_key e.key) _ s in
        let o = (both_true (is_keyed e.key e.old) (is_keyed e.key e.new) k.1).0 in
        let i = image-long (drop 10 e.old) (both_true (same (take 10 e.old) e.key) _ o).1 in
        (eqb-true _ _ k.0, omega (arith, length-drop 10 e.old, i))
    go false false false h s = false-true h

-- so it has 77 bytes or more
pub change-long : {s : List ℕ} {p : ℕ} → Stands s p → is_change (said s p) ≡ true → is_shaped (said s p) ≡ true → 77 ≤ length_at s p
change-long {s} {p} h change shaped = let k = stands_at h in let q = change-parts (said s p) change shaped in omega (arith, size-of k, k.front, q.0, q.1)

-- the page and the slot of the change at p
pub record KeyAt (s : List ℕ) (p : ℕ) : Type 0 where
  pub page : page_of (said s p) ≡ number_at 8 (p + 27) s
  pub slot : slot_of (said s p) ≡ number_at 2 (p + 35) s
  pub room : p + 37 ≤ length s

pub key-at : {s : List ℕ} {p : ℕ} → Stands s p → is_change (said s p) ≡ true → is_shaped (said s p) ≡ true → KeyAt s p
unfolding entry_of view
key-at {s} {p} h change shaped =
    let k = stands_at h in
    let i = inner-lengths k in
    let ten = (change-parts (said s p) change shaped).0 in
    let long : length (part (p + 27) (key_len s p) s) ≡ key_len s p = length-take-le (key_len s p) (drop (p + 27) s) (simp length-drop (omega (arith, k.room, k.inner))) in
    let n : key_len s p ≡ 10 = sym long ∙ ten in
    let key : (said s p).key ≡ part (p + 27) 10 s = ap (λ (m : ℕ). part (p + 27) m s) n in
    record {
      page = ap (number_at 8 0) key ∙ number-take 8 0 10 (drop (p + 27) s) (omega arith) ∙ number-drop 8 0 (p + 27) s ∙ ap (λ (q : ℕ). number_at 8 q s) (omega arith);
      slot = ap (number_at 2 8) key ∙ number-take 2 8 10 (drop (p + 27) s) (omega arith) ∙ number-drop 2 8 (p + 27) s ∙ ap (λ (q : ℕ). number_at 2 q s) (omega arith);
      room = omega (arith, k.room, k.inner);
    }

pub key_of : {s : List ℕ} {p : ℕ} → ChangeAt s p → KeyAt s p
key_of c = key-at c.stands c.change c.shaped

-- its one slot
pub slot_is : (e : Entry) (j : ℕ) → j < length (slots_of e) → slot_of e ≡ get_or (slots_of e) j 0
unfolding slots_of
slot_is e zero h = refl
slot_is e (suc j) h = absurd (omega arith)

pub top-is : (e : Entry) → top_slot (slots_of e) ≡ slot_of e + 1
unfolding slots_of top_slot
top-is e = omega arith
