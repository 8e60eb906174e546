-- The images of a well-shaped change are tuples, and bytes where the entry's are.
-- Assumes nothing.
use mathlib.Core.Path.{◌≡◌, refl, ◌∙◌}
use mathlib.Core.Logic.{inl, inr}
use mathlib.Core.Bool.{Bool, true, false}
use Prim.Native.Nat.{ℕ, ◌^◌, ◌≤◌, ◌<◌}
use native.Mathlib.Omega.{arith}
use mathlib.Core.List.{List, [], ◌∷◌, ◌++◌, append_assoc}
use lib.ListN.{length, take, drop, length-append, length-drop}
use lib.Seq.{length-take-le, get_or_at}
use lib.Dec.{leb, eqb}
use borrow.Author.Tests.{leb-true}
use Rattle.endian.specs.Pick.{pick}
use Rattle.endian.specs.Numbers.{Bytes, bytes_of}
use Rattle.endian.proofs.Numbers.{length-bytes_of}
use Rattle.endian.proofs.Places.{number-byte}
use Rattle.endian.proofs.Bytes.{bytes-nil, bytes-cons, bytes-append, bytes-of, bytes_take, bytes_drop}
use Rattle.wal.specs.Entry.{Entry, insert, delete, update, checkpoint}
use Rattle.page.specs.Layout.{longest_tuple, deleted_of}
use Rattle.page.specs.Good.{TupleGood}
use Rattle.rules.specs.Shape.{Change, both, either, is_change, is_changing, is_image, is_none, is_key, is_keyed, is_bare, is_shaped, key_bytes, same, stamped, page_of, slot_of, before_of, after_of, is_on, effect_on}
use Rattle.rules.specs.Mend.{changes}
use Rattle.rules.proofs.Tests.{both_true, false-true}
use Rattle.rules.proofs.Slots.{Images}
use Rattle.rules.proofs.OrderLaws.{Every, every_map, InTurn, all-shaped}

pub record Image (t : List ℕ) : Type 0 where
  pub long : 24 ≤ length t
  pub short : length t ≤ longest_tuple
  pub deleted : deleted_of t ≤ 1

pub image : {t : List ℕ} → is_image t ≡ true → Image t
unfolding is_image
image {t} h =
    let a = both_true (leb 24 (length t)) _ h in
    let b = both_true (leb (length t) longest_tuple) _ a.1 in
    record { long = leb-true _ _ a.0; short = leb-true _ _ b.0; deleted = leb-true _ _ b.1 }

pub image-good : {t : List ℕ} → Image t → TupleGood t
image-good g = inr (g.long, g.deleted)

-- ---- a stamped tuple

module _ (x : ℕ) (t : List ℕ) (long : 24 ≤ length t) where
  pub stamped-length : length (stamped x t) ≡ length t
  unfolding stamped
  stamped-length =
      let a : length (take 8 t) ≡ 8 = length-take-le 8 t (omega arith) in
      simp (length-append, length-bytes_of, length-drop) (omega arith)

  pub stamped-deleted : deleted_of (stamped x t) ≡ 1
  unfolding stamped
  stamped-deleted =
      let a : length (take 8 t) ≡ 8 = length-take-le 8 t (omega arith) in
      let l : length (take 8 t ++ bytes_of 8 x) ≡ 16 = simp (length-append, length-bytes_of) (omega arith) in
      number-byte 16 (take 8 t ++ (bytes_of 8 x ++ (1 ∷ drop 17 t)))
      ∙ rw (← append_assoc (take 8 t) (bytes_of 8 x) (1 ∷ drop 17 t)) (get_or_at (take 8 t ++ bytes_of 8 x) 1 (drop 17 t) 0 16 l)

stamped-good : (x : ℕ) {t : List ℕ} → Image t → TupleGood (stamped x t)
stamped-good x {t} g = inr (omega (arith, stamped-length x t g.long, g.long), omega (arith, stamped-deleted x t g.long))

-- ---- the images of a change

pub images-good : (e : Entry) → is_change e ≡ true → is_shaped e ≡ true → TupleGood (before_of e) × TupleGood (after_of e)
unfolding is_changing is_shaped before_of after_of is_keyed
images-good e = go (eqb e.kind insert) (eqb e.kind delete) (eqb e.kind update)
  where
    keyed : (v : List ℕ) → is_keyed e.key v ≡ true → TupleGood (drop key_bytes v)
    keyed v h = image-good (image (both_true (same (take key_bytes v) e.key) _ h).1)

    go : (a b c : Bool) → either a (either b c) ≡ true
        → pick a (both (is_key e.key) (both (is_none e.old) (is_image e.new)))
        (pick b (both (is_key e.key) (both (is_image e.old) (is_none e.new)))
        (pick c (both (is_key e.key) (both (is_keyed e.key e.old) (is_keyed e.key e.new)))
        (pick (eqb e.kind checkpoint) (both (is_bare e) (eqb e.txn 0)) (is_bare e)))) ≡ true
        → TupleGood (pick a [] (pick b e.old (drop key_bytes e.old)))
        × TupleGood (pick a e.new (pick b (stamped e.txn e.old) (drop key_bytes e.new)))
    go true b c h s =
        let k = both_true (is_key e.key) _ s in
        let o = both_true (is_none e.old) _ k.1 in
        (inl refl, image-good (image o.1))
    go false true c h s =
        let k = both_true (is_key e.key) _ s in
        let o = both_true (is_image e.old) _ k.1 in
        (image-good (image o.0), stamped-good e.txn (image o.0))
    go false false true h s =
        let k = both_true (is_key e.key) _ s in
        let o = both_true (is_keyed e.key e.old) _ k.1 in
        (keyed e.old o.0, keyed e.new o.1)
    go false false false h s = false-true h

-- the numbers and bytes of an entry are in range
pub record InRange (e : Entry) : Type 0 where
  pub lsn : e.lsn < 2 ^ 64
  pub txn : e.txn < 2 ^ 64
  pub key : Bytes e.key
  pub old : Bytes e.old
  pub new : Bytes e.new

pub images-bytes : (e : Entry) → InRange e → Bytes (before_of e) × Bytes (after_of e)
unfolding before_of after_of stamped
images-bytes e r = go (eqb e.kind insert) (eqb e.kind delete)
  where
    go : (a b : Bool) → Bytes (pick a [] (pick b e.old (drop key_bytes e.old)))
        × Bytes (pick a e.new (pick b (stamped e.txn e.old) (drop key_bytes e.new)))
    go true b = (bytes-nil, r.new)
    go false true = (r.old, bytes-append (bytes_take 8 r.old) (bytes-append (bytes-of 8 e.txn) (bytes-cons (omega arith) (bytes_drop 17 r.old))))
    go false false = (bytes_drop key_bytes r.old, bytes_drop key_bytes r.new)

-- what holds of the images of each change holds of the changes on a slot
pub images-of : (P : List ℕ → Type 0) (i k : ℕ) (es : List Entry) → Every (λ e. is_change e ≡ true → P (before_of e) × P (after_of e)) es → Images P (changes i k es)
unfolding changes effect_on is_on
images-of P i k [] h = tt
images-of P i k (e ∷ es) h = go (is_change e) (eqb (page_of e) i) (eqb (slot_of e) k) h.0 (images-of P i k es h.1)
  where
    go : (a b c : Bool) → (a ≡ true → P (before_of e) × P (after_of e)) → Images P (changes i k es)
        → Images P (pick {A = List Change} (both (both a b) c) (record { by = e.txn; before = before_of e; after = after_of e } ∷ []) [] ++ changes i k es)
    go true true true f r = ((f refl).0, (f refl).1, r)
    go true true false f r = r
    go true false c f r = r
    go false b c f r = r

-- the images of each change on a slot are tuples, in entries that keep the order rules
pub tuple-images : (full : ℕ → Bool) (es : List Entry) → InTurn full [] es → (i k : ℕ) → Images TupleGood (changes i k es)
tuple-images full es h i k =
    images-of TupleGood i k es
    (every_map (λ e. is_shaped e ≡ true) (λ e. is_change e ≡ true → TupleGood (before_of e) × TupleGood (after_of e)) (λ e s c. images-good e c s) es (all-shaped full [] es h))
