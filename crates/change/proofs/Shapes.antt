-- The shapes of entries, as tests on the log's bytes. Assumes nothing.
use Prim.Native.Nat.{ℕ, zero, suc, ◌+◌, ◌-◌, ◌≤◌, ◌<◌}
use mathlib.Core.Path.{◌≡◌, refl, sym, ap, ap₂, ◌∙◌}
use mathlib.Core.Bool.{Bool, true, false, not}
use mathlib.Core.List.{List, [], ◌∷◌, ◌++◌}
use native.Mathlib.Omega.{arith}
use native.Mathlib.Decide.{ℕ_discrete}
use lib.ListN.{length, get_or, take, drop}
use lib.Seq.{drop-drop, take-take, take-add}
use lib.Dec.{leb, eqb, eqb-suc-zero}
use lib.Pointwise.{pointwise}
use Rattle.std.proofs.Common.{◌&&◌}
use borrow.Author.Tests.{eqb-true, eq-eqb, ne_eqb, lt-leb, le-leb}
use Rattle.endian.specs.Numbers.{part, number_of, number_at, Bytes}
use Rattle.endian.proofs.Places.{part-take, part-drop, drop-part}
use Rattle.endian.proofs.Bytes.{bytes_take, bytes_drop}
use Rattle.crc32c.proofs.Runs.{part_length}
use Rattle.wal.specs.Entry.{key_part, old_part, new_part, entry_of, insert, delete, update, checkpoint}
use Rattle.wal.specs.declared.EntryView.{EntryView}
use Rattle.wal.proofs.WalkLaws.{EntryAt}
use Rattle.wal.proofs.Places.{key-length, old-length, new-length}
use Rattle.page.specs.Layout.{longest_tuple}
use Rattle.page.proofs.Reading.{deleted-in}
use Rattle.rules.specs.Shape.{both, is_image, is_none, is_keyed, is_bare, is_shaped, same}
use Rattle.rules.proofs.Tests.{false-true, both_true}

-- ---- equal bytes

pub same_refl : (l : List ℕ) → same l l ≡ true
unfolding same
same_refl [] = refl
same_refl (x ∷ l) = rw (eq-eqb x x refl, same_refl l)

pub same_true : (l m : List ℕ) → same l m ≡ true → l ≡ m
unfolding same
same_true [] [] h = refl
same_true [] (y ∷ m) h = false-true h
same_true (x ∷ l) [] h = false-true h
same_true (x ∷ l) (y ∷ m) h =
    let a = both_true (eqb x y) (same l m) h in
    ap₂ (λ (z : ℕ) (n : List ℕ). z ∷ n) (eqb-true x y a.0) (same_true l m a.1)

pub same_false : (l m : List ℕ) → (l ≡ m → ⊥) → same l m ≡ false
same_false l m n = go (same l m) refl
  where
    go : (b : Bool) → same l m ≡ b → b ≡ false
    go true q = absurd (n (same_true l m q))
    go false q = refl

-- `==` on slices, as the rules say it
pub pointwise-same : (l m : List ℕ) → pointwise eqb l m ≡ same l m
unfolding same
pointwise-same [] [] = refl
pointwise-same [] (y ∷ m) = refl
pointwise-same (x ∷ l) [] = refl
pointwise-same (x ∷ l) (y ∷ m) = go (eqb x y) (pointwise-same l m)
  where
    go : (b : Bool) {u v : Bool} → u ≡ v → b && u ≡ both b v
    go true e = e
    go false e = refl

-- ---- tuple images

module _ (s : List ℕ) (a n : ℕ) (room : a + n ≤ length s) where
  pub image-short : n < 24 → is_image (part a n s) ≡ false
  unfolding is_image
  image-short h = rw (part_length s a n room, lt-leb 24 n h)

  pub image-long : 24 ≤ n → longest_tuple < n → is_image (part a n s) ≡ false
  unfolding is_image
  image-long h k = rw (part_length s a n room, le-leb 24 n h, lt-leb n longest_tuple k)

  pub image-is : 24 ≤ n → n ≤ longest_tuple → is_image (part a n s) ≡ leb (get_or s (a + 16) 0) 1
  unfolding is_image
  image-is h k = rw (part_length s a n room, le-leb 24 n h, le-leb n longest_tuple k, deleted-in s a n h)

  -- after the key again
  pub keyed-short : (k : ℕ) → k + 10 ≤ length s → n < 10 → is_keyed (part k 10 s) (part a n s) ≡ false
  unfolding is_keyed
  keyed-short k r h =
      let f : same (take 10 (part a n s)) (part k 10 s) ≡ false = same_false _ _ (λ q. differ (ap length q)) in
      rw f
    where
      differ : length (take 10 (part a n s)) ≡ length (part k 10 s) → ⊥
      differ q = omega (arith, part_length s k 10 r, part_length s a n room, length-take-most 10 (part a n s))
        where
          length-take-most : (m : ℕ) (l : List ℕ) → length (take m l) ≤ length l
          length-take-most zero l = omega arith
          length-take-most (suc m) [] = omega arith
          length-take-most (suc m) (x ∷ l) = omega (arith, length-take-most m l)

  pub keyed-is : (k : ℕ) → 10 ≤ n → is_keyed (part k 10 s) (part a n s) ≡ both (same (part a 10 s) (part k 10 s)) (is_image (part (a + 10) (n - 10) s))
  unfolding is_keyed
  keyed-is k h =
      let f : take 10 (part a n s) ≡ part a 10 s = take-take 10 n (drop a s) h in
      rw (f, drop-part 10 a n s h)

  -- as code compares the two keys
  pub keyed-by : (k : ℕ) {b : Bool} → 10 ≤ n → b ≡ pointwise eqb (take (a + 10 - a) (drop a s)) (take (k + 10 - k) (drop k s))
      → is_keyed (part k 10 s) (part a n s) ≡ both b (is_image (part (a + 10) (n - 10) s))
  keyed-by k {b} h e =
      let p : a + 10 - a ≡ 10 = omega arith in
      let q : k + 10 - k ≡ 10 = omega arith in
      let f : b ≡ same (part a 10 s) (part k 10 s) = e ∙ rw (p, q) (pointwise-same (part a 10 s) (part k 10 s)) in
      keyed-is k h ∙ ap (λ (x : Bool). both x (is_image (part (a + 10) (n - 10) s))) (sym f)

-- ---- the entry v at p

module _ {s : List ℕ} {p : ℕ} {v : EntryView} (k : EntryAt s p v) where
  is-none : (n : ℕ) (l : List ℕ) → length l ≡ n → is_none l ≡ eqb n 0
  is-none n l e = ap (λ (m : ℕ). eqb m 0) e

  pub insert-shaped : v.kind ≡ insert → is_shaped (entry_of s v) ≡ both (eqb v.key_len 10) (both (eqb v.old_len 0) (is_image (new_part s v)))
  unfolding is_shaped entry_of
  insert-shaped e = rw (e, key-length k, old-length k)

  pub delete-shaped : v.kind ≡ delete → is_shaped (entry_of s v) ≡ both (eqb v.key_len 10) (both (is_image (old_part s v)) (eqb v.new_len 0))
  unfolding is_shaped entry_of
  delete-shaped e = rw (e, key-length k, new-length k)

  pub update-shaped : v.kind ≡ update → is_shaped (entry_of s v) ≡ both (eqb v.key_len 10) (both (is_keyed (key_part s v) (old_part s v)) (is_keyed (key_part s v) (new_part s v)))
  unfolding is_shaped entry_of
  update-shaped e = rw (e, key-length k)

  bare-is : is_bare (entry_of s v) ≡ eqb v.length 43
  unfolding is_bare entry_of
  bare-is = rw (key-length k, old-length k, new-length k) (go v.key_len v.old_len v.new_len k.inner)
    where
      go : (a b c : ℕ) → 43 + a + b + c ≡ v.length → both (eqb a 0) (both (eqb b 0) (eqb c 0)) ≡ eqb v.length 43
      go zero zero zero e = sym (eq-eqb v.length 43 (omega arith))
      go zero zero (suc c) e = rw (eqb-suc-zero c) (sym (ne_eqb v.length 43 (λ q. omega arith)))
      go zero (suc b) c e = rw (eqb-suc-zero b) (sym (ne_eqb v.length 43 (λ q. omega arith)))
      go (suc a) b c e = rw (eqb-suc-zero a) (sym (ne_eqb v.length 43 (λ q. omega arith)))

  pub checkpoint-shaped : v.kind ≡ checkpoint → is_shaped (entry_of s v) ≡ both (eqb v.length 43) (eqb v.txn.0 0)
  unfolding is_shaped entry_of
  checkpoint-shaped e =
      let a : eqb v.kind insert ≡ false = rw e in
      let b : eqb v.kind delete ≡ false = rw e in
      let c : eqb v.kind update ≡ false = rw e in
      let d : eqb v.kind checkpoint ≡ true = rw e in
      rw (a, b, c, d) (ap (λ (x : Bool). both x (eqb v.txn.0 0)) bare-is)

  pub other-shaped : (v.kind ≡ insert → ⊥) → (v.kind ≡ delete → ⊥) → (v.kind ≡ update → ⊥) → (v.kind ≡ checkpoint → ⊥) → is_shaped (entry_of s v) ≡ eqb v.length 43
  unfolding is_shaped entry_of
  other-shaped a b c d = rw (ne_eqb _ _ a, ne_eqb _ _ b, ne_eqb _ _ c, ne_eqb _ _ d) bare-is
