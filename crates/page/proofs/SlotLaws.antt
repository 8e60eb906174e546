-- The rules of one slot as tests and as facts, and the first slot at fault.
-- Assumes nothing.
use mathlib.Core.Path.{◌≡◌, refl, sym, ◌∙◌}
use mathlib.Core.Logic.{inl, inr}
use mathlib.Core.Bool.{Bool, true, false}
use Prim.Native.Nat.{ℕ, zero, suc, ◌+◌, ◌-◌, ◌≤◌, ◌<◌, max, min}
use native.Mathlib.Decide.{dec_le}
use native.Mathlib.Numerals.{add-one}
use native.Mathlib.Omega.{arith}
use mathlib.Core.List.{List}
use borrow.Author.Tests.{le-ltb, le-leb, eq-eqb, ne_eqb, ltb-false, leb-true, eqb-true}
use lib.Dec.{leb}
use Rattle.endian.specs.Pick.{pick}
use lib.ListN.{get_or}
use Rattle.endian.specs.Numbers.{part}
use Rattle.page.specs.Layout.{body_bytes, row_head, body_of, slot_off, slot_len, deleted_of}
use Rattle.page.specs.Good.{Filled, SlotGood, Holds}
use Rattle.page.specs.Fault.{is_tuple, is_filled, is_empty, share, shares_earlier, slot_faulty, slots_fault}
use Rattle.std.specs.Prelude.{Option, Some, None}
use Rattle.page.specs.declared.Fault.{Fault}
use Rattle.page.specs.declared.Fault.TheVariants.{Slot}
use Rattle.page.proofs.Picks.{both, neither, either, cleared, any}
use Rattle.page.proofs.Reading.{deleted-at}

-- ---- a slot by itself

-- slot k is empty or filled
abbrev pub fine : List ℕ → ℕ → ℕ → Bool
fine b end k = pick (is_empty b k) true (is_filled b end k)

-- what `is_tuple` tests
pub record Fits (b : List ℕ) (end top o n : ℕ) : Type 0 where
  pub long : row_head ≤ n
  pub above : end ≤ o
  pub within : o + n ≤ top
  pub deleted : deleted_of (part o n b) ≤ 1

module _ (b : List ℕ) (end top o n : ℕ) where
  pub fits-test : Fits b end top o n → is_tuple b end top o n ≡ true
  unfolding is_tuple
  fits-test f = simp (le-leb _ _ f.long, le-leb _ _ f.above, le-leb _ _ f.within, le-leb _ _ f.deleted)

  pub test_fits : is_tuple b end top o n ≡ true → Fits b end top o n
  unfolding is_tuple
  test_fits e =
      let p = both _ _ e in
      let q = both _ _ p.1 in
      let r = both _ _ q.1 in
      record { long = leb-true _ _ p.0; above = leb-true _ _ q.0; within = leb-true _ _ r.0; deleted = leb-true _ _ r.1 }

-- the last of these tests, as code makes it
pub tuple-last : (p : List ℕ) (end top o n : ℕ) → row_head ≤ n → end ≤ o → o + n ≤ top → is_tuple (body_of p) end top o n ≡ leb (get_or p (80 + o) 0) 1
unfolding is_tuple
tuple-last p end top o n l a w = simp (le-leb _ _ l, le-leb _ _ a, le-leb _ _ w, deleted-at p o n l)

module _ (b : List ℕ) (end k : ℕ) where
  filled-test : Filled b end k → is_filled b end k ≡ true
  unfolding is_filled
  filled-test f = fits-test b end body_bytes _ _ (record { long = f.long; above = f.above; within = f.within; deleted = f.deleted })

  test-filled : is_filled b end k ≡ true → Filled b end k
  unfolding is_filled
  test-filled e =
      let f = test_fits b end body_bytes (slot_off b k) (slot_len b k) e in
      record { long = f.long; above = f.above; within = f.within; deleted = f.deleted }

  pub empty-test : slot_off b k + slot_len b k ≡ 0 → is_empty b k ≡ true
  unfolding is_empty
  empty-test e = simp (eq-eqb (slot_off b k) 0 (omega arith), eq-eqb (slot_len b k) 0 (omega arith))

  pub not-empty : (slot_off b k + slot_len b k ≡ 0 → ⊥) → is_empty b k ≡ false
  unfolding is_empty
  not-empty h =
      elim (dec_le (slot_off b k) 0) [
        | yes l ↦ simp (ne_eqb (slot_len b k) 0 (λ e. h (omega arith)), eq-eqb (slot_off b k) 0 (omega arith))
        | no l ↦ simp (ne_eqb (slot_off b k) 0 (λ e. h (omega arith)))
      ]

  pub test-empty : is_empty b k ≡ true → (slot_off b k ≡ 0) × (slot_len b k ≡ 0)
  unfolding is_empty
  test-empty e = let p = both _ _ e in (eqb-true _ _ p.0, eqb-true _ _ p.1)

  pub fine-good : fine b end k ≡ true → SlotGood b end k
  fine-good e = elim (either (is_empty b k) (is_filled b end k) e) [ inl p ↦ inl (test-empty p) | inr p ↦ inr (test-filled p) ]

  pub good-fine : SlotGood b end k → fine b end k ≡ true
  good-fine (inl p) = rw (empty-test (omega arith))
  good-fine (inr f) = rw (filled-test f) (any (is_empty b k))

  -- as code tests it
  module _ (o n : ℕ) (eo : o ≡ slot_off b k) (en : n ≡ slot_len b k) where
    pub fine-empty : o + n ≡ 0 → true ≡ fine b end k
    fine-empty e = sym (rw (empty-test (omega arith)))

    pub fine-tuple : (o + n ≡ 0 → ⊥) → is_tuple b end body_bytes o n ≡ fine b end k
    unfolding is_filled
    fine-tuple h = rw (not-empty (λ e. h (omega arith)), eo, en)

-- ---- two slots

module _ (b : List ℕ) (j k : ℕ) where
  pub share-apart : share b j k ≡ false → (i : ℕ) → Holds b j i → Holds b k i → ⊥
  unfolding share
  share-apart e i x y =
      let h : min (slot_off b j + slot_len b j) (slot_off b k + slot_len b k) ≤ max (slot_off b j) (slot_off b k) = ltb-false _ _ e in
      omega arith

  pub apart-share : ((i : ℕ) → Holds b j i → Holds b k i → ⊥) → share b j k ≡ false
  unfolding share
  apart-share h =
      let at : ℕ = max (slot_off b j) (slot_off b k) in
      let end : ℕ = min (slot_off b j + slot_len b j) (slot_off b k + slot_len b k) in
      elim (dec_le end at) [
        | yes l ↦ le-ltb at end l
        | no n ↦ absurd (h at (omega arith, omega arith) (omega arith, omega arith))
      ]

module _ (b : List ℕ) (k : ℕ) where
  -- none of the first n shares a byte with slot k
  pub earlier-none : (n : ℕ) → shares_earlier b k n ≡ false → (j : ℕ) → j < n → share b j k ≡ false
  unfolding shares_earlier
  earlier-none zero e j l = absurd (omega arith)
  earlier-none (suc n) e j l =
      let p : (share b n k ≡ false) × (shares_earlier b k n ≡ false) = neither _ _ e in
      elim (dec_le n j) [
        | yes m ↦ let z : j ≡ n = omega arith in rw z p.0
        | no m ↦ earlier-none n p.1 j (omega arith)
      ]

  pub none-earlier : (n : ℕ) → ((j : ℕ) → j < n → share b j k ≡ false) → shares_earlier b k n ≡ false
  unfolding shares_earlier
  none-earlier zero h = refl
  none-earlier (suc n) h = rw (h n (omega arith)) (none-earlier n (λ j l. h j (omega arith)))

  -- a slot of no bytes shares none
  pub earlier-empty : slot_len b k ≡ 0 → (n : ℕ) → shares_earlier b k n ≡ false
  earlier-empty e n = none-earlier n (λ j l. apart-share b j k (λ i x y. omega arith))

  pub earlier_more : (n : ℕ) → shares_earlier b k n ≡ false → share b n k ≡ false → shares_earlier b k (n + 1) ≡ false
  unfolding shares_earlier
  earlier_more n h e = rw (add-one n, e) h

  -- one of them does
  pub earlier-one : (n j : ℕ) → j < n → share b j k ≡ true → shares_earlier b k n ≡ true
  unfolding shares_earlier
  earlier-one zero j l e = absurd (omega arith)
  earlier-one (suc n) j l e =
      elim (dec_le n j) [
        | yes m ↦ let z : j ≡ n = omega arith in rw (← z, e)
        | no m ↦ rw (earlier-one n j (omega arith) e) (any (share b n k))
      ]

-- ---- the first slot at fault

module _ (b : List ℕ) (end k : ℕ) where
  pub faulty-not : fine b end k ≡ true → shares_earlier b k k ≡ false → slot_faulty b end k ≡ false
  unfolding slot_faulty
  faulty-not f e = rw (f, e)

  pub not-faulty : slot_faulty b end k ≡ false → SlotGood b end k × (shares_earlier b k k ≡ false)
  unfolding slot_faulty
  not-faulty e = let p : (fine b end k ≡ true) × (shares_earlier b k k ≡ false) = cleared _ _ e in (fine-good b end k p.0, p.1)

  pub faulty-itself : fine b end k ≡ false → slot_faulty b end k ≡ true
  unfolding slot_faulty
  faulty-itself f = rw f

  pub faulty-shares : fine b end k ≡ true → shares_earlier b k k ≡ true → slot_faulty b end k ≡ true
  unfolding slot_faulty
  faulty-shares f e = rw (f, e)

module _ (b : List ℕ) (end : ℕ) where
  pub slots-start : (n : ℕ) → slots_fault b end (n - 0) 0 ≡ slots_fault b end n 0
  slots-start n = let z : n - 0 ≡ n = omega arith in rw z

  -- slot k of n: the search goes on behind it, or ends there
  pub slots_next : (n k : ℕ) → k < n → fine b end k ≡ true → shares_earlier b k k ≡ false → slots_fault b end (n - (k + 1)) (k + 1) ≡ slots_fault b end (n - k) k
  unfolding slots_fault
  slots_next n k l f e =
      let z : n - k ≡ suc (n - (k + 1)) = omega arith in
      rw (z, faulty-not b end k f e, add-one)

  pub slots-hit : (n k : ℕ) → k < n → slot_faulty b end k ≡ true → slots_fault b end (n - k) k ≡ Some (Slot k)
  unfolding slots_fault
  slots-hit n k l e = let z : n - k ≡ suc (n - (k + 1)) = omega arith in rw (z, e)

  pub slots_end : (n k : ℕ) → n ≤ k → slots_fault b end (n - k) k ≡ None
  unfolding slots_fault
  slots_end n k l = let z : n - k ≡ 0 = omega arith in rw z

  pub slots-sound : (n k : ℕ) → ((j : ℕ) → k ≤ j → j < k + n → slot_faulty b end j ≡ false) → slots_fault b end n k ≡ None
  unfolding slots_fault
  slots-sound zero k h = refl
  slots-sound (suc n) k h = rw (h k (omega arith) (omega arith)) (slots-sound n (suc k) (λ j l m. h j (omega arith) (omega arith)))

  pub sound-slots : (n k : ℕ) → slots_fault b end n k ≡ None → (j : ℕ) → k ≤ j → j < k + n → slot_faulty b end j ≡ false
  unfolding slots_fault
  sound-slots zero k e j l m = absurd (omega arith)
  sound-slots (suc n) k e j l m =
      let p : (slot_faulty b end k ≡ false) × (slots_fault b end n (suc k) ≡ None) = passed (slot_faulty b end k) k _ e in
      elim (dec_le j k) [
        | yes r ↦ let z : j ≡ k = omega arith in rw z p.0
        | no r ↦ sound-slots n (suc k) p.1 j (omega arith) (omega arith)
      ]
    where
      passed : (t : Bool) (i : ℕ) (f : Option Fault) → pick t (Some (Slot i)) f ≡ None → (t ≡ false) × (f ≡ None)
      passed true i f q = cc
      passed false i f q = (refl, q)

-- ---- packed order

-- of `count` slots the first k are not at fault, and each byte of their tuples stands at or behind `top`
pub record Ordered (b : List ℕ) (end count k top : ℕ) : Type 0 where
  pub upto : k ≤ count
  pub low : top ≤ body_bytes
  pub behind : (j i : ℕ) → j < k → Holds b j i → top ≤ i
  pub rest : slots_fault b end (count - k) k ≡ slots_fault b end count 0

module _ (b : List ℕ) (end count : ℕ) where
  module _ {k top : ℕ} (more : k < count) (d : Ordered b end count k top) where
    -- slot k comes next, with its tuple between `top'` and `top`
    next : (top' : ℕ) → top' ≤ top → slot_off b k + slot_len b k ≤ top → ((i : ℕ) → Holds b k i → top' ≤ i) → fine b end k ≡ true → Ordered b end count (k + 1) top'
    next top' t w h f =
        let apart : (j : ℕ) → j < k → share b j k ≡ false = λ j l. apart-share b j k (λ i x y. omega (arith, d.behind j i l x)) in
        record {
          upto = omega arith;
          low = omega (arith, d.low);
          behind = λ j i l x.
              elim (dec_le k j) [
                | yes m ↦ let z : j ≡ k = omega arith in h i (rw z at x)
                | no m ↦ omega (arith, d.behind j i (omega arith) x)
              ];
          rest = slots_next b end count k more f (none-earlier b k k apart) ∙ d.rest;
        }

    module _ (o n : ℕ) (eo : o ≡ slot_off b k) (en : n ≡ slot_len b k) where
      pub ordered-empty : o + n ≡ 0 → Ordered b end count (k + 1) top
      ordered-empty e = next top (omega arith) (omega arith) (λ i x. absurd (omega arith)) (rw (empty-test b end k (omega arith)))

      pub ordered-tuple : is_tuple b end top o n ≡ true → Ordered b end count (k + 1) o
      ordered-tuple e =
          let f = test_fits b end top (slot_off b k) (slot_len b k) (rw (eo, en) at e) in
          next o (omega arith) (omega arith) (λ i x. omega arith)
          (good-fine b end k (inr (record { long = f.long; above = f.above; within = omega (arith, d.low); deleted = f.deleted })))

pub ordered-all : (b : List ℕ) (end count k top : ℕ) → count ≤ k → Ordered b end count k top → slots_fault b end count 0 ≡ None
ordered-all b end count k top l d = sym d.rest ∙ slots_end b end count k l
