-- Whether a slot of a good Data page holds a visible row, and whether a listing shows it, as code finds it.
-- Assumes nothing.
use mathlib.Core.Path.{◌≡◌, refl, sym, ap, ◌∙◌}
use mathlib.Core.Logic.{inl, inr}
use mathlib.Core.Bool.{Bool, true, false, not, ◌&&◌, beq}
use Prim.Native.Nat.{ℕ, ◌+◌, ◌≤◌, ◌<◌}
use native.Mathlib.Omega.{arith}
use mathlib.Core.List.{List, [], ◌∷◌}
use Rattle.std.specs.Prelude.{Option, Some, None}
use lib.Dec.{eqb}
use lib.ListN.{length, drop, get_or, length-drop}
use lib.Seq.{length-take-le}
use borrow.Author.Tests.{eq-eqb, ne_eqb}
use Rattle.endian.specs.Pick.{pick}
use Rattle.endian.specs.Numbers.{part, number_at}
use Rattle.page.specs.Layout.{page_bytes, body_bytes, row_head, body_of, count_of, slot_off, slot_len, slot_at, xmax_of, deleted_of}
use Rattle.page.specs.Good.{DataGood}
use Rattle.page.specs.Rows.{visible, cancelled, shown}
use Rattle.page.proofs.Slots.{slot-in}
use Rattle.page.proofs.Reading.{deleted-at, xmax-at}

-- ---- what a listing shows

-- the length of a tuple that is shown
abbrev pub shown_length : Bool → List ℕ → Option ℕ
shown_length live t = pick (shown live t) (Some (length t)) None

-- an empty slot is not shown
pub empty : (live : Bool) → shown live [] ≡ false
unfolding visible cancelled
empty true = refl
empty false = refl

pub shown-none : (live : Bool) (t : List ℕ) → shown_length live t ≡ None → shown live t ≡ false
shown-none live t = by-test (shown live t)
  where
    by-test : (v : Bool) → pick v (Some (length t)) None ≡ None → v ≡ false
    by-test true q = cc
    by-test false q = refl

pub shown-some : (live : Bool) (t : List ℕ) (n : ℕ) → shown_length live t ≡ Some n → (shown live t ≡ true) × (n ≡ length t)
shown-some live t n = by-test (shown live t)
  where
    by-test : (v : Bool) → pick v (Some (length t)) None ≡ Some n → (v ≡ true) × (n ≡ length t)
    by-test true q = (refl, cc)
    by-test false q = cc

-- as a test finds it
module _ (live : Bool) (t : List ℕ) (v : Bool) (is : v ≡ shown live t) where
  pub length-shown : v ≡ true → (n : ℕ) → n ≡ length t → Some n ≡ shown_length live t
  length-shown e n h = let q : shown live t ≡ true = sym is ∙ e in rw (q, h)

cancels : (t : List ℕ) → 0 < length t → not (visible t) ≡ cancelled t
unfolding cancelled
cancels [] l = absurd (omega arith)
cancels (b ∷ u) l = refl

pub shows-as : (live v : Bool) (t : List ℕ) → v ≡ visible t → 0 < length t → beq v live ≡ shown live t
shows-as true v t is l = rw (← is) (same v)
  where
    same : (b : Bool) → beq b true ≡ b
    same true = refl
    same false = refl
shows-as false v t is l = rw is (other (visible t) ∙ cancels t l)
  where
    other : (b : Bool) → beq b false ≡ not b
    other true = refl
    other false = refl

-- a tuple that is known not to be cancelled
pub shows-known : (live : Bool) (t : List ℕ) → cancelled t ≡ false → 0 < length t → live ≡ shown live t
unfolding cancelled
shows-known live [] e l = absurd (omega arith)
shows-known true (b ∷ t) e l = by-test (visible (b ∷ t)) e
  where
    by-test : (v : Bool) → not v ≡ false → true ≡ v
    by-test true q = refl
    by-test false q = q
shows-known false (b ∷ t) e l = sym e

visible-some : (t : List ℕ) → 0 < length t → visible t ≡ (eqb (deleted_of t) 0 && eqb (xmax_of t) 0)
unfolding visible
visible-some [] l = absurd (omega arith)
visible-some (b ∷ t) l = refl

-- ---- slot k of a good Data page

module _ (p : List ℕ) (size : length p ≡ page_bytes) (d : DataGood p) (k : ℕ) (l : k < count_of p) where
  -- it has no tuple
  pub shown-empty : (live : Bool) → 0 ≡ slot_len (body_of p) k → None ≡ shown_length live (slot_at p k)
  shown-empty live e = rw (slot-in p k l, ← e) (sym (ap (λ (v : Bool). pick v (Some 0) None) (empty live)))

  -- it has one
  module _ (some : 0 < slot_len (body_of p) k) where
    tuple-in : (row_head ≤ slot_len (body_of p) k) × (slot_off (body_of p) k + slot_len (body_of p) k ≤ body_bytes)
    tuple-in = elim (d.slots k l) [ inl e ↦ absurd (omega arith) | inr f ↦ (omega (arith, f.long), omega (arith, f.within)) ]

    pub slot-length : length (slot_at p k) ≡ slot_len (body_of p) k
    slot-length =
        let w = tuple-in in
        ap length (slot-in p k l) ∙ length-take-le (slot_len (body_of p) k) (drop (slot_off (body_of p) k) (body_of p)) (simp length-drop (omega arith))

    module _ (o : ℕ) (eo : o ≡ slot_off (body_of p) k) where
      -- its deleted byte and its xmax are there
      pub header-in : (80 + o < length p) × (72 + o + 8 ≤ length p)
      header-in = let w = tuple-in in (omega arith, omega arith)

      test : visible (slot_at p k) ≡ (eqb (get_or p (80 + o) 0) 0 && eqb (number_at 8 (72 + o) p) 0)
      test =
          let w = tuple-in in
          let t : slot_at p k ≡ part o (slot_len (body_of p) k) (body_of p) = rw eo (slot-in p k l) in
          visible-some (slot_at p k) (omega (arith, slot-length)) ∙ rw (t, deleted-at p o (slot_len (body_of p) k) w.0, xmax-at p o (slot_len (body_of p) k) w.0)

      pub seen-deleted : (get_or p (80 + o) 0 ≡ 0 → ⊥) → false ≡ visible (slot_at p k)
      seen-deleted h = rw (test, ne_eqb _ _ h)

      pub seen-xmax : get_or p (80 + o) 0 ≡ 0 → eqb (number_at 8 (72 + o) p) 0 ≡ visible (slot_at p k)
      seen-xmax e = rw (test, eq-eqb _ _ e)
