-- The changes on a slot, with what the log's entries give for them, and what wins under a map. Assumes nothing.
use mathlib.Core.Path.{◌≡◌, refl, ap, ◌∙◌}
use Prim.Native.Nat.{ℕ, zero, suc, ◌≤◌}
use native.Mathlib.Omega.{arith}
use mathlib.Core.Bool.{Bool, true, false}
use mathlib.Core.List.{List, [], ◌∷◌, ◌++◌, map}
use lib.Dec.{eqb}
use borrow.Author.Tests.{eqb-true}
use Rattle.endian.specs.Pick.{pick}
use Rattle.wal.specs.Entry.{Entry, entry_of}
use Rattle.wal.specs.declared.EntryView.{EntryView}
use Rattle.rules.specs.Shape.{ChangeOf, Change, both, is_on, slot_of, before_of, after_of, effect_on, top_on}
use Rattle.rules.specs.Mend.{last_after, winner, changes, top_of}
use Rattle.rules.specs.Row.{changes_by}

-- ---- what wins, under a map

abbrev pub mapped : {A B : Type 0} → (A → B) → List (ChangeOf A) → List (ChangeOf B)
mapped f [] = []
mapped f (x ∷ xs) = record { by = x.by; before = f x.before; after = f x.after } ∷ mapped f xs

module _ {A B : Type 0} (f : A → B) (c : ℕ → Bool) where
  last-mapped : (xs : List (ChangeOf A)) (d : A) → f (last_after c xs d) ≡ last_after c (mapped f xs) (f d)
  last-mapped [] d = refl
  last-mapped (x ∷ xs) d = last-mapped xs (pick (c x.by) x.after d) ∙ ap (last_after c (mapped f xs)) (go (c x.by))
    where
      go : (b : Bool) → f (pick b x.after d) ≡ pick b (f x.after) (f d)
      go true = refl
      go false = refl

  pub winner-mapped : (xs : List (ChangeOf A)) (v : A) → f (winner c xs v) ≡ winner c (mapped f xs) (f v)
  winner-mapped [] v = refl
  winner-mapped (x ∷ xs) v = last-mapped (x ∷ xs) x.before

-- ---- the changes on slot k of page i

module _ (s : List ℕ) (i k : ℕ) where
  -- with their images
  pub changes-by : (vs : List EntryView) → changes_by (λ v. before_of (entry_of s v)) (λ v. after_of (entry_of s v)) s i k vs ≡ changes i k (map (entry_of s) vs)
  unfolding changes_by changes effect_on entry_of
  changes-by [] = refl
  changes-by (v ∷ vs) = rw (changes-by vs) (go (both (is_on i (entry_of s v)) (eqb (slot_of (entry_of s v)) k)))
    where
      es : List Change
      es = changes i k (map (entry_of s) vs)

      x : Change
      x = record { by = (entry_of s v).txn; before = before_of (entry_of s v); after = after_of (entry_of s v) }

      go : (b : Bool) → pick b (x ∷ es) es ≡ pick {A = List Change} b (x ∷ []) [] ++ es
      go true = refl
      go false = refl

  -- none at or past the highest one touched
  off-past : (e : Entry) → top_on i e ≤ k → both (is_on i e) (eqb (slot_of e) k) ≡ false
  unfolding top_on
  off-past e = go (is_on i e) (eqb (slot_of e) k) refl
    where
      go : (x y : Bool) → eqb (slot_of e) k ≡ y → pick x (suc (slot_of e)) zero ≤ k → both x y ≡ false
      go true true q h = absurd (omega (arith, eqb-true (slot_of e) k q))
      go true false q h = refl
      go false y q h = refl

  pub none-past : {A : Type 0} (b a : EntryView → A) (vs : List EntryView) → top_of i (map (entry_of s) vs) ≤ k → changes_by b a s i k vs ≡ []
  unfolding changes_by top_of
  none-past b a [] l = refl
  none-past b a (v ∷ vs) l = rw (off-past (entry_of s v) (omega arith), none-past b a vs (omega arith))
