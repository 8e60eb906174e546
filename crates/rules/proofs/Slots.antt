-- One slot: what a longer log decides does not depend on what a part of it decided before.
-- Assumes nothing.
use mathlib.Core.Path.{◌≡◌, refl, sym}
use Prim.Native.Nat.{ℕ, zero, suc, ◌≤◌, max}
use native.Mathlib.Omega.{arith}
use mathlib.Core.Bool.{Bool, true, false}
use mathlib.Core.List.{List, [], ◌∷◌, ◌++◌, append_assoc}
use lib.Dec.{eqb}
use borrow.Author.Tests.{eqb-true}
use Rattle.endian.specs.Pick.{pick}
use Rattle.wal.specs.Entry.{Entry}
use Rattle.rules.specs.Shape.{Change, both, is_on, slot_of, before_of, after_of, effect_on, top_on}
use Rattle.rules.specs.Mend.{winner, last_after, changes, top_of, last_on, decided}

-- an entry changes no slot at or past its top
pub effect-past : (i k : ℕ) (e : Entry) → top_on i e ≤ k → effect_on i k e ≡ []
unfolding effect_on top_on
effect-past i k e = go (is_on i e) (eqb (slot_of e) k) refl
  where
    go : (a b : Bool) → eqb (slot_of e) k ≡ b → pick a (suc (slot_of e)) zero ≤ k
        → pick {A = List Change} (both a b) (record { by = e.txn; before = before_of e; after = after_of e } ∷ []) [] ≡ []
    go true true q h = absurd (omega (arith, eqb-true (slot_of e) k q))
    go true false q h = refl
    go false b q h = refl

module _ (i : ℕ) where
  pub changes-append : (k : ℕ) (es fs : List Entry) → changes i k (es ++ fs) ≡ changes i k es ++ changes i k fs
  unfolding changes
  changes-append k [] fs = refl
  changes-append k (e ∷ es) fs = rw (changes-append k es fs) (sym (append_assoc (effect_on i k e) (changes i k es) (changes i k fs)))

  pub top-append : (es fs : List Entry) → top_of i (es ++ fs) ≡ max (top_of i es) (top_of i fs)
  unfolding top_of
  top-append [] fs = omega arith
  top-append (e ∷ es) fs = omega (arith, top-append es fs)

  pub last-append : (es fs : List Entry) → last_on i (es ++ fs) ≡ max (last_on i es) (last_on i fs)
  unfolding last_on
  last-append [] fs = omega arith
  last-append (e ∷ es) fs = omega (arith, last-append es fs)

  pub changes-past : (k : ℕ) (es : List Entry) → top_of i es ≤ k → changes i k es ≡ []
  unfolding changes top_of
  changes-past k [] l = refl
  changes-past k (e ∷ es) l = rw (effect-past i k e (omega arith), changes-past k es (omega arith))

  -- once decided by a part of the log, what stood there before no longer matters
  winner-again : (c d : ℕ → Bool) (xs ys : List Change) (v : List ℕ) → winner d (xs ++ ys) (winner c xs v) ≡ winner d (xs ++ ys) v
  winner-again c d [] ys v = refl
  winner-again c d (x ∷ xs) ys v = refl

  pub decided-again : (c d : ℕ → Bool) (es fs : List Entry) (k : ℕ) (v : List ℕ) → decided d (es ++ fs) i k (decided c es i k v) ≡ decided d (es ++ fs) i k v
  unfolding decided
  decided-again c d es fs k v = rw (changes-append k es fs) (winner-again c d (changes i k es) (changes i k fs) v)

  pub decided-untouched : (c : ℕ → Bool) (es : List Entry) (k : ℕ) (v : List ℕ) → top_of i es ≤ k → decided c es i k v ≡ v
  unfolding decided
  decided-untouched c es k v l = rw (changes-past k es l)

-- ---- what holds of each image and of the tuple in the slot holds of the one that wins

abbrev pub Images : (List ℕ → Type 0) → List Change → Type 0
Images P [] = Unit {0}
Images P (x ∷ xs) = P x.before × P x.after × Images P xs

last-keeps : (P : List ℕ → Type 0) (c : ℕ → Bool) (xs : List Change) (d : List ℕ) → Images P xs → P d → P (last_after c xs d)
last-keeps P c [] d h k = k
last-keeps P c (x ∷ xs) d h k = last-keeps P c xs (pick (c x.by) x.after d) h.2 (go (c x.by))
  where
    go : (b : Bool) → P (pick b x.after d)
    go true = h.1
    go false = k

pub winner-keeps : (P : List ℕ → Type 0) (c : ℕ → Bool) (xs : List Change) (v : List ℕ) → Images P xs → P v → P (winner c xs v)
winner-keeps P c [] v h k = k
winner-keeps P c (x ∷ xs) v h k = last-keeps P c (x ∷ xs) x.before h h.0

pub decided-keeps : (P : List ℕ → Type 0) (c : ℕ → Bool) (es : List Entry) (i k : ℕ) (v : List ℕ) → Images P (changes i k es) → P v → P (decided c es i k v)
unfolding decided
decided-keeps P c es i k v = winner-keeps P c (changes i k es) v
