-- Internal: the first entry of a list that passes a test, by its place: the first entry of the list stands at `at`, each other one behind the one before it.
use Rattle.std.specs.Prelude.{ℕ, ◌+◌, ◌≤◌, ◌<◌, ◌≡◌, List, [], ◌∷◌, ◌++◌, Bool, ltb, eqb}
use Rattle.endian.specs.Pick.{pick, cons_if}
use Rattle.wal.specs.Entry.{Entry, size_of, sizes_of, commit, rollback}
use Rattle.rules.specs.Shape.{either}
use Rattle.rules.specs.Order.{any, is}

-- the place of the first entry that passes; the place behind the last where there is none
unfoldable pub first_at : (Entry → Bool) → List Entry → ℕ → ℕ
first_at f [] at = at
first_at f (e ∷ es) at = pick (f e) at (first_at f es (at + size_of e))

-- the places of all entries that pass, in their order
unfoldable pub places_of : (Entry → Bool) → List Entry → ℕ → List ℕ
places_of f [] at = []
places_of f (e ∷ es) at = cons_if (f e) at (places_of f es (at + size_of e))

-- a Commit or a Rollback
abbrev pub is_end : Entry → Bool
is_end e = either (eqb e.kind commit) (eqb e.kind rollback)

-- a Commit or a Rollback of t
abbrev pub is_ending : ℕ → Entry → Bool
is_ending t e = either (is commit t e) (is rollback t e)

-- b tells, at each place up to stop, whether an entry before that place passes
pub record Tells (f : Entry → Bool) (es : List Entry) (at stop b : ℕ) : Type 0 where
  pub tell : (xs ys : List Entry) → es ≡ xs ++ ys → at + sizes_of xs ≤ stop → any f xs ≡ ltb b (at + sizes_of xs)

-- ---- tests of an entry after those before it

-- at r stands an entry that T holds of
pub record Stands (T : List Entry → Entry → Type 0) (es : List Entry) (at r : ℕ) : Type 0 where
  pub xs : List Entry
  pub e : Entry
  pub ys : List Entry
  pub split : es ≡ xs ++ (e ∷ ys)
  pub place : r ≡ at + sizes_of xs
  pub holds : T xs e

-- r is the place of the first entry before stop that T holds of, or stop where there is none
pub record FirstOf (T : List Entry → Entry → Type 0) (es : List Entry) (at stop r : ℕ) : Type 0 where
  pub low : r ≤ stop
  pub none : (xs : List Entry) (e : Entry) (ys : List Entry) → es ≡ xs ++ (e ∷ ys) → at + sizes_of xs < r → T xs e → ⊥
  pub some : r < stop → Stands T es at r
