-- The places of the visible orders from a slot on: how code goes from row to row, and that they rise.
-- Assumes nothing.
use mathlib.Core.Path.{◌≡◌, sym, ap, ◌∙◌}
use mathlib.Core.Logic.{inl, inr}
use mathlib.Core.Bool.{Bool, true, false}
use Prim.Native.Nat.{ℕ, suc, ◌+◌, ◌*◌, ◌≤◌, ◌<◌}
use native.Mathlib.Omega.{arith}
use mathlib.Core.List.{List, [], ◌∷◌}
use lib.ListN.{length}
use Rattle.endian.specs.Pick.{pick, cons_if}
use Rattle.page.specs.Layout.{pages_in}
use Rattle.page.specs.Rows.{visible, visible_rows, row_payload, at_or_after, first_at, rows_at, Listable}
use Rattle.page.specs.declared.Row.{Row}
use Rattle.std.specs.Prelude.{Some}
use Rattle.page.proofs.ListedRows.{Each, Standing, rows-each, rows-stand}
use Rattle.page.proofs.RowLists.{Before, Rising, lower, down, rising-pages, all-at, row_or, row_next}
use Rattle.page.proofs.Visibility.{empty}
use Rattle.intake.specs.Orders.{is_order}
use Rattle.intake.specs.Places.{place_of, places_of, places_from}
use Rattle.intake.proofs.OrderRows.{short_row, order_row, offset-small}

-- a row of a listing: it stands in the page area, on a page that is lent
pub record Sound (s : List ℕ) (r : Row) : Type 0 where
  pub stands : Standing s r
  pub lent : r.page.0 < pages_in s

-- ---- lists of rows

module _ (P : Row → Type 0) where
  pub each_at : (i k : ℕ) (rs : List Row) → Each P rs → Each P (rows_at i k rs)
  unfolding rows_at
  each_at i k [] u = tt
  each_at i k (r ∷ rs) u = go (at_or_after i k r) (each_at i k rs u.1)
    where
      go : (t : Bool) → Each P (rows_at i k rs) → Each P (cons_if t r (rows_at i k rs))
      go true v = (u.0, v)
      go false v = v

  each-met : (i k : ℕ) (r : Row) (rs : List Row) → Each P rs → first_at i k rs ≡ Some r → P r
  unfolding first_at
  each-met i k r [] u e = cc
  each-met i k r (q ∷ rs) u e = go (at_or_after i k q) (each-met i k r rs u.1) e
    where
      go : (t : Bool) → (first_at i k rs ≡ Some r → P r) → pick t (Some q) (first_at i k rs) ≡ Some r → P r
      go true f h = let z : q ≡ r = ap (row_or r) h in rw (← z) u.0
      go false f h = f h

rising-at : (a c i k : ℕ) (rs : List Row) → Rising a c rs → Rising a c (rows_at i k rs)
unfolding rows_at
rising-at a c i k [] u = tt
rising-at a c i k (r ∷ rs) u = go (at_or_after i k r) (rising-at r.page.0 (suc r.slot) i k rs u.1)
  where
    go : (t : Bool) → Rising r.page.0 (suc r.slot) (rows_at i k rs) → Rising a c (cons_if t r (rows_at i k rs))
    go true v = (u.0, v)
    go false v = lower r.page.0 (suc r.slot) a c (rows_at i k rs) (down a c r u.0) v

sound-both : (s : List ℕ) (rs : List Row) → Each (Standing s) rs → Each (λ r. r.page.0 < pages_in s) rs → Each (Sound s) rs
sound-both s [] u v = tt
sound-both s (r ∷ rs) u v = (record { stands = u.0; lent = v.0 }, sound-both s rs u.1 v.1)

pub rows-sound : (s : List ℕ) → Listable s → Each (Sound s) (visible_rows s)
rows-sound s fine = sound-both s (visible_rows s) (rows-stand visible (empty true) s fine) (rows-each visible (λ r. r.page.0 < pages_in s) s (λ i k h. h.lent))

pub met-sound : (s : List ℕ) → Listable s → (i k : ℕ) (r : Row) → first_at i k (visible_rows s) ≡ Some r → Sound s r
met-sound s fine i k r e = each-met (Sound s) i k r (visible_rows s) (rows-sound s fine) e

-- ---- one step

module _ (s : List ℕ) (i k : ℕ) where
  pub places-end : rows_at i k (visible_rows s) ≡ [] → places_from s i k ≡ []
  unfolding places_of
  places-end e = rw e

  module _ (r : Row) (met : first_at i k (visible_rows s) ≡ Some r) (st : Standing s r) where
    next : places_from s i k ≡ places_of s (r ∷ rows_at r.page.0 (r.slot + 1) (visible_rows s))
    next = ap (places_of s) (row_next visible s i k r met)

    pub places-passed : r.length < 48 → places_from s r.page.0 (r.slot + 1) ≡ places_from s i k
    unfolding places_of
    places-passed h = sym (next ∙ rw (short_row s r st h))

    pub places-here : 48 ≤ r.length → places_from s i k ≡ place_of r ∷ places_from s r.page.0 (r.slot + 1)
    unfolding places_of
    places-here h = next ∙ rw (order_row s r st h)

-- ---- the places rise

abbrev pub Above : ℕ → List ℕ → Type 0
Above b [] = Unit
Above b (x ∷ l) = (b ≤ x) × Above b l

abbrev pub Ascends : List ℕ → Type 0
Ascends [] = Unit
Ascends (x ∷ l) = Above (suc x) l × Ascends l

pub above-less : (a b : ℕ) (l : List ℕ) → a ≤ b → Above b l → Above a l
above-less a b [] h u = tt
above-less a b (x ∷ l) h u = (omega (arith, u.0), above-less a b l h u.1)

module _ (s : List ℕ) (few : length s ≤ 1073741824) where
  -- what stands from slot k of page i on has a place from there on
  rows_above : (i k : ℕ) (rs : List Row) → Rising i k rs → Each (Sound s) rs → k ≤ 4096 → Above ((i * 4096 + k) * 4294967296) (places_of s rs)
  unfolding places_of place_of
  rows_above i k [] u v h = tt
  rows_above i k (r ∷ rs) u v h = go (is_order (row_payload s r)) (rows_above r.page.0 (suc r.slot) rs u.1 v.1 (omega (arith, v.0.stands.low)))
    where
      first : Before i k r → i * 4096 + k ≤ r.page.0 * 4096 + r.slot
      first (inl a) = omega arith
      first (inr a) = omega (arith, a.0, a.1)

      low : (i * 4096 + k) * 4294967296 ≤ (r.page.0 * 4096 + suc r.slot) * 4294967296
      low = omega (arith, first u.0)

      here : (i * 4096 + k) * 4294967296 ≤ place_of r
      here = omega (arith, first u.0)

      go : (t : Bool) → Above ((r.page.0 * 4096 + suc r.slot) * 4294967296) (places_of s rs) → Above ((i * 4096 + k) * 4294967296) (cons_if t (place_of r) (places_of s rs))
      go true w = (here, above-less ((i * 4096 + k) * 4294967296) ((r.page.0 * 4096 + suc r.slot) * 4294967296) (places_of s rs) low w)
      go false w = above-less ((i * 4096 + k) * 4294967296) ((r.page.0 * 4096 + suc r.slot) * 4294967296) (places_of s rs) low w

  rows-ascend : (i k : ℕ) (rs : List Row) → Rising i k rs → Each (Sound s) rs → Ascends (places_of s rs)
  unfolding places_of place_of
  rows-ascend i k [] u v = tt
  rows-ascend i k (r ∷ rs) u v = go (is_order (row_payload s r)) (rows-ascend r.page.0 (suc r.slot) rs u.1 v.1)
    where
      low : suc (place_of r) ≤ (r.page.0 * 4096 + suc r.slot) * 4294967296
      low = omega (arith, offset-small s r v.0.stands few)

      go : (t : Bool) → Ascends (places_of s rs) → Ascends (cons_if t (place_of r) (places_of s rs))
      go true w = (above-less (suc (place_of r)) ((r.page.0 * 4096 + suc r.slot) * 4294967296) (places_of s rs) low (rows_above r.page.0 (suc r.slot) rs u.1 v.1 (omega (arith, v.0.stands.low))), w)
      go false w = w

  module _ (fine : Listable s) (i k : ℕ) where
    pub places-ascend : Ascends (places_from s i k)
    places-ascend = rows-ascend 0 0 (rows_at i k (visible_rows s)) (rising-at 0 0 i k (visible_rows s) (rising-pages visible s (pages_in s) 0)) (each_at (Sound s) i k (visible_rows s) (rows-sound s fine))

-- they start at the first slot of page 0
pub places-all : (s : List ℕ) → places_from s 0 0 ≡ places_of s (visible_rows s)
places-all s = ap (places_of s) (all-at 0 0 (visible_rows s) (rising-pages visible s (pages_in s) 0))
