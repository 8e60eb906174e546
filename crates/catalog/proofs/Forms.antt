-- A payload's forms, told apart by the bytes behind its names.
-- Assumes nothing.
use mathlib.Core.Path.{◌≡◌, ◌∙◌}
use mathlib.Core.Bool.{true}
use Prim.Native.Nat.{ℕ, ◌+◌, ◌-◌, ◌≤◌}
use native.Mathlib.Omega.{arith}
use mathlib.Core.List.{List}
use lib.ListN.{length, get_or}
use borrow.Author.Tests.{le-ltb, le-leb}
use Rattle.refusals.specs.Verdict.{accepted}
use Rattle.endian.specs.Numbers.{number_at}
use Rattle.catalog.specs.TableRows.{RowAnswer, table_of, root_of, name_length_at, name_length, names_end, part_at, laid, row_by, newest_by, row_of}

-- by the lengths of the names
module _ (p : List ℕ) (s n : ℕ) (es : s ≡ get_or p 12 0) (en : n ≡ get_or p (13 + s) 0) where
  name-is : n ≡ name_length p
  name-is = en ∙ rw es

  pub ends : names_end p ≡ 14 + s + n
  ends = omega (arith, name-is)

  pub laid_as : (layout version table root : ℕ) → layout ≤ 1 → table ≡ table_of p → root ≡ root_of p
      → record { verdict = accepted; table = table; root = record { 0 = root }; schema = part_at 13 s; name = part_at (14 + s) n; layout = layout; version = version } ≡ laid p layout version
  unfolding laid
  laid_as layout version table root h et er = let e : 14 + s ≡ name_length_at p + 1 = omega arith in simp (le-leb _ _ h) (rw (et, er, e, name-is, es))

  module _ (newest : List ℕ → RowAnswer) (whole : 14 + s + n ≤ length p) where
    pub is-newest : length p - (14 + s + n) ≡ 9 → newest p ≡ row_by newest p
    unfolding row_by
    is-newest h = rw (ends, le-ltb (length p) (14 + s + n) whole, h)

  pub newest-read : 14 + s + n ≤ length p → length p - (14 + s + n) ≡ 9 → laid p (get_or p (14 + s + n) 0) (number_at 8 (14 + s + n + 1) p) ≡ row_of p
  newest-read whole nine = rw (← ends) (is-newest (newest_by true) whole nine)
