-- Looking a row up by its number where numbers rise.
-- Assumes nothing.
use mathlib.Core.Path.{◌≡◌, refl, sym, ◌∙◌}
use Prim.Native.Nat.{ℕ}
use native.Mathlib.Omega.{arith}
use mathlib.Core.List.{List}
use lib.ListN.{length, get_or}
use Rattle.std.specs.Prelude.{Option, None, Some}
use Rattle.sorting.specs.Parts.{Ascends, Sought}
use Rattle.table.specs.Rows.{blank, key, Rising, Found}
use Rattle.table.specs.declared.Row.{Row}

pub key-number : (r : Row) → key 0 r ≡ r.number.0
unfolding key
key-number r = refl

-- ---- the search by halves

pub ascends : {l : List Row} → Rising 0 l → Ascends (λ i. key 0 (get_or l i blank)) (length l)
ascends rising i j a b = omega (arith, rising.at i j a b)

pub row-sought : (l : List Row) (t : ℕ) (r : Option ℕ) → Sought (λ i. key 0 (get_or l i blank)) t (length l) r → Found l t r
row-sought l t None s = λ i h e. s i h (key-number (get_or l i blank) ∙ e)
row-sought l t (Some r) s = (s.0, sym (key-number (get_or l r blank)) ∙ s.1)
