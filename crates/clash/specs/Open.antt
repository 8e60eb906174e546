-- Internal: what a walk for clashes keeps of open transactions, for each remainder of their numbers.
use Rattle.std.specs.Prelude.{ℕ, ◌+◌, ◌%◌, ◌≤◌, ◌<◌, ◌≡◌, Bool, true, false, List, length, get_or, ltb, eqb}
use Rattle.endian.specs.Numbers.{number_at}
use Rattle.wal.specs.Prefix.{before}
use Rattle.rules.specs.Shape.{both, either}
use Rattle.states.specs.State.{state_of}
use Rattle.clash.specs.Newest.{kept}

-- v is a place, and the entry there is of transaction t; 0 and 1 are no places
unfoldable pub is_of : List ℕ → ℕ → ℕ → Bool
is_of s t v = both (ltb 1 v) (eqb (number_at 8 (v + 12) s) t)

-- v and w are the two places of remainder r. v is 1, which tells nothing; or a transaction of remainder r, other than 0, is open before `at` where the entry
-- at v or at w is its own, and only there. They are never of one transaction
pub record Open (s : List ℕ) (at r v w : ℕ) : Type 0 where
  pub within : 1 < v → v + 20 ≤ length s
  pub within2 : 1 < w → w + 20 ≤ length s
  pub tells : (v ≡ 1 → ⊥) → (t : ℕ) → 0 < t → t % 16383 ≡ r → eqb (state_of t (before s at)) 1 ≡ either (is_of s t v) (is_of s t w)
  pub apart : (t : ℕ) → is_of s t v ≡ true → is_of s t w ≡ false

-- the first places of all remainders, and behind them the second ones
pub record Opens (s : List ℕ) (at : ℕ) (opens : List ℕ) : Type 0 where
  pub long : length opens ≡ 32766
  pub tell : (r : ℕ) → r < 16383 → Open s at r (get_or opens r 0) (get_or opens (r + 16383) 0)

-- v is not 1, and tells of no transaction other than t that a cell keeps as x
pub record Quiet (s : List ℕ) (t x v : ℕ) : Type 0 where
  pub known : v ≡ 1 → ⊥
  pub none : (u : ℕ) → (t ≡ u → ⊥) → x ≡ kept u → is_of s u v ≡ false
