-- Internal: what is known of one page once its slots are decided.
use Rattle.std.specs.Prelude.{ℕ, ◌≤◌, ◌<◌, ◌≡◌, List, length}
use Rattle.wal.specs.Walk.{entries}
use Rattle.page.specs.Layout.{page_bytes, body_bytes, page_at}
use Rattle.page.specs.Packed.{room_for}
use Rattle.page.specs.Good.{DataGood}
use Rattle.rules.specs.Mend.{committed, top_of, slots_for}
use Rattle.decide.specs.Lists.{PageDecided}

-- page i has no more touched slots than cells, top is one more than the highest of them, and each cell says what is decided of its slot
pub record PageCells (s : List ℕ) (i top : ℕ) (cells : List ℕ) : Type 0 where
  pub top-is : top ≡ top_of i (entries s)
  pub fits : top ≤ 4080
  pub is : PageDecided s i cells

-- a good Data page
pub record Sound (p : List ℕ) : Type 0 where
  pub size : length p ≡ page_bytes
  pub good : DataGood p

-- of the pages from lo up to hi, each touched one is a good Data page
pub record Touched (s pages : List ℕ) (lo hi : ℕ) : Type 0 where
  pub at : (i : ℕ) → lo ≤ i → i < hi → 0 < top_of i (entries s) → Sound (page_at i pages)

-- of the pages from lo up to hi, each touched one has room for what it is to hold
pub record Fitting (s pages : List ℕ) (lo hi : ℕ) : Type 0 where
  pub at : (i : ℕ) → lo ≤ i → i < hi → 0 < top_of i (entries s) → room_for (slots_for (committed (entries s)) (entries s) i (page_at i pages)) ≤ body_bytes
