-- Internal: where the cells of touched pages stand: one cell for each slot up to the highest touched one, page by page.
use Rattle.std.specs.Prelude.{ℕ, zero, suc, ◌+◌, ◌-◌, ◌≤◌, ◌≡◌, List, get_or}
use Rattle.wal.specs.Entry.{Entry}
use Rattle.rules.specs.Mend.{top_of}

-- the number of cells of the pages before page i
unfoldable pub start_of : List Entry → ℕ → ℕ
start_of es zero = zero
start_of es (suc i) = start_of es i + top_of i es

-- the cell of slot k of page i, in a group of pages that starts at page lo
unfoldable pub cell_of : List Entry → ℕ → ℕ → ℕ → ℕ
cell_of es lo i k = start_of es i - start_of es lo + k

-- the array a has the starts of pages 0 to n
pub record Starts (es : List Entry) (n : ℕ) (a : List ℕ) : Type 0 where
  pub at : (i : ℕ) → i ≤ n → get_or a i 0 ≡ start_of es i

-- every element is 0
pub record Blank (a : List ℕ) : Type 0 where
  pub at : (i : ℕ) → get_or a i 0 ≡ 0
