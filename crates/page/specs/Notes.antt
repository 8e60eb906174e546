-- Internal: what is noted of pages while they are verified, so that a later pass over their rows need not look at the tuples.
use Rattle.std.specs.Prelude.{ℕ, ◌<◌, ◌≡◌, List, [], false, get_or}
use Rattle.page.specs.Layout.{page_at, count_of, slot_at}
use Rattle.page.specs.Rows.{cancelled, page_rows}

-- no slot of a page holds a cancelled row
pub record NoneCancelled (p : List ℕ) : Type 0 where
  pub at : (k : ℕ) → k < count_of p → cancelled (slot_at p k) ≡ false

-- of the first n pages those whose note is 1 have no cancelled row; any other note, or none, says nothing
pub record Noted (s notes : List ℕ) (n : ℕ) : Type 0 where
  pub at : (i : ℕ) → i < n → get_or notes i 0 ≡ 1 → page_rows cancelled i (page_at i s) ≡ []
