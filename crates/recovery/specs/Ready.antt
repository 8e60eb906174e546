-- Internal: what is known of an accepted log and the pages before they are mended, and of the arrays that judging fills.
use Rattle.std.specs.Prelude.{◌≡◌, ℕ, ◌*◌, ◌<◌, ◌≤◌, List, length}
use Rattle.wal.specs.Walk.{entries}
use Rattle.page.specs.Layout.{page_bytes, data_type, pages_in, page_at, type_of}
use Rattle.rules.specs.Mend.{top_of}
use Rattle.fates.specs.Fate.{Ordered}
use Rattle.cells.specs.Cell.{Starts}
use Rattle.cells.specs.Listing.{Lists}
use Rattle.decide.specs.Lists.{Listed}
use Rattle.images.specs.Page.{Touched, Fitting}

pub record Ready (log pages starts lists fronts space : List ℕ) : Type 0 where
  pub ordered : Ordered log
  pub small : length log ≤ 16777216
  pub size : length pages ≡ pages_in pages * page_bytes
  pub few : pages_in pages ≤ 4096
  pub begin : Starts (entries log) (pages_in pages) starts
  pub next : Lists (entries log) (pages_in pages) lists
  pub listed : Listed log (pages_in pages) fronts space
  pub touched : Touched log pages 0 (pages_in pages)
  pub fitting : Fitting log pages 0 (pages_in pages)
  pub of_data : (i : ℕ) → 0 < top_of i (entries log) → type_of (page_at i pages) ≡ data_type
