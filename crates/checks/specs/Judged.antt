-- Internal: what the walks over a log find before recovery.
use Rattle.std.specs.Prelude.{ℕ, ◌+◌, ◌*◌, ◌<◌, ◌≡◌, Bool, List, get_or, Result, IfOk}
use Rattle.wal.specs.Walk.{entries, end_of}
use Rattle.page.specs.Layout.{page_bytes, type_at, data_type}
use Rattle.refusals.specs.Verdict.{told}
use Rattle.refusals.specs.declared.Refused.{Refused}
use Rattle.rules.specs.Order.{last_lsn, log_verdict}
use Rattle.cells.specs.Cell.{Starts}
use Rattle.cells.specs.Listing.{Lists}
use Rattle.cells.specs.Measure.{Lasts, FirstBeyond}
use Rattle.checks.specs.declared.Found.{Found}

-- of an accepted log its end and its last LSN, the place of the first change beyond the first n pages, where the cells and the lists of these start, and the places of the last changes on them
pub record Measured (s : List ℕ) (n : ℕ) (starts lasts lists : List ℕ) (f : Found) : Type 0 where
  pub end : f.walked.end ≡ end_of s
  pub last : f.walked.last.0 ≡ last_lsn (entries s)
  pub begin : Starts (entries s) n starts
  pub touched : Lasts s (end_of s) n lasts
  pub next : Lists (entries s) n lists
  pub beyond : FirstBeyond s (end_of s) n f.beyond

-- the verdict on the log; accepted, what is measured
pub record Judged (full : ℕ → Bool) (s : List ℕ) (n : ℕ) (starts lasts lists : List ℕ) (r : Result Found Refused) : Type 0 where
  pub tells : told r ≡ log_verdict full s
  pub measured : IfOk r (Measured s n starts lasts lists)

-- each touched one of the first n pages is of type 1; the cells of a touched page end behind their start
pub record OfData (pages : List ℕ) (n : ℕ) (starts : List ℕ) : Type 0 where
  pub at : (i : ℕ) → i < n → (get_or starts i 0 ≡ get_or starts (i + 1) 0 → ⊥) → get_or pages (i * page_bytes + type_at) 0 ≡ data_type
