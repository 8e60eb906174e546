-- Internal: what is known once every refusal has been looked for.
use Rattle.std.specs.Prelude.{◌≡◌, ℕ, Bool, List, Result, IfOk}
use Rattle.wal.specs.Walk.{entries, end_of}
use Rattle.page.specs.Layout.{pages_in}
use Rattle.refusals.specs.Verdict.{told}
use Rattle.refusals.specs.declared.Refused.{Refused}
use Rattle.rules.specs.Order.{last_lsn}
use Rattle.rules.specs.Recover.{recover_verdict}
use Rattle.rules.specs.declared.Answer.{Answer}
use Rattle.endian.specs.declared.Lsn.{Lsn}
use Rattle.tally.specs.Counts.{tally_of}
use Rattle.tally.specs.declared.Tally.{Tally}
use Rattle.cells.specs.Cell.{Starts}
use Rattle.cells.specs.Listing.{Lists}
use Rattle.cells.specs.Measure.{Lasts}
use Rattle.cells.specs.declared.Scratch.{Scratch}
use Rattle.decide.specs.Lists.{Listed}
use Rattle.recovery.specs.declared.Judged.{Judged}
use Rattle.rules.specs.Lent.{lent}

-- an accepted log: where it ends and its last LSN, where the cells and the lists of pages start, the places of the last changes on them, the changes on each page listed, and the entries counted
pub record Accepted (pages log : List ℕ) (c : Scratch) (j : Judged) : Type 0 where
  pub end : j.walked.end ≡ end_of log
  pub last : j.walked.last.0 ≡ last_lsn (entries log)
  pub begin : Starts (entries log) (pages_in pages) c.starts
  pub touched : Lasts log (end_of log) (pages_in pages) c.lasts
  pub next : Lists (entries log) (pages_in pages) c.lists
  pub listed : Listed log (pages_in pages) c.fronts c.space
  pub counts : j.tally ≡ tally_of (entries log)

-- the verdict; accepted, what is known of the log
pub record Judgement (full : ℕ → Bool) (magic floor : ℕ) (pages log : List ℕ) (c : Scratch) (r : Result Judged Refused) : Type 0 where
  pub tells : told r ≡ recover_verdict full (lent magic floor pages log)
  pub accepted : IfOk r (Accepted pages log c)

-- the answer of a recovery that is done: last LSN, end of the log and how it ends, counts, pages rewritten
abbrev pub answer_from : Lsn → ℕ → ℕ → Tally → ℕ → Answer
answer_from last end ending c rewritten =
    record {
      number = 0;
      place = 0;
      last_lsn = last;
      tail = end;
      committed = c.committed;
      rolled_back = c.rolled_back;
      unended = c.unended;
      changes_committed = c.changes_committed;
      changes_rolled_back = c.changes_rolled_back;
      changes_unended = c.changes_unended;
      changes_zero = c.changes_zero;
      rewritten = rewritten;
      ending = ending;
    }
