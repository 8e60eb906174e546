-- Internal: what recovery counts over the entries of an accepted log.
use Rattle.std.specs.Prelude.{ℕ, ◌<◌, ◌≡◌, List, Bool, get_or, eqb}
use Rattle.endian.specs.Pick.{pick}
use Rattle.wal.specs.Entry.{Entry, begin, commit, rollback}
use Rattle.rules.specs.Shape.{is_change}
use Rattle.rules.specs.Order.{count}
use Rattle.rules.specs.Recover.{outcome_of, transactions, changes_of, changes_zero}
use Rattle.tally.specs.declared.Tally.{Tally}

-- the counts of the answer
unfoldable pub tally_of : List Entry → Tally
tally_of es =
    record {
      committed = transactions 1 es;
      rolled_back = transactions 2 es;
      unended = transactions 0 es;
      changes_committed = changes_of 1 es;
      changes_rolled_back = changes_of 2 es;
      changes_unended = changes_of 0 es;
      changes_zero = changes_zero es;
    }

-- ---- counting by sorts: each entry is of one sort

-- an entry that is no change: 4 a Begin, 5 a Commit, 6 a Rollback, 7 another
unfoldable pub plain_sort : ℕ → ℕ
plain_sort kind = pick (eqb kind begin) 4 (pick (eqb kind commit) 5 (pick (eqb kind rollback) 6 7))

-- a change: 3 of transaction 0, else the outcome of its transaction among all entries
unfoldable pub sort_of : List Entry → Entry → ℕ
sort_of all e = pick (is_change e) (pick (eqb e.txn 0) 3 (outcome_of all e.txn)) (plain_sort e.kind)

abbrev pub sorts : ℕ
sorts = 8

abbrev pub is_sort : List Entry → ℕ → Entry → Bool
is_sort all k e = eqb (sort_of all e) k

-- n holds how many of some entries are of each sort
pub record Counted (all es : List Entry) (n : List ℕ) : Type 0 where
  pub at : (k : ℕ) → k < sorts → get_or n k 0 ≡ count (is_sort all k) es
