-- Internal: how a transaction of an accepted log ends, by looking forward from one of its entries, and answers that are kept.
use Rattle.std.specs.Prelude.{ℕ, ◌+◌, ◌/◌, ◌%◌, ◌≤◌, ◌<◌, ◌≡◌, List, [], ◌∷◌, length, get_or, set, eqb, Option, None, Some}
use Rattle.endian.specs.Pick.{pick}
use Rattle.endian.specs.Numbers.{number_at}
use Rattle.wal.specs.Entry.{Entry, commit, rollback}
use Rattle.wal.specs.Read.{first}
use Rattle.wal.specs.Walk.{entries}
use Rattle.rules.specs.Order.{is, never_full, order_from}
use Rattle.rules.specs.Recover.{outcome_of}
use Rattle.fates.specs.declared.Outcome.{Outcome}
use Rattle.fates.specs.declared.Outcome.TheVariants.{Committed, RolledBack}

-- the entries of the log keep the order rules
abbrev pub Ordered : List ℕ → Type 0
Ordered s = (order_from never_full [] (entries s) first).number ≡ 0

-- the number of an outcome: 1 committed, 2 rolled back, 0 neither
abbrev pub outcome_number : Option Outcome → ℕ
outcome_number None = 0
outcome_number (Some Committed) = 1
outcome_number (Some RolledBack) = 2

-- the outcome that an entry of this type is an ending with: 1 a Commit, 2 a Rollback, 0 another
abbrev pub ending_by : ℕ → ℕ
ending_by kind = pick (eqb kind commit) 1 (pick (eqb kind rollback) 2 0)

-- the outcome of t by its first ending among some entries: 1 a Commit, 2 a Rollback, 0 where there is none
unfoldable pub ending_of : ℕ → List Entry → ℕ
ending_of t [] = 0
ending_of t (e ∷ es) = pick (is commit t e) 1 (pick (is rollback t e) 2 (ending_of t es))

-- an answer that is kept: 0 for none, or four times the place of an entry and the outcome of its transaction
pub record Kept (s : List ℕ) (v : ℕ) : Type 0 where
  pub within : 0 < v → v / 4 + 20 ≤ length s
  pub is : 0 < v → outcome_of (entries s) (number_at 8 (v / 4 + 12) s) ≡ v % 4

-- how many answers are kept
abbrev pub answers : ℕ
answers = 16384

pub record Memo (s m : List ℕ) : Type 0 where
  pub at : (r : ℕ) → r < answers → Kept s (get_or m r 0)

-- the answers after one more, on transaction t: two are kept for each remainder, the newer one in front
unfoldable pub in_front : ℕ → ℕ → List ℕ → List ℕ
in_front t v m = set (set m (t % 8192 + 8192) (get_or m (t % 8192) 0)) (t % 8192) v
