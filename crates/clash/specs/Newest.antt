-- Internal: the transaction of the newest change on a slot, and what a cell keeps of it.
use Rattle.std.specs.Prelude.{ℕ, zero, ◌+◌, ◌%◌, ◌≡◌, Bool, List, [], ◌∷◌, eqb}
use Rattle.endian.specs.Pick.{pick}
use Rattle.wal.specs.Entry.{Entry}
use Rattle.wal.specs.Prefix.{before}
use Rattle.rules.specs.Shape.{both, is_on, slot_of}

-- the entry changes slot k of page i
unfoldable pub on_slot : ℕ → ℕ → Entry → Bool
on_slot i k e = both (is_on i e) (eqb k (slot_of e))

-- the transaction of the newest change on that slot; u where there is none
unfoldable pub newest_on : ℕ → ℕ → ℕ → List Entry → ℕ
newest_on i k u [] = u
newest_on i k u (e ∷ es) = newest_on i k (pick (on_slot i k e) e.txn u) es

-- what a cell keeps of a transaction: 0 of transaction 0, else one more than its remainder modulo 65,532
unfoldable pub kept : ℕ → ℕ
kept u = pick (eqb u 0) 0 (u % 65532 + 1)

-- the cell c keeps the transaction of the newest change on the slot before `at`
abbrev pub Newest : List ℕ → ℕ → ℕ → ℕ → ℕ → Type 0
Newest s at i k c = c ≡ kept (newest_on i k zero (before s at))
