-- Internal: clashes, by the newest change on a slot.
use Rattle.std.specs.Prelude.{ℕ, zero, List, [], ◌∷◌, Bool, not, eqb}
use Rattle.endian.specs.Pick.{pick}
use Rattle.wal.specs.Entry.{Entry}
use Rattle.rules.specs.Shape.{both, same_slot}
use Rattle.states.specs.State.{state_of}

-- the transaction of the newest change on the slot that e changes; 0 where there is none
unfoldable pub newest_from : Entry → ℕ → List Entry → ℕ
newest_from e u [] = u
newest_from e u (f ∷ fs) = newest_from e (pick (same_slot e f) f.txn u) fs

abbrev pub newest_by : Entry → List Entry → ℕ
newest_by e es = newest_from e zero es

-- that transaction is another one and has not ended
unfoldable pub clash_after : List Entry → Entry → Bool
clash_after es e = both (not (eqb (newest_by e es) 0)) (both (not (eqb (newest_by e es) e.txn)) (eqb (state_of (newest_by e es) es) 1))
