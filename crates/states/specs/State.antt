-- Internal: the order rule on transactions by the state of the entry's own, which is told by its newest entry.
use Rattle.std.specs.Prelude.{ℕ, zero, List, [], ◌∷◌, Bool, true, eqb}
use Rattle.endian.specs.Pick.{pick}
use Rattle.wal.specs.Entry.{Entry, begin, commit, rollback, checkpoint}
use Rattle.rules.specs.Shape.{either, is_changing}
use Rattle.states.specs.declared.inner.State.{State}
use Rattle.states.specs.declared.inner.State.TheVariants.{Unseen, Open, Ended}

-- the number of a state
abbrev pub state_number : State → ℕ
state_number Unseen = 0
state_number Open = 1
state_number Ended = 2

-- what the newest entry of a transaction says: it has ended (2) or not (1)
unfoldable pub state_after : ℕ → ℕ
state_after kind = pick (either (eqb kind commit) (eqb kind rollback)) 2 1

-- the state of t after some entries, from its state before them: 0 where it has no entry
unfoldable pub state_from : ℕ → ℕ → List Entry → ℕ
state_from t s [] = s
state_from t s (e ∷ es) = state_from t (pick (eqb e.txn t) (state_after e.kind) s) es

abbrev pub state_of : ℕ → List Entry → ℕ
state_of t es = state_from t zero es

-- the order rule on transactions, by the state of the entry's own, its type and its number
unfoldable pub may_follow : ℕ → ℕ → ℕ → Bool
may_follow s kind t =
    pick (eqb kind checkpoint) true
    (pick (eqb t 0) (is_changing kind)
    (pick (eqb kind begin) (eqb s 0) (eqb s 1)))

abbrev pub ordered : ℕ → Entry → Bool
ordered s e = may_follow s e.kind e.txn
