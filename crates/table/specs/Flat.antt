-- The transaction table as plain numbers, `stride` for each record: number, first LSN, outcome, changes, LSN of its ending, LSN of its last change.
use Rattle.std.specs.Prelude.{ℕ, List, [], ◌∷◌, ◌++◌, length, drop}
use Rattle.wal.specs.Entry.{Entry}
use Rattle.rules.specs.Recover.{records_of}
use Rattle.rules.specs.declared.Record.{Record}

-- how many numbers a record has
abbrev pub stride : ℕ
stride = 6

abbrev pub six : Record → List ℕ
six r = r.number.0 ∷ r.first.0 ∷ r.outcome ∷ r.changes ∷ r.ending.0 ∷ r.last.0 ∷ []

unfoldable pub flat : List Record → List ℕ
flat [] = []
flat (r ∷ rs) = six r ++ flat rs

-- a table after the entries: their records, and behind them what was there
unfoldable pub flat_after : List Entry → List ℕ → List ℕ
flat_after es table = flat (records_of es es) ++ drop (length (flat (records_of es es))) table
