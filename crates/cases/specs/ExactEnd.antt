-- Why a history's log has to end exactly: a log torn two bytes before an Update's end, with two zero bytes behind, says that Update, which no step made.
use Rattle.std.specs.Prelude.{ℕ, ◌<◌, ◌≡◌, List, [], ◌∷◌, ◌++◌, take}
use Rattle.wal.specs.Entry.{Entry, encoded, encoded_all, header}
use Rattle.wal.specs.Walk.{entries, file_of}
use Rattle.page.specs.Layout.{data_type, pages_in, page_at, type_of, slot_at}
use Rattle.rules.specs.Lent.{lent}
use Rattle.rules.specs.Recover.{recover_of}
use Rattle.rules.specs.declared.Record.{Record}
use Rattle.history.specs.History.{Step, logged, logged_in, Honest, start, ledger}
use Rattle.cases.specs.Build.{begins, updates, page, area}
use Rattle.cases.specs.Starred.{a, b, c}

abbrev pub pages : List ℕ
pages = area (page 0 (a ∷ []) ∷ [])

abbrev pub steps : List Step
steps = logged (begins 1 7) ∷ []

-- an Update of slot 0 that finds b there: but a stands there
abbrev pub stranger : Entry
stranger = updates 2 7 0 0 b c

-- 131 of its 133 bytes
abbrev pub log : List ℕ
log = header ++ (encoded_all (begins 1 7 ∷ []) ++ take 131 (encoded stranger))

abbrev pub found : List Entry
found = begins 1 7 ∷ stranger ∷ []

-- the first half of demand 3 of pages that are all at the start, without the exact end of the log
abbrev pub ExactAnyhow : Type 0
ExactAnyhow =
    (magic floor : ℕ) (P : List ℕ) (made : List Step) (L : List ℕ) (c z : ℕ) (table : List Record)
    → Honest (λ i. type_of (page_at i P) ≡ data_type) (start P) made → entries L ≡ logged_in made
    → (recover_of (lent magic floor P (file_of L c z)) table).answer.number ≡ 0
    → (i k : ℕ) → i < pages_in P → type_of (page_at i P) ≡ data_type
    → slot_at (page_at i (recover_of (lent magic floor P (file_of L c z)) table).pages) k ≡ ledger P (entries (file_of L c z)) i k
