-- An honest history of two pages and ten steps: transaction 7 commits; 8 has not ended; 9 is in the middle of taking its changes back. Page 0 stands after nine steps; page 1 after five, or after
-- all ten, when it has felt the last change.
-- Four files of its log: a cut that tears the last entry; a cut before it, and sixteen zero bytes; a cut that lacks the three zero bytes at the end of its second length, and seven zero bytes; and
-- the whole log, and twenty.
use Rattle.std.specs.Prelude.{ℕ, zero, suc, ◌+◌, List, [], ◌∷◌, ◌++◌}
use Rattle.wal.specs.Entry.{Entry, sizes_of}
use Rattle.wal.specs.Walk.{file_of}
use Rattle.history.specs.History.{Step, logged, restored}
use Rattle.cases.specs.Build.{begins, commits, inserts, updates, log_of, page, area}
use Rattle.cases.specs.Starred.{a, b, c}

abbrev pub before : List ℕ
before = area (page 0 (a ∷ []) ∷ page 0 [] ∷ [])

-- the last change: 8 updates the row that it inserted
abbrev pub change : Entry
change = updates 9 8 1 0 a b

abbrev pub steps : List Step
steps =
    logged (begins 1 7) ∷ logged (updates 2 7 0 0 a b) ∷ logged (commits 3 7)
    ∷ logged (begins 4 8) ∷ logged (inserts 5 8 1 0 a)
    ∷ logged (begins 6 9) ∷ logged (updates 7 9 0 0 b c) ∷ logged (inserts 8 9 0 1 a) ∷ restored 9 0 1
    ∷ logged change ∷ []

-- the entries of the first two files
abbrev pub whole : List Entry
whole =
    begins 1 7 ∷ updates 2 7 0 0 a b ∷ commits 3 7 ∷ begins 4 8 ∷ inserts 5 8 1 0 a
    ∷ begins 6 9 ∷ updates 7 9 0 0 b c ∷ inserts 8 9 0 1 a ∷ []

-- all entries of the log, and of the other two
abbrev pub all : List Entry
all = whole ++ (change ∷ [])

abbrev pub log : List ℕ
log = log_of all

-- 20 bytes of the last entry, and nothing behind them
abbrev pub torn : List ℕ
torn = file_of log (32 + sizes_of whole + 20) 0

-- none of its bytes, and zero bytes
abbrev pub roomy : List ℕ
roomy = file_of log (32 + sizes_of whole) 16

-- 130 of its 133 bytes, and zero bytes: three of them complete it, four are unused
abbrev pub completed : List ℕ
completed = file_of log (32 + sizes_of whole + 130) 7

-- the same bytes of it, and nothing behind them
abbrev pub bare_cut : List ℕ
bare_cut = file_of log (32 + sizes_of whole + 130) 0

-- all of it, and zero bytes
abbrev pub roomier : List ℕ
roomier = file_of log (32 + sizes_of whole + 133) 20

abbrev pub moment : ℕ → ℕ
moment zero = 9
moment (suc i) = 5

-- the pages as they stood
abbrev pub stood : List ℕ
stood = area (page 7 (c ∷ []) ∷ page 5 (a ∷ []) ∷ [])

-- the same when page 1 has felt the last change
abbrev pub last_moment : ℕ → ℕ
last_moment zero = 9
last_moment (suc i) = 10

abbrev pub last_stood : List ℕ
last_stood = area (page 7 (c ∷ []) ∷ page 9 (b ∷ []) ∷ [])
