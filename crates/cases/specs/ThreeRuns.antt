-- A night of three runs over the example history, under one floor: the first, from the torn cut, is stopped after the first of two pages; the second, from the same cut with 115 zero bytes behind
-- it, is refused by 4; the last is from the cut whose last entry the zeros complete.
use Rattle.std.specs.Prelude.{ℕ, ◌+◌, List, [], ◌∷◌, replicate}
use Rattle.wal.specs.Entry.{sizes_of}
use Rattle.history.specs.Night.{Run, stored}
use Rattle.cases.specs.Starred.{no_record}
use Rattle.cases.specs.Example.{whole, stood}

abbrev run : ℕ → ℕ → Run
run cut zeros = record { floor = 7; cut = cut; zeros = zeros; table = replicate 8 no_record }

abbrev pub first : Run
first = run (32 + sizes_of whole + 20) 0

abbrev pub second : Run
second = run (32 + sizes_of whole + 20) 115

abbrev pub last : Run
last = run (32 + sizes_of whole + 130) 7

-- page 0 was stored, page 1 not yet
abbrev pub halfway : List ℕ
halfway = stored whole (0 ∷ []) stood
