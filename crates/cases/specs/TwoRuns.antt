-- Two runs over the example history, both from files with zero bytes behind the cut, on pages of which one has felt the last change: the first, whose last entry reaches into its zeros, is stopped
-- after the first of two pages; the second is from the whole log.
use Rattle.std.specs.Prelude.{ℕ, List, [], ◌∷◌}
use Rattle.history.specs.Night.{stored}
use Rattle.cases.specs.Example.{all, last_stood}

-- page 0 was stored, page 1 not yet
abbrev pub halfway : List ℕ
halfway = stored all (0 ∷ []) last_stood
