-- The entries of a log, from a place on, and the place where they end (paper 01, Log; paper 02, W11).
use Rattle.std.specs.Prelude.{ℕ, zero, suc, ◌+◌, List, [], ◌∷◌, ◌++◌, map, length, take, replicate, Option, Some, None}
use Rattle.wal.specs.Entry.{Entry, entry_of}
use Rattle.wal.specs.Read.{read_at, read_before, first}
use Rattle.wal.specs.declared.Ending.{Ending}
use Rattle.wal.specs.declared.Ending.TheVariants as ending
use Rattle.wal.specs.declared.EntryView.{EntryView}
use Rattle.wal.specs.declared.Reading.{Reading}
use Rattle.wal.specs.declared.Reading.TheVariants.{Whole, End, Torn, Unused, Damage}

-- an entry and those that follow it; none where there is none
abbrev pub followed : Reading → (EntryView → List EntryView) → List EntryView
followed (Whole v) more = v ∷ more v
followed End more = []
followed Torn more = []
followed Unused more = []
followed Damage more = []

-- at most `fuel` entries from p on
unfoldable pub scan : ℕ → List ℕ → ℕ → List EntryView
scan zero s p = []
scan (suc fuel) s p = followed (read_at s p) (λ v. scan fuel s (p + v.length))

-- the entries from p on: an entry has bytes, so there are no more of them than bytes
unfoldable pub views_from : List ℕ → ℕ → List EntryView
views_from s p = scan (length s) s p

-- the place behind entries that start at p
abbrev pub end_from : ℕ → List EntryView → ℕ
end_from p [] = p
end_from p (v ∷ vs) = end_from (p + v.length) vs

-- the walk from the first entry: the entries, and the place of the first damage, torn tail, unused room or exact end
abbrev pub views : List ℕ → List EntryView
views s = views_from s first

abbrev pub end_of : List ℕ → ℕ
end_of s = end_from first (views s)

-- what stands where the walk ends
abbrev pub ending_of : List ℕ → Reading
ending_of s = read_at s (end_of s)

-- the number of an ending: exact end 0, torn 1, unused 2; an entry ends no walk, and damage is refused
abbrev pub ending_number : Reading → ℕ
ending_number (Whole v) = 0
ending_number End = 0
ending_number Torn = 1
ending_number Unused = 2
ending_number Damage = 0

-- the number of an ending that is one
abbrev pub number_of_ending : Ending → ℕ
number_of_ending ending.Exact = 0
number_of_ending ending.Torn = 1
number_of_ending ending.Unused = 2

-- what the entries say
abbrev pub entries : List ℕ → List Entry
entries s = map (entry_of s) (views s)

-- ---- a file of a log with room set aside: the log's first c bytes, and z zero bytes behind them
abbrev pub file_of : List ℕ → ℕ → ℕ → List ℕ
file_of log c z = take c log ++ replicate z 0

-- ---- backward: at most `fuel` steps from p
abbrev pub preceded : Option EntryView → (EntryView → List EntryView) → List EntryView
preceded (Some v) more = v ∷ more v
preceded None more = []

unfoldable pub backward : ℕ → List ℕ → ℕ → List EntryView
backward zero s p = []
backward (suc fuel) s p = preceded (read_before s p) (λ v. backward fuel s v.place)
