-- The log reader: the lent log and its own place (paper 01, Log; paper 02, W11).
use Rattle.std.specs.Prelude.{ℕ, zero, suc, ◌+◌, List, [], Bool, Option, Some, None}
use Rattle.endian.specs.Pick.{pick}
use Rattle.wal.specs.Read.{header_fault, first}
use Rattle.wal.specs.Walk.{end_of}
use Rattle.wal.specs.declared.EntryView.{EntryView}
use Rattle.wal.specs.declared.Reading.{Reading}
use Rattle.wal.specs.declared.Reading.TheVariants.{Whole, End, Torn, Unused, Damage}

-- the log that a reader holds: the lent one, or an empty one where that is refused
abbrev pub unless_refused : {A : Type 0} → ℕ → A → A → A
unless_refused zero a b = a
unless_refused (suc n) a b = b

abbrev pub kept_log : List ℕ → List ℕ
kept_log s = unless_refused (header_fault s) s []

-- where a reader is opened: behind the header, or at the end found by walking; refused, at 0
abbrev pub opened_at : Bool → List ℕ → ℕ
opened_at end s = unless_refused (header_fault s) (pick end (end_of s) first) 0

-- only an entry moves the place
abbrev pub place_after : Reading → ℕ → ℕ
place_after (Whole v) p = p + v.length
place_after End p = p
place_after Torn p = p
place_after Unused p = p
place_after Damage p = p

abbrev pub place_before : Option EntryView → ℕ → ℕ
place_before (Some v) p = v.place
place_before None p = p
