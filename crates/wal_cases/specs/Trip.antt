-- What a log reader finds by two steps forward and one back, and where it is then.
use Rattle.std.specs.Prelude.{ℕ, List, Bool}
use Rattle.wal.specs.Read.{header_fault, read_at, read_before}
use Rattle.wal.specs.Reader.{kept_log, opened_at, place_after, place_before}
use Rattle.wal_cases.specs.declared.trip.Trip.{Trip}

-- the place behind the entry at p, if there is one
abbrev pub after : List ℕ → ℕ → ℕ
after s p = place_after (read_at s p) p

-- from place p of the log s, by a reader with a number
abbrev pub trip_from : List ℕ → ℕ → ℕ → Trip
trip_from s p number =
    record {
      first = read_at s p;
      second = read_at s (after s p);
      third = read_before s (after s (after s p));
      place = place_before (read_before s (after s (after s p))) (after s (after s p));
      number = number;
    }

unfoldable pub trip_of : Bool → List ℕ → Trip
trip_of end log = trip_from (kept_log log) (opened_at end log) (header_fault log)
