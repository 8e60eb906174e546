-- Recovery with a table of plain numbers, `stride` for each record.
use Rattle.std.specs.Prelude.{ℕ, zero, suc, ◌*◌, ◌/◌, List, [], ◌∷◌, ◌++◌, length, take, drop, slice_index}
use Rattle.rules.specs.Recover.{Recovered, recover_of}
use Rattle.rules.specs.declared.Answer.{Answer}
use Rattle.rules.specs.declared.Record.{Record}
use Rattle.table.specs.Flat.{stride, flat}
use Rattle.rules.specs.Lent.{Lent}

-- a record from its numbers
abbrev pub record_from : List ℕ → Record
record_from l =
    record {
      number = record { 0 = slice_index l 0 };
      first = record { 0 = slice_index l 1 };
      outcome = slice_index l 2;
      changes = slice_index l 3;
      ending = record { 0 = slice_index l 4 };
      last = record { 0 = slice_index l 5 };
    }

-- the first n records of a flat table, all of them, and the numbers behind the last whole one
unfoldable pub records_in : ℕ → List ℕ → List Record
records_in zero d = []
records_in (suc n) d = record_from (take stride d) ∷ records_in n (drop stride d)

unfoldable pub rows : List ℕ → List Record
rows d = records_in (length d / stride) d

unfoldable pub left : List ℕ → List ℕ
left d = drop (stride * (length d / stride)) d

pub record FlatRecovered : Type 0 where
  pub answer : Answer
  pub pages : List ℕ
  pub table : List ℕ

-- the same as with those records; the numbers behind the last whole one stay
abbrev pub flattened : Recovered → List ℕ → FlatRecovered
flattened r table = record { answer = r.answer; pages = r.pages; table = flat r.table ++ left table }

unfoldable pub recover_flat : Lent → List ℕ → FlatRecovered
recover_flat x table = flattened (recover_of x (rows table)) table
