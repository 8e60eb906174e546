-- The file of the paper: one row of 40 bytes on page 2 slot 0, last LSN 300; and that it is one that the theorems speak of.
-- Assumes nothing.
use mathlib.Core.Path.{◌≡◌, refl}
use mathlib.Core.Logic.{inl}
use native.Mathlib.Omega.{arith}
use mathlib.Core.List.{List, [], ◌∷◌}
use Rattle.summary.specs.Number.{groups_in, groups}
use Rattle.summary.specs.Summary.{head_of, row_bytes, rows_bytes, file_of}
use Rattle.summary.specs.declared.SummaryRow.{SummaryRow}
use Rattle.summary.proofs.FileLaws.{Kept, Back, read_back}

abbrev pub rows : List SummaryRow
rows = record { page = record { 0 = 2 }; slot = 0; length = 40 } ∷ []

pub the-example : file_of 300 rows ≡ 1 ∷ 172 ∷ 2 ∷ 1 ∷ 2 ∷ 0 ∷ 40 ∷ []
unfolding file_of head_of rows_bytes row_bytes groups groups_in
the-example = refl

kept : Kept 0 0 rows
kept = (omega arith, omega arith, omega arith, omega arith, inl (omega arith), tt)

pub the-example-back : Back (1 ∷ 172 ∷ 2 ∷ 1 ∷ 2 ∷ 0 ∷ 40 ∷ []) 300 rows
the-example-back = rw the-example at (read_back 300 rows (omega arith) (omega arith) kept)
