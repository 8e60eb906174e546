-- Table 14, schema "app", name "orders", in each form: what the readers say of it, computed from the rules.
-- Assumes nothing.
use mathlib.Core.Path.{◌≡◌, refl}
use Prim.Native.Nat.{ℕ}
use mathlib.Core.List.{List, [], ◌∷◌, ◌++◌}
use Rattle.refusals.specs.Verdict.{accepted}
use Rattle.endian.specs.Numbers.{bytes_of, number_at, number_of}
use Rattle.catalog.specs.TableRows.{RowAnswer, part_at, refused_row, laid, row_by, row_of, older_row_of, row_bytes}

abbrev app : List ℕ
app = 97 ∷ 112 ∷ 112 ∷ []

abbrev orders : List ℕ
orders = 111 ∷ 114 ∷ 100 ∷ 101 ∷ 114 ∷ 115 ∷ []

abbrev names : List ℕ
names = (14 ∷ 0 ∷ 0 ∷ 0 ∷ 9 ∷ 0 ∷ 0 ∷ 0 ∷ 0 ∷ 0 ∷ 0 ∷ 0 ∷ 3 ∷ []) ++ app ++ (6 ∷ []) ++ orders

abbrev orders-with : ℕ → ℕ → RowAnswer
orders-with layout version = record { verdict = accepted; table = 14; root = record { 0 = 9 }; schema = part_at 13 3; name = part_at 17 6; layout = layout; version = version }

-- nothing behind the names: a heap, version 1; one layout byte: that layout, version 1; both readers say so
first-form : (row_of names ≡ orders-with 0 1) × (older_row_of names ≡ orders-with 0 1)
unfolding row_by laid number_at number_of
first-form = (refl, refl)

second-form : (row_of (names ++ (1 ∷ [])) ≡ orders-with 1 1) × (older_row_of (names ++ (1 ∷ [])) ≡ orders-with 1 1)
unfolding row_by laid number_at number_of
second-form = (refl, refl)

-- the newest form as the writer gives it: layout and version, or 38 for the older reader
newest-form : (row_of (row_bytes 14 9 app orders 1 258) ≡ orders-with 1 258) × (older_row_of (row_bytes 14 9 app orders 1 258) ≡ refused_row 38)
unfolding row_by laid number_at number_of row_bytes bytes_of
newest-form = (refl, refl)

-- 38 whatever its layout byte, where the newest reader says 36
other-layout : (row_of (row_bytes 14 9 app orders 2 258) ≡ refused_row 36) × (older_row_of (row_bytes 14 9 app orders 2 258) ≡ refused_row 38)
unfolding row_by laid number_at number_of row_bytes bytes_of
other-layout = (refl, refl)
