-- Cells of different slots differ and lie within their group. Assumes nothing.
use Prim.Native.Nat.{ℕ, zero, suc, ◌+◌, ◌-◌, ◌≤◌, ◌<◌}
use native.Mathlib.Decide.{dec_lt}
use native.Mathlib.Omega.{arith}
use mathlib.Core.Path.{◌≡◌, refl, ap}
use mathlib.Core.List.{List}
use lib.ListN.{get_or}
use Rattle.wal.specs.Entry.{Entry}
use Rattle.rules.specs.Mend.{top_of}
use Rattle.cells.specs.Cell.{start_of, cell_of, Starts}

module _ (es : List Entry) where
  pub start-next : (i : ℕ) → start_of es (suc i) ≡ start_of es i + top_of i es
  unfolding start_of
  start-next i = refl

  pub start-rises : (i j : ℕ) → i ≤ j → start_of es i ≤ start_of es j
  start-rises i zero h = let z : i ≡ 0 = omega arith in rw z (omega arith)
  start-rises i (suc j) h =
      elim (dec_lt j i) [
        | yes k ↦ let z : i ≡ suc j = omega arith in rw z (omega arith)
        | no k ↦ omega (arith, start-rises i j (omega arith), start-next j)
      ]

  module _ (lo i k : ℕ) (low : lo ≤ i) (touched : k < top_of i es) where
    pub cell_below : (hi : ℕ) → i < hi → cell_of es lo i k < start_of es hi - start_of es lo
    unfolding cell_of
    cell_below hi h = omega (arith, start-rises lo i low, start-next i, start-rises (suc i) hi h)

    -- of slots of two pages, the earlier page's cell stands earlier
    cell-before : (j m : ℕ) → i < j → cell_of es lo i k < cell_of es lo j m
    unfolding cell_of
    cell-before j m h = omega (arith, start-rises lo i low, start-next i, start-rises (suc i) j h)

  -- a cell is of one slot
  pub cell-one : (lo i j k m : ℕ) → lo ≤ i → lo ≤ j → k < top_of i es → m < top_of j es → cell_of es lo i k ≡ cell_of es lo j m → (i ≡ j) × (k ≡ m)
  unfolding cell_of
  cell-one lo i j k m li lj ki mj e =
      elim (dec_lt i j) [
        | yes h ↦ absurd (omega (arith, cell-before lo i k li ki j m h))
        | no h ↦ elim (dec_lt j i) [
          | yes g ↦ absurd (omega (arith, cell-before lo j m lj mj i k g))
          | no g ↦ let z : i ≡ j = omega arith in let y : start_of es i ≡ start_of es j = ap (start_of es) z in (z, omega arith)
        ]
      ]

  -- as code finds the cell
  pub cell-is : (n lo i k : ℕ) (a : List ℕ) → Starts es n a → lo ≤ i → i ≤ n → (get_or a lo 0 ≤ get_or a i 0) × (get_or a i 0 - get_or a lo 0 + k ≡ cell_of es lo i k)
  unfolding cell_of
  cell-is n lo i k a t l h = omega (arith, t.at lo (omega arith), t.at i h, start-rises lo i l)
