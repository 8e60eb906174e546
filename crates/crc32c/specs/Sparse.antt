-- Internal: a sparse multiple of the polynomial: with y for one byte, y^209 + y^144 + y^54 + y^39 + y^14 + 1 is 0 in the register, and so is the same with
-- every exponent times 2. So a byte may be left out where it goes into five later bytes instead, and long runs are shortened without a table.
use Rattle.std.specs.Prelude.{◌≡◌, List, ℕ, zero, suc, ◌+◌, ◌*◌, ◌<◌, length, take, get_or}
use Rattle.std.specs.Int.Bits.{bit_xor}
use Rattle.endian.specs.Numbers.{Bytes}
use Rattle.crc32c.specs.Crc.{shifts}

-- the multiple's exponents
abbrev pub degree : ℕ
degree = 209

abbrev pub e₄ : ℕ
e₄ = 144

abbrev pub e₃ : ℕ
e₃ = 54

abbrev pub e₂ : ℕ
e₂ = 39

abbrev pub e₁ : ℕ
e₁ = 14

-- the bytes of the history, which is as long as the degree twice, of what goes behind it at a time, of both, of an input's ending, and of what is left of that
abbrev pub history_bytes : ℕ
history_bytes = 418

abbrev pub chunk_bytes : ℕ
chunk_bytes = 1984

abbrev pub buffer_bytes : ℕ
buffer_bytes = 2402

abbrev pub ending_bytes : ℕ
ending_bytes = 448

abbrev pub last_bytes : ℕ
last_bytes = 224

-- the register c after n bytes, which a function gives
unfoldable pub over : ℕ → (ℕ → ℕ) → ℕ → ℕ
over c f zero = c
over c f (suc n) = over (shifts 8 (bit_xor c (f 0))) (λ j. f (suc j)) n

-- what the 209 * k bytes of f from place j on leave for the byte behind them
unfoldable pub pull : ℕ → (ℕ → ℕ) → ℕ → ℕ
pull k f j =
    bit_xor (f (j + e₄ * k)) (bit_xor (f (j + e₃ * k)) (bit_xor (f (j + e₂ * k)) (bit_xor (f (j + e₁ * k)) (f j))))

-- the register after the bytes of r, into which the bytes of h before them are still to go
unfoldable pub residue : ℕ → List ℕ → List ℕ → ℕ
residue k h r = over 0 (λ j. bit_xor (get_or r j 0) (pull k (λ i. get_or h i 0) j)) (length r)

-- the same over the history at the front of a list, at the scale 2
unfoldable pub carried : List ℕ → List ℕ → ℕ
carried p r = residue 2 (take history_bytes p) r

-- p is the history of h, and behind it n bytes of s, each with what goes into it
pub record Filled (k n : ℕ) (h s p : List ℕ) : Type 0 where
  pub front : (i : ℕ) → i < degree * k → get_or p i 0 ≡ get_or h i 0
  pub each : (j : ℕ) → j < n → get_or p (j + degree * k) 0 ≡ bit_xor (get_or s j 0) (pull k (λ i. get_or p i 0) j)

-- n bytes
pub record Room (n : ℕ) (l : List ℕ) : Type 0 where
  pub size : length l ≡ n
  pub bytes : Bytes l
