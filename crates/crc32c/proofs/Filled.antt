-- A table that a loop fills, entry by entry.
-- Assumes nothing.
use mathlib.Core.Path.{◌≡◌, refl, sym, ap, ap₂, ◌∙◌}
use mathlib.Core.List.{List}
use Prim.Native.Nat.{ℕ, suc, ◌+◌, ◌*◌, ◌-◌, ◌/◌, ◌%◌, ◌^◌, ◌≤◌, ◌<◌}
use native.Mathlib.Omega.{arith}
use lib.Bits.{bit_xor, bit_and, and_mask, mask_lt, xor_comm}
use Rattle.std.specs.Int.Bits.{xor_shifted}
use lib.ListN.{length, get_or, set}
use Rattle.crc32c.specs.Crc.{shift, shifts, poly}
use Rattle.crc32c.specs.Tables.{leaves, Upto}
use Rattle.crc32c.proofs.Shifts.{shifts-split, shifts-add, shifts-xor}
use Rattle.crc32c.proofs.Stores.{below_more}

pub bit : (i r y : ℕ) → i < 8 → shifts (8 - i) r ≡ y → shifts (8 - (i + 1)) (bit_xor (bit_and r 1 * poly) (r / 2)) ≡ y
unfolding shift shifts
bit i r y h e =
    let e1 : 8 - (i + 1) ≡ 7 - i = omega arith in
    let e2 : suc (7 - i) ≡ 8 - i = omega arith in
    ap₂ shifts e1 (ap (λ (x : ℕ). bit_xor (x * poly) (r / 2)) (and_mask r 1)) ∙ ap (λ (n : ℕ). shifts n r) e2 ∙ e

pub bits : (i r y : ℕ) → i ≡ 8 → shifts (8 - i) r ≡ y → r ≡ y
unfolding shifts
bits i r y h e = sym (ap (λ (n : ℕ). shifts (8 - n) r) h) ∙ e

pub more : (l : List ℕ) (k v : ℕ) → k < length l → v ≡ leaves k → Upto l k → Upto (set l k v) (k + 1)
more l k v h e u = below_more l leaves k v h e u

pub first : (k r : ℕ) → k < 256 → r ≡ shifts 8 k → r ≡ leaves k
first k r h e =
    let e1 : k / 256 ≡ 0 = omega arith in
    let e2 : k % 256 ≡ k = omega arith in
    e ∙ sym (ap₂ (λ (p q : ℕ). shifts (8 * (p + 1)) q) e1 e2)

pub later : (l : List ℕ) (k x : ℕ) → 256 ≤ k → x ≡ get_or l (k - 256) 0 → Upto l k
    → bit_xor (x / 256) (get_or l (bit_and x 255) 0) ≡ leaves k
later l k x h ex u =
    let b : bit_and x 255 < 256 = mask_lt x 8 in
    let e1 : 8 * ((k - 256) / 256 + 1) + 8 ≡ 8 * (k / 256 + 1) = omega arith in
    let e2 : (k - 256) % 256 ≡ k % 256 = omega arith in
    ap (bit_xor (x / 256))
    (u (bit_and x 255) (omega arith) ∙ sym (first (bit_and x 255) (shifts 8 (bit_and x 255)) b refl) ∙ ap (shifts 8) (and_mask x 8))
    ∙ sym (shifts-split 8 x) ∙ ap (shifts 8) (ex ∙ u (k - 256) (omega arith))
    ∙ sym (shifts-add (8 * ((k - 256) / 256 + 1)) 8 ((k - 256) % 256)) ∙ ap₂ shifts e1 e2

-- entry i of table n
of_table : (n i : ℕ) → i < 256 → leaves (256 * n + i) ≡ shifts (8 * (n + 1)) i
of_table n i h =
    let e1 : (256 * n + i) / 256 ≡ n = omega arith in
    let e2 : (256 * n + i) % 256 ≡ i = omega arith in
    ap₂ (λ (p q : ℕ). shifts (8 * (p + 1)) q) e1 e2

-- the sum of one of a table's first sixteen entries and of the first of a later sixteen
pub summed : (n row j : ℕ) → row < 16 → j < 16 → bit_xor (leaves (256 * n + j)) (leaves (256 * n + 16 * row)) ≡ leaves (256 * n + (16 * row + j))
summed n row j hr hj =
    let e : 16 * row ≡ row * 2 ^ 4 = omega arith in
    ap₂ bit_xor (of_table n j (omega arith)) (of_table n (16 * row) (omega arith))
    ∙ sym (shifts-xor (8 * (n + 1)) j (16 * row))
    ∙ ap (shifts (8 * (n + 1))) (xor_comm j (16 * row) ∙ ap (λ (y : ℕ). bit_xor y j) e ∙ xor_shifted row 4 j hj ∙ ap (λ (y : ℕ). y + j) (sym e))
    ∙ sym (of_table n (16 * row + j) (omega arith))
