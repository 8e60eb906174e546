-- A lent array once as many of the numbers are put as fit.
-- Assumes nothing.
use mathlib.Core.Path.{◌≡◌}
use Prim.Native.Nat.{ℕ, ◌≤◌, min}
use native.Mathlib.Decide.{dec_le}
use native.Mathlib.Omega.{arith}
use mathlib.Core.List.{List, ◌++◌}
use lib.ListN.{length, take, drop, drop_of_length-le}
use lib.Seq.{take_all, take-length, drop-length}
use Rattle.capi.specs.Answers.{given}

pub as_given : (numbers out : List ℕ) (n : ℕ) → n ≡ min (length numbers) (length out) → take n numbers ++ drop n out ≡ given numbers out
unfolding given
as_given numbers out n e =
    elim (dec_le (length numbers) (length out)) [
      | yes l ↦ let i : n ≡ length numbers = omega arith in rw (i, take-length numbers, take_all (length out) numbers l)
      | no l ↦ let i : n ≡ length out = omega arith in
          let m : length out ≤ length numbers = omega arith in
          rw (i, drop-length out, drop_of_length-le out m)
    ]
