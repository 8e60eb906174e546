-- Stores in a row: what was stored is one list behind the other.
-- Assumes nothing.
use mathlib.Core.Path.{◌≡◌, ◌∙◌}
use Prim.Native.Nat.{ℕ, ◌+◌, ◌≤◌}
use native.Mathlib.Omega.{arith}
use mathlib.Core.List.{List, ◌++◌}
use lib.ListN.{length, length-append}
use lib.Seq.{paste}
use Rattle.endian.specs.Numbers.{bytes_of}
use Rattle.endian.proofs.Numbers.{length-bytes_of}
use Rattle.endian.proofs.Places.{paste-two}

-- w is d with the m elements of a stored from `at` on
pub record Stored (d w : List ℕ) (at : ℕ) (a : List ℕ) (m : ℕ) : Type 0 where
  pub long : length a ≡ m
  pub room : at + m ≤ length d
  pub is : w ≡ paste d at a m

pub first : (d w a : List ℕ) (at m : ℕ) → length a ≡ m → at + m ≤ length d → w ≡ paste d at a m → Stored d w at a m
first d w a at m l r e = record { long = l; room = r; is = e }

module _ {d w : List ℕ} {at : ℕ} {a : List ℕ} {m : ℕ} (s : Stored d w at a m) where
  pub more : (v b : List ℕ) (n : ℕ) → length b ≡ n → at + m + n ≤ length d → v ≡ paste w (at + m) b n → Stored d v at (a ++ b) (m + n)
  more v b n l r e = record {
    long = omega (arith, length-append a b, s.long);
    room = omega arith;
    is = e ∙ rw s.is (paste-two d a b at m n s.long l s.room);
  }

  pub number : (v : List ℕ) (k n : ℕ) → at + m + k ≤ length d → v ≡ paste w (at + m) (bytes_of k n) k → Stored d v at (a ++ bytes_of k n) (m + k)
  number v k n = more v (bytes_of k n) k (length-bytes_of k n)
