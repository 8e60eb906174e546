-- Internal: what a walk keeps of open transactions while every entry is known to be in order and Begins come with rising numbers.
use Rattle.endian.specs.declared.TxnNumber.{TxnNumber}
use Rattle.std.specs.Prelude.{Option, None, Some, ℕ, ◌+◌, ◌≤◌, ◌<◌, ◌≡◌, true, false, List, length, get_or}
use Rattle.wal.specs.Prefix.{before}
use Rattle.rules.specs.Order.{begun, ended, is_open}
use Rattle.index.specs.Places.{number}
use Rattle.order.specs.Blocks.{top_number, RightBefore}

-- so many places are kept
abbrev pub turns : ℕ
turns = 16384

-- before `at`: each entry is in order, no transaction above the highest has begun or ended, and each place kept is an entry of an open transaction, of which no other is kept; 0 is no place
pub record Turning (s : List ℕ) (at highest : ℕ) (opens : List ℕ) : Type 0 where
  pub right : RightBefore s 0 top_number at
  pub unbegun : (t : ℕ) → highest < t → begun (before s at) t ≡ false
  pub unended : (t : ℕ) → highest < t → ended (before s at) t ≡ false
  pub long : length opens ≡ turns
  pub room : (r : ℕ) → (get_or opens r 0 ≡ 0 → ⊥) → get_or opens r 0 + 20 ≤ length s
  pub going : (r : ℕ) → (get_or opens r 0 ≡ 0 → ⊥) → is_open (before s at) (number s (get_or opens r 0)) ≡ true
  pub apart : (r q : ℕ) → (get_or opens r 0 ≡ 0 → ⊥) → (get_or opens q 0 ≡ 0 → ⊥) → number s (get_or opens r 0) ≡ number s (get_or opens q 0) → r ≡ q

-- what is known before `at`, with the highest number that began; or nothing
abbrev pub TurningAfter : List ℕ → ℕ → Option TxnNumber → List ℕ → Type 0
TurningAfter s at None opens = Unit {0}
TurningAfter s at (Some highest) opens = Turning s at highest.0 opens
