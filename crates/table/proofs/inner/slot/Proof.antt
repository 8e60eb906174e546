-- A remainder is below the divisor.
-- Assumes nothing.
use lib.Dec.{lit<}
use native.Mathlib.Nat.{mod-lt}
use Rattle.table.proofs.inner.slot.Statement.{statement}
use Rattle.table.proofs.inner.slot.Tie as tie

pub slot_spec : {M : Type 1} → statement M
slot_spec = tie.close (tie.spec (λ c. mod-lt _ (lit< tt)))
