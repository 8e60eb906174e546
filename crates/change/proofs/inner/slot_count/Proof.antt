use mathlib.Core.Path.{refl}
use Rattle.change.specs.Places.{slots_of}
use Rattle.change.proofs.inner.slot_count.Statement.{statement}
use Rattle.change.proofs.inner.slot_count.Tie as tie

returns : tie.Need-returns
unfolding slots_of
returns c = refl

pub slot_count_spec : {M : Type 1} → statement M
slot_count_spec = tie.close (tie.spec returns)
