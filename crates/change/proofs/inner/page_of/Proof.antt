use native.Mathlib.Omega.{arith}
use mathlib.Core.Path.{sym, ◌∙◌}
use Rattle.change.proofs.Keys.{key_of}
use Rattle.change.proofs.inner.page_of.Statement.{statement}
use Rattle.change.proofs.inner.page_of.Tie as tie

add-u64-at : tie.Need-overflow_add-place
add-u64-at c = omega (arith, (key_of c.before.requires).room, c.before.well_formed.0)

u64-at-requires : tie.Need-u64_at-requires
u64-at-requires c κs = omega (arith, (key_of c.before.requires).room)

returns : tie.Need-returns
returns c = c.u64_at.ensures ∙ sym (key_of c.before.before.requires).page

pub page_of_spec : {M : Type 1} → statement M
page_of_spec = tie.close (tie.spec add-u64-at u64-at-requires returns)
