use native.Mathlib.Omega.{arith}
use mathlib.Core.Path.{sym, ◌∙◌}
use borrow.Author.Rules.{rules}
use Rattle.change.proofs.Keys.{key_of, slot_is}
use Rattle.change.proofs.inner.slot_at.Statement.{statement}
use Rattle.change.proofs.inner.slot_at.Tie as tie

add-u16-at : tie.Need-overflow_add-place
add-u16-at c = omega (arith, (key_of c.before.requires.0).room, c.before.well_formed.0)

u16-at-requires : tie.Need-u16_at-requires
u16-at-requires c κs = omega (arith, (key_of c.before.requires.0).room)

returns : tie.Need-returns
returns c = let p = c.before.before.requires in c.u16_at.ensures ∙ sym (key_of p.0).slot ∙ slot_is _ _ p.1

pub slot_at_spec : {M : Type 1} → statement M
slot_at_spec = tie.close (tie.spec add-u16-at u16-at-requires (λ c. search rules) returns)
