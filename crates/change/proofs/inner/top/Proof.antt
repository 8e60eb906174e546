use native.Mathlib.Omega.{arith}
use borrow.Author.Rules.{rules}
use Rattle.wal.specs.Prefix.{said}
use Rattle.change.proofs.Keys.{key_of, top-is}
use Rattle.change.proofs.inner.top.Statement.{statement}
use Rattle.change.proofs.inner.top.Tie as tie

add-u16-at : tie.Need-overflow_add-place
add-u16-at c = omega (arith, (key_of c.before.requires).room, c.before.well_formed.0)

u16-at-requires : tie.Need-u16_at-requires
u16-at-requires c κs = omega (arith, (key_of c.before.requires).room)

returns : tie.Need-returns
returns c = omega (arith, c.u16_at.ensures, (key_of c.before.before.requires).slot, top-is (said c.before.before.args.log.now c.before.before.args.place))

pub top_spec : {M : Type 1} → statement M
top_spec = tie.close (tie.spec add-u16-at u16-at-requires (λ c. search rules) (λ c. search rules) returns)
