use native.Mathlib.Omega.{arith}
use borrow.Author.Rules.{rules}
use Rattle.intake.specs.Places.{high_at}
use Rattle.intake.proofs.orders.high_at.Statement.{statement}
use Rattle.intake.proofs.orders.high_at.Tie as tie

add-u64-at : tie.Need-overflow_add-tuple_at
add-u64-at c = omega (arith, c.before.before.requires.room, c.tuple_at.ensures)

u64-at-requires : tie.Need-u64_at-requires
u64-at-requires c κs = omega (arith, c.before.before.requires.room, c.tuple_at.ensures)

returns : tie.Need-returns
unfolding high_at
returns c = rw (← c.before.tuple_at.ensures) c.u64_at.ensures

pub high_at_spec : {M : Type 1} → statement M
high_at_spec = tie.close (tie.spec (λ c κs. search rules) add-u64-at u64-at-requires returns)
