use native.Mathlib.Omega.{arith}
use borrow.Author.Rules.{rules}
use Rattle.intake.specs.Places.{order_at}
use Rattle.intake.proofs.orders.order_of.Statement.{statement}
use Rattle.intake.proofs.orders.order_of.Tie as tie

order-at-requires : tie.Need-order_at-requires
order-at-requires c κs = omega (arith, c.before.before.requires.room, c.tuple_at.ensures)

returns : tie.Need-returns
unfolding order_at
returns c = rw (← c.before.tuple_at.ensures) c.order_at.ensures

pub order_of_spec : {M : Type 1} → statement M
order_of_spec = tie.close (tie.spec (λ c κs. search rules) order-at-requires returns)
