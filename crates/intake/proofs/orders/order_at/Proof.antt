use borrow.Author.Rules.{rules}
use Rattle.intake.proofs.orders.order_at.Statement.{statement}
use Rattle.intake.proofs.orders.order_at.Tie as tie

returns : tie.Need-returns
returns c = rw (c.before.u32_at.ensures, c.u32_at-2.ensures)

pub order_at_spec : {M : Type 1} → statement M
order_at_spec = tie.close (tie.spec (λ c. search rules) (λ c κs. search rules) (λ c. search rules) (λ c κs. search rules) returns)
