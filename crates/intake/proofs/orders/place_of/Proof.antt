use mathlib.Core.Path.{refl}
use borrow.Author.Rules.{rules}
use Rattle.intake.specs.Places.{place_of}
use Rattle.intake.proofs.orders.place_of.Statement.{statement}
use Rattle.intake.proofs.orders.place_of.Tie as tie

returns : tie.Need-returns
unfolding place_of
returns c = refl

pub place_of_spec : {M : Type 1} → statement M
place_of_spec = tie.close (tie.spec (λ c. search rules) (λ c. search rules) (λ c. search rules) (λ c. search rules) returns)
