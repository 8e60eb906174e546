use borrow.Author.Rules.{rules}
use Rattle.change.specs.Bits.{number_for}
use Rattle.change.proofs.inner.number_for.Statement.{statement}
use Rattle.change.proofs.inner.number_for.Tie as tie

returns : tie.Need-returns
unfolding number_for
returns c = search rules

pub number_for_spec : {M : Type 1} → statement M
number_for_spec = tie.close (tie.spec (λ c. search rules) returns)
