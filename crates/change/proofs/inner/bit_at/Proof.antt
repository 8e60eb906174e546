use borrow.Author.Rules.{rules}
use Rattle.change.proofs.Bits.{bit-read}
use Rattle.change.proofs.inner.bit_at.Statement.{statement}
use Rattle.change.proofs.inner.bit_at.Tie as tie

returns : tie.Need-returns
returns c = bit-read _ _ c.before.number_for-n.ensures

pub bit_at_spec : {M : Type 1} → statement M
bit_at_spec = tie.close (tie.spec (λ c κs. search rules) (λ c. search rules) (λ c. search rules) (λ c. search rules) returns)
