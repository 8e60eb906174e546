-- `is_other` meets its contract: where it says no, the page is untouched or its type was found to be 1.
-- Assumes nothing.
use borrow.Author.Tests.{eqb-true}
use borrow.Author.Tests.{not-false}
use borrow.Author.Rules.{rules}
use Rattle.checks.proofs.inner.is_other.Statement.{statement}
use Rattle.checks.proofs.inner.is_other.Tie as tie

returns-2 : tie.Need-returns
returns-2 c = λ h _. eqb-true _ _ (not-false _ h)

pub is_other_spec : {M : Type 1} → statement M
is_other_spec =
    tie.close
    (tie.spec (λ c. search rules) (λ c. search rules) (λ c. search rules) (λ c. search rules) (λ c. search rules) (λ c. search rules) (λ c. search rules) (λ c. search rules) (λ c. search rules) returns-2)
