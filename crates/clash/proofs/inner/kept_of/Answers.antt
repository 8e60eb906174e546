-- Nothing is kept of transaction 0.
use Rattle.std.proofs.Common.{sym, ap, ◌∙◌}
use borrow.Author.Tests.{eqb-true, eqb-false}
use Rattle.clash.specs.Newest.{kept}
use Rattle.clash.proofs.NewestLaws.{kept-zero, kept-some}
use Rattle.clash.proofs.inner.kept_of.Goals as goal

pub returns-then-eq : goal.returns-then-eq
returns-then-eq c = sym (ap kept (eqb-true _ _ (sym c.eq.ensures ∙ c.if-eq.true)) ∙ kept-zero)

pub returns : goal.returns
returns c = sym (kept-some _ (eqb-false _ _ (sym c.eq.ensures ∙ c.if-eq.false)))
