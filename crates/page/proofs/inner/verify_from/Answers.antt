use mathlib.Core.Path.{sym, ◌∙◌}
use Rattle.page.proofs.Verdicts.{case-size, case-search}
use Rattle.page.proofs.inner.verify_from.Goals as goal

pub returns-then-size_wrong : goal.returns-then-size_wrong
returns-then-size_wrong c = rw (c.at.ensures.why, c.at.ensures.place) (case-size _ _ _ (sym c.size_wrong.ensures ∙ c.if-size_wrong.true))

pub returns : goal.returns
returns c = c.first_bad.ensures ∙ case-search _ _ _ (sym c.size_wrong.ensures ∙ c.if-size_wrong.false)
