use mathlib.Core.Path.{sym, ◌∙◌}
use Rattle.std.proofs.Common.{arith}
use Rattle.page.proofs.Verdicts.{case-size, case-search, right-size}
use Rattle.page.proofs.inner.verify_noting.Goals as goal

pub returns-then-size_wrong-clause-value : goal.returns-then-size_wrong-clause-value
returns-then-size_wrong-clause-value c = rw (c.at.ensures.why, c.at.ensures.place) (case-size _ _ _ (sym c.size_wrong.ensures ∙ c.if-size_wrong.true))

pub first_bad_noting-requires : goal.first_bad_noting-requires
first_bad_noting-requires c = omega (arith, c.requires, (right-size c.args.pages.now (sym c.size_wrong.ensures ∙ c.if-size_wrong.false)).1)

pub returns-clause-value : goal.returns-clause-value
returns-clause-value c = c.first_bad_noting.ensures.value ∙ case-search _ _ _ (sym c.size_wrong.ensures ∙ c.if-size_wrong.false)
