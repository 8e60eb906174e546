-- It says no of a free place, of t's own, and of one of which a cell keeps another number.
use Rattle.std.proofs.Common.{arith, sym, ap, ◌∙◌}
use mathlib.Core.Bool.{not}
use borrow.Author.Tests.{eqb-true, eqb-false, ne_eqb, not-false}
use native.Mathlib.Decide.{ℕ_discrete}
use Rattle.rules.proofs.Tests.{false-true}
use Rattle.clash.specs.Newest.{kept}
use Rattle.clash.proofs.OpenLaws.{quiet-free, quiet-own, quiet-rest}
use Rattle.clash.proofs.inner.may_clash.Goals as goal

pub returns-then-v-le1 : goal.returns-then-v-le1
returns-then-v-le1 c = λ z. quiet-free _ _ _ _ (elim (ℕ_discrete c.args.v 0) [ yes e ↦ e | no n ↦ false-true (sym z ∙ ap not (ne_eqb _ 0 n)) ])

pub returns-then-ne : goal.returns-then-ne
returns-then-ne c = λ h. quiet-rest _ _ _ _ (omega (arith, c.if-v-le1.false)) (λ z. eqb-false _ _ h (c.kept_of.ensures ∙ ap kept c.u64_at.ensures ∙ z))

pub returns-else-ne : goal.returns-else-ne
returns-else-ne c = λ h. quiet-own _ _ _ _ (omega (arith, c.if-v-le1.false)) (sym c.u64_at.ensures ∙ eqb-true _ _ (not-false _ (sym c.ne.ensures ∙ h)))
