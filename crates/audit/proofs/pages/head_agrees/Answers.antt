-- Field by field.
use Rattle.std.proofs.Common.{sym, ◌∙◌}
use borrow.Author.Tests.{eqb-true, eqb-false, not-false}
use Rattle.rules.proofs.Tests.{not-true}
use Rattle.audit.proofs.Slotwise.{head-magic, head-type, head-id, head-rest}
use Rattle.audit.proofs.pages.head_agrees.Goals as goal

pub returns-then-magic : goal.returns-then-magic
returns-then-magic c = head-magic _ _ (λ e. c.if-magic.true (c.magic.ensures ∙ e ∙ sym c.magic-2.ensures))

pub returns-then-kind : goal.returns-then-kind
returns-then-kind c = head-type _ _ (sym c.magic.ensures ∙ c.if-magic.false ∙ c.magic-2.ensures) (λ e. c.if-kind.true (c.kind.ensures ∙ e ∙ sym c.kind-2.ensures))

pub returns-then-ne : goal.returns-then-ne
returns-then-ne c =
    head-id _ _ (sym c.magic.ensures ∙ c.if-magic.false ∙ c.magic-2.ensures) (sym c.kind.ensures ∙ c.if-kind.false ∙ c.kind-2.ensures) (λ q. eqb-false _ _ (not-true _ (sym c.ne.ensures ∙ c.if-ne.true)) (c.id.ensures ∙ q ∙ sym c.id-2.ensures))

pub returns : goal.returns
returns c =
    c.same.ensures ∙ head-rest _ _ (sym c.magic.ensures ∙ c.if-magic.false ∙ c.magic-2.ensures) (sym c.kind.ensures ∙ c.if-kind.false ∙ c.kind-2.ensures) (sym c.id.ensures ∙ eqb-true _ _ (not-false _ (sym c.ne.ensures ∙ c.if-ne.false)) ∙ c.id-2.ensures)
