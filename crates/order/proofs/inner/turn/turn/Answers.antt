-- Each kind of entry by its own law.
use Rattle.std.proofs.Common.{sym, ap, ◌∙◌, ◌≡◌, subst, ◌+◌, Option, Some}
use borrow.Author.Tests.{eqb-true, eqb-false}
use Rattle.endian.specs.declared.TxnNumber.{TxnNumber}
use Rattle.wal.specs.Read.{length_at}
use Rattle.rules.specs.Shape.{is_changing}
use Rattle.order.specs.Turns.{TurningAfter}
use Rattle.order.proofs.Turnings.{turning-checkpoint, turning-zero, turned}
use Rattle.order.proofs.inner.turn.turn.Goals as goal

pub returns-then-is_checkpoint : goal.returns-then-is_checkpoint
returns-then-is_checkpoint c =
    let a = c.args in
    let was : a.turns ≡ Some c.in_ok-highest.highest = c.in_ok-highest.was in
    let t = subst (λ (x : Option TxnNumber). TurningAfter a.log.now a.v.place x a.opens.now) was c.requires.turning in
    subst (λ (x : Option TxnNumber). TurningAfter a.log.now (a.v.place + length_at a.log.now a.v.place) x a.opens.now) (sym was)
    (turning-checkpoint t c.requires.stands (sym (c.requires.v_value.0) ∙ eqb-true _ _ (sym c.is_checkpoint.ensures ∙ c.if-is_checkpoint.true)))

pub returns-then-eq : goal.returns-then-eq
returns-then-eq c =
    let a = c.args in
    let e = c.requires.v_value in
    let h = c.in_ok-highest.highest in
    let t = subst (λ (x : Option TxnNumber). TurningAfter a.log.now a.v.place x a.opens.now) c.in_ok-highest.was c.requires.turning in
    subst (λ (x : Option TxnNumber). TurningAfter a.log.now (a.v.place + length_at a.log.now a.v.place) x a.opens.now) (sym c.then_some.ensures)
    (turned c.is_change.result h
    (λ z. turning-zero t c.requires.stands (λ k. eqb-false _ _ (sym c.is_checkpoint.ensures ∙ c.if-is_checkpoint.false) (e.0 ∙ k))
    (sym (e.1) ∙ eqb-true _ _ (sym c.eq.ensures ∙ c.if-eq.true)) (ap is_changing (sym (e.0)) ∙ sym c.is_change.ensures ∙ z)))
