-- A Begin or an ending is offered, another entry passed over.
use Rattle.std.proofs.Common.{arith, sym, ap, ◌∙◌, ℕ, eqb}
use borrow.Author.Tests.{eqb-true, eqb-false}
use Rattle.wal.specs.Entry.{commit, rollback}
use Rattle.wal.proofs.Prefix.{view-kind}
use Rattle.rules.specs.Shape.{either}
use Rattle.order.proofs.Gathering.{placed, begin-in, end-in, other-in}
use Rattle.order.proofs.inner.block.take_in.Goals as goal

pub overflow_cast-v : goal.overflow_cast-v
overflow_cast-v c = let k = placed c.requires.stands in omega (arith, c.requires.log_len_bound)

pub offer-begins-requires-clause-le_p : goal.offer-begins-requires-clause-le_p
offer-begins-requires-clause-le_p c = placed c.requires.stands

pub returns-then-is_begin : goal.returns-then-is_begin
returns-then-is_begin c =
    let r = c.requires in
    begin-in r.met r.stands r.gathered c.offer-begins.new.a c.offer-begins.result (sym (view-kind _ _ r.v_value) ∙ eqb-true _ _ (sym c.is_begin.ensures ∙ c.if-is_begin.true)) c.offer-begins.ensures

pub overflow_cast-v-then-is_end : goal.overflow_cast-v-then-is_end
overflow_cast-v-then-is_end c = let k = placed c.requires.stands in omega (arith, c.requires.log_len_bound)

pub offer-ends-requires-clause-le_p : goal.offer-ends-requires-clause-le_p
offer-ends-requires-clause-le_p c = placed c.requires.stands

pub returns-then-is_end : goal.returns-then-is_end
returns-then-is_end c =
    let r = c.requires in
    end-in r.met r.stands r.gathered c.offer-ends.new.a c.offer-ends.result
    (ap (λ (x : ℕ). either (eqb x commit) (eqb x rollback)) (sym (view-kind _ _ r.v_value)) ∙ sym c.is_end.ensures ∙ c.if-is_end.true) c.offer-ends.ensures

pub returns : goal.returns
returns c =
    let r = c.requires in
    let k = view-kind _ _ r.v_value in
    other-in r.met r.stands r.gathered (λ e. eqb-false _ _ (sym c.is_begin.ensures ∙ c.if-is_begin.false) (k ∙ e))
    (ap (λ (x : ℕ). either (eqb x commit) (eqb x rollback)) (sym k) ∙ sym c.is_end.ensures ∙ c.if-is_end.false)
