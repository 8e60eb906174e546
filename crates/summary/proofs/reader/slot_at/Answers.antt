use mathlib.Core.Path.{ap, ◌∙◌}
use native.Mathlib.Omega.{arith}
use Rattle.refusals.specs.Refusal.{number_of}
use Rattle.summary.specs.Summary.{slot_rule}
use Rattle.refusals.proofs.Told.{handed-on}
use Rattle.summary.proofs.Places.{rule-unread, broken-at, rule-kept}
use Rattle.summary.proofs.RuleLaws.{slot-high, slot-other, slot-stays, slot-rises}
use Rattle.summary.proofs.reader.slot_at.Goals as goal
use Rattle.summary.proofs.reader.slot_at.Goals.{else-own-page-via-then-own-page+else-n-slot, else-own-page-via-else-own-page}

pub returns-in_err-n : goal.returns-in_err-n
returns-in_err-n c = handed-on _ _ c.from_residual.ensures.1 ∙ rule-unread (slot_rule c.args.page c.args.slot c.args.own) c.args.file.now c.args.at _ c.in_err-n.ensures

pub returns-then-n : goal.returns-then-n
returns-then-n c =
    broken-at (slot_rule c.args.page c.args.slot c.args.own) c.args.file.now c.args.at c.in_ok-n.n c.in_ok-n.ensures c.at.result 31 (ap number_of c.at.ensures.why) c.at.ensures.place
    (slot-high c.args.page c.args.slot c.args.own c.in_ok-n.n.value c.if-n.true)
    (λ z. omega arith)

pub returns-then-n-slot : goal.returns-then-n-slot
returns-then-n-slot c =
    broken-at (slot_rule c.args.page c.args.slot c.args.own) c.args.file.now c.args.at c.in_ok-n.n c.in_ok-n.ensures c.at-then-n-slot.result 32 (ap number_of c.at-then-n-slot.ensures.why) c.at-then-n-slot.ensures.place
    (slot-stays c.args.page c.args.slot c.args.own c.in_ok-n.n.value c.if-n.false c.if-own-page.true c.if-n-slot.true)
    (λ z. omega arith)

pub returns : goal.returns
returns c =
    rule-kept (slot_rule c.args.page c.args.slot c.args.own) c.args.file.now c.args.at c.in_ok-n.n c.in_ok-n.ensures (elim c.else-own-page.branch [
      | else-own-page-via-then-own-page+else-n-slot w ↦ slot-rises c.args.page c.args.slot c.args.own c.in_ok-n.n.value c.if-n.false w.if-own-page.true w.if-n-slot.false
      | else-own-page-via-else-own-page w ↦ slot-other c.args.page c.args.slot c.args.own c.in_ok-n.n.value c.if-n.false w.if-own-page.false
    ])
