use mathlib.Core.Path.{ap, ◌∙◌}
use native.Mathlib.Omega.{arith}
use Rattle.refusals.specs.Refusal.{number_of}
use Rattle.summary.specs.Summary.{length_rule}
use Rattle.refusals.proofs.Told.{handed-on}
use Rattle.summary.proofs.Places.{rule-unread, broken-at, rule-kept}
use Rattle.summary.proofs.RuleLaws.{length-short, length-long, length-kept}
use Rattle.summary.proofs.reader.length_at.Goals as goal

pub returns-in_err-n : goal.returns-in_err-n
returns-in_err-n c = handed-on _ _ c.from_residual.ensures.1 ∙ rule-unread length_rule c.args.file.now c.args.at _ c.in_err-n.ensures

pub returns-then-n : goal.returns-then-n
returns-then-n c =
    broken-at length_rule c.args.file.now c.args.at c.in_ok-n.n c.in_ok-n.ensures c.at.result 31 (ap number_of c.at.ensures.why) c.at.ensures.place (length-short c.in_ok-n.n.value c.if-n.true) (λ z. omega arith)

pub returns-then-n-2 : goal.returns-then-n-2
returns-then-n-2 c =
    broken-at length_rule c.args.file.now c.args.at c.in_ok-n.n c.in_ok-n.ensures c.at-then-n-2.result 31 (ap number_of c.at-then-n-2.ensures.why) c.at-then-n-2.ensures.place
    (length-long c.in_ok-n.n.value c.if-n.false c.if-n-2.true)
    (λ z. omega arith)

pub returns : goal.returns
returns c = rule-kept length_rule c.args.file.now c.args.at c.in_ok-n.n c.in_ok-n.ensures (length-kept c.in_ok-n.n.value c.if-n.false c.if-n-2.false)
