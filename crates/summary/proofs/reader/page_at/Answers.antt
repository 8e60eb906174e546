use mathlib.Core.Path.{ap, ◌∙◌}
use native.Mathlib.Omega.{arith}
use Rattle.refusals.specs.Refusal.{number_of}
use Rattle.summary.specs.Summary.{page_rule}
use Rattle.refusals.proofs.Told.{handed-on}
use Rattle.summary.proofs.Places.{rule-unread, broken-at, rule-kept}
use Rattle.summary.proofs.RuleLaws.{page-high, page-falls, page-kept}
use Rattle.summary.proofs.reader.page_at.Goals as goal

pub returns-in_err-n : goal.returns-in_err-n
returns-in_err-n c = handed-on _ _ c.from_residual.ensures.1 ∙ rule-unread (page_rule c.args.page) c.args.file.now c.args.at _ c.in_err-n.ensures

pub returns-then-n : goal.returns-then-n
returns-then-n c =
    broken-at (page_rule c.args.page) c.args.file.now c.args.at c.in_ok-n.n c.in_ok-n.ensures c.at.result 31 (ap number_of c.at.ensures.why) c.at.ensures.place
    (page-high c.args.page c.in_ok-n.n.value c.if-n.true)
    (λ z. omega arith)

pub returns-then-n-page : goal.returns-then-n-page
returns-then-n-page c =
    broken-at (page_rule c.args.page) c.args.file.now c.args.at c.in_ok-n.n c.in_ok-n.ensures c.at-then-n-page.result 32 (ap number_of c.at-then-n-page.ensures.why) c.at-then-n-page.ensures.place
    (page-falls c.args.page c.in_ok-n.n.value c.if-n.false c.if-n-page.true)
    (λ z. omega arith)

pub returns : goal.returns
returns c = rule-kept (page_rule c.args.page) c.args.file.now c.args.at c.in_ok-n.n c.in_ok-n.ensures (page-kept c.args.page c.in_ok-n.n.value c.if-n.false c.if-n-page.false)
