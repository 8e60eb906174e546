use mathlib.Core.Path.{ap, ◌∙◌}
use native.Mathlib.Omega.{arith}
use Rattle.refusals.specs.Refusal.{number_of}
use Rattle.summary.specs.Summary.{edition_rule}
use Rattle.refusals.proofs.Told.{handed-on}
use Rattle.summary.proofs.Places.{rule-unread, broken-at, rule-kept}
use Rattle.summary.proofs.RuleLaws.{edition-other, edition-kept}
use Rattle.summary.proofs.reader.edition.Goals as goal

pub returns-in_err-n : goal.returns-in_err-n
returns-in_err-n c = handed-on _ _ c.from_residual.ensures.1 ∙ rule-unread edition_rule c.args.file.now 0 _ c.in_err-n.ensures

pub returns-then-n-ne-EDITION : goal.returns-then-n-ne-EDITION
returns-then-n-ne-EDITION c =
    broken-at edition_rule c.args.file.now 0 c.in_ok-n.n c.in_ok-n.ensures c.at.result 30 (ap number_of c.at.ensures.why) c.at.ensures.place (edition-other c.in_ok-n.n.value c.if-n-ne-EDITION.true) (λ z. omega arith)

pub returns : goal.returns
returns c = rule-kept edition_rule c.args.file.now 0 c.in_ok-n.n c.in_ok-n.ensures (edition-kept c.in_ok-n.n.value c.if-n-ne-EDITION.false)
