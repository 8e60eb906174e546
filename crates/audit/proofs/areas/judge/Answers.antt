-- Each refusal in its turn, then what comparing finds.
use Rattle.std.proofs.Common.{ap, sym, ◌∙◌}
use Rattle.refusals.specs.declared.Verdict.{Verdict}
use Rattle.refusals.proofs.Told.{refused-some}
use Rattle.audit.proofs.Pagewise.{judge-refused, judge-lengths, judge-compared, faultless}
use Rattle.audit.proofs.areas.judge.Goals as goal

pub returns-in-Err : goal.returns-in-Err
returns-in-Err c = c.refused.ensures ∙ rw c.number.ensures (judge-refused _ _ _ _ _ _ _ c.in-Err.ensures.value (refused-some c.in-Err.e))

pub returns-then-before-after : goal.returns-then-before-after
returns-then-before-after c =
    c.refused-then-before-after.ensures ∙ rw c.number-then-before-after.ensures (judge-lengths _ _ _ _ _ _ (sym (ap (λ (v : Verdict). v.number) c.in_default.ensures.value)) c.if-before-after.true)

pub compare-requires-clause-faultless : goal.compare-requires-clause-faultless
compare-requires-clause-faultless c = faultless _ _ _ _ c.args.after.now c.args.first (sym (ap (λ (v : Verdict). v.number) c.in_default.ensures.value))

pub returns : goal.returns
returns c = c.compare.ensures ∙ judge-compared _ _ _ _ _ _ (sym (ap (λ (v : Verdict). v.number) c.in_default.ensures.value)) c.if-before-after.false
