-- Refused, nothing is written; else pages are mended, and counts are those of the entries.
use Rattle.std.proofs.Common.{◌≡◌, arith, ap, sym, ◌∙◌, []}
use Rattle.refusals.specs.declared.Verdict.{Verdict}
use Rattle.rules.specs.Order.{full_at}
use Rattle.recovery.proofs.Outcome.{sure, run-refused, run-done}
use Rattle.recovery.proofs.tableless.run.Goals as goal

pub invariant_of-changes : goal.invariant_of-changes
invariant_of-changes c =
    let s = sure _ _ _ _ _ (sym (ap (λ (v : Verdict). v.number) c.in-Ok.ensures.tells)) in
    let a = c.in-Ok.ensures.accepted in
    record { small = (s.few, s.small); ordered = s.ordered; measured = a.next; listed = a.listed }

pub mend_all-rewritten-requires-clause-starts : goal.mend_all-rewritten-requires-clause-starts
mend_all-rewritten-requires-clause-starts c = c.in-Ok.ensures.accepted.begin

pub mend_all-rewritten-requires-clause-lasts : goal.mend_all-rewritten-requires-clause-lasts
mend_all-rewritten-requires-clause-lasts c = c.in-Ok.ensures.accepted.touched

pub mend_all-rewritten-requires-clause-touched : goal.mend_all-rewritten-requires-clause-touched
mend_all-rewritten-requires-clause-touched c = (sure _ _ _ _ _ (sym (ap (λ (v : Verdict). v.number) c.in-Ok.ensures.tells))).touched

pub mend_all-rewritten-requires-clause-fitting : goal.mend_all-rewritten-requires-clause-fitting
mend_all-rewritten-requires-clause-fitting c = (sure _ _ _ _ _ (sym (ap (λ (v : Verdict). v.number) c.in-Ok.ensures.tells))).fitting

pub mend_all-rewritten-requires-clause-n_value : goal.mend_all-rewritten-requires-clause-n_value
mend_all-rewritten-requires-clause-n_value c = (sure _ _ _ _ _ (sym (ap (λ (v : Verdict). v.number) c.in-Ok.ensures.tells))).size

pub ending_at-requires-clause-undamaged : goal.ending_at-requires-clause-undamaged
ending_at-requires-clause-undamaged c = (sure _ _ _ _ _ (sym (ap (λ (v : Verdict). v.number) c.in-Ok.ensures.tells))).undamaged

pub returns-clause-value : goal.returns-clause-value
returns-clause-value c =
    let a = c.in-Ok.ensures.accepted in
    c.done_by.ensures
    ∙ rw (a.counts, c.mend_all-rewritten.ensures.value, c.number-ending.ensures ∙ c.ending_at.ensures) (run-done (full_at c.args.records) c.args.magic c.args.floor.0 c.args.pages.now c.args.log.now [] a (sym (ap (λ (v : Verdict). v.number) c.in-Ok.ensures.tells))).0
