use mathlib.Core.Path.{sym, ap, ◌∙◌}
use Rattle.std.proofs.Common.{arith}
use Rattle.refusals.proofs.Told.{told-on, ok-accepted}
use Rattle.page.specs.Fault.{never_late, page_verdict}
use Rattle.page.proofs.FaultLaws.{sound-good}
use Rattle.page.proofs.Noting.{noted_more}
use Rattle.page.proofs.Verdicts.{page-fine, bad-err, bad-ok, bad-end}
use Rattle.page.proofs.inner.first_bad_noting.Goals as goal

pub returns-in_err-page_verdict-clause-value : goal.returns-in_err-page_verdict-clause-value
returns-in_err-page_verdict-clause-value c =
    let e = c.page_verdict.ensures ∙ ap (page_verdict never_late c.args.magic c.loop-i.i) c.page_at-page.ensures.bytes in
    told-on _ _ c.from_residual.ensures.1 ∙ bad-err _ _ _ _ c.loop-i.i (omega arith) e c.in_err-page_verdict.was ∙ c.loop-i.invariant.rest

-- page i is good
pub note-requires-clause-data_good : goal.note-requires-clause-data_good
note-requires-clause-data_good c =
    let p = c.page_at-page.result.now in
    let f = page-fine never_late c.args.magic c.loop-i.i p (ok-accepted c.page_verdict.ensures c.in_ok-page_verdict.was) in
    (sound-good c.args.magic c.loop-i.i p c.page_at-page.ensures.page_len f.0).data_good

pub loop-i-preserved : goal.loop-i-preserved
loop-i-preserved c =
    let e = c.page_verdict.ensures ∙ ap (page_verdict never_late c.args.magic c.loop-i.i) c.page_at-page.ensures.bytes in
    record {
      rest = bad-ok _ _ _ _ c.loop-i.i (omega arith) e c.in_ok-page_verdict.was ∙ c.loop-i.invariant.rest;
      noted = noted_more _ c.loop-i.notes c.loop-i.i c.note.result (omega arith) c.loop-i.invariant.noted (λ z. rw (← c.page_at-page.ensures.bytes) (c.note.ensures z));
    }

pub returns-clause-value : goal.returns-clause-value
returns-clause-value c = sym (bad-end _ _ _ _ c.loop-i.i (omega arith)) ∙ c.loop-i.invariant.rest
