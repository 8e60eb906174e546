-- Each refusal is the first that holds.
use Rattle.std.proofs.Common.{◌≡◌, arith, refl, ap, sym, ◌∙◌}
use Rattle.refusals.specs.Refusal.{number_of}
use Rattle.refusals.specs.Verdict.{accepted}
use Rattle.refusals.proofs.Told.{refused-at}
use Rattle.order.specs.First.{full_of}
use Rattle.recovery.proofs.JudgeLaws.{judge-size}
use Rattle.recovery.proofs.Judging.{size_is, rises-ok, judged-refused, err-log, err-pages, err-stray, by-tight, now-ordered, now-small, now-touched}
use Rattle.recovery.proofs.judge.judge.Goals as goal

pub returns-then-size_wrong : goal.returns-then-size_wrong
returns-then-size_wrong c =
    record {
      tells = refused-at c.at.result 1 0 (ap number_of c.at.ensures.why) c.at.ensures.place ∙ judge-size _ _ _ _ _ (sym c.size_wrong.ensures ∙ c.if-size_wrong.true);
      accepted = tt;
    }

pub judge_log-requires : goal.judge_log-requires
judge_log-requires c = (size_is _ (sym c.size_wrong.ensures ∙ c.if-size_wrong.false)).1

pub returns-in_err-found : goal.returns-in_err-found
returns-in_err-found c = judged-refused c.from_residual.result _ c.from_residual.ensures.1 (err-log (full_of c.args.records) c.args.magic c.args.floor.0 c.args.pages.now c.args.log.now (sym c.size_wrong.ensures ∙ c.if-size_wrong.false) _ c.in_err-found.ensures.tells)

pub returns-in_err-judge_pages : goal.returns-in_err-judge_pages
returns-in_err-judge_pages c =
    judged-refused c.from_residual-in_err-judge_pages.result _ c.from_residual-in_err-judge_pages.ensures.1 (err-pages (full_of c.args.records) c.args.magic c.args.floor.0 c.args.pages.now c.args.log.now (sym c.size_wrong.ensures ∙ c.if-size_wrong.false) c.in_ok-found.ensures.tells c.in_ok-found.ensures.measured _ c.in_err-judge_pages.ensures)

pub stray-requires-clause-log_value : goal.stray-requires-clause-log_value
stray-requires-clause-log_value c = (sym c.in_ok-found.ensures.measured.end, refl, (size_is _ (sym c.size_wrong.ensures ∙ c.if-size_wrong.false)).1)

pub stray-requires-clause-sound : goal.stray-requires-clause-sound
stray-requires-clause-sound c = rw c.in_ok-found.ensures.measured.end (rises-ok _ (now-ordered (full_of c.args.records) c.args.magic c.args.floor.0 c.args.pages.now c.args.log.now (sym c.size_wrong.ensures ∙ c.if-size_wrong.false) c.in_ok-found.ensures.tells c.in_ok-found.ensures.measured))

pub stray-requires-clause-first_beyond : goal.stray-requires-clause-first_beyond
stray-requires-clause-first_beyond c = rw c.in_ok-found.ensures.measured.end c.in_ok-found.ensures.measured.beyond

pub returns-in_err-stray : goal.returns-in_err-stray
returns-in_err-stray c =
    judged-refused c.from_residual-in_err-stray.result _ c.from_residual-in_err-stray.ensures.1 (err-stray (full_of c.args.records) c.args.magic c.args.floor.0 c.args.pages.now c.args.log.now (sym c.size_wrong.ensures ∙ c.if-size_wrong.false) c.in_ok-found.ensures.tells c.in_ok-found.ensures.measured c.in_ok-judge_pages.ensures _ c.in_err-stray.ensures)

pub gather-tally-requires-clause-ordered : goal.gather-tally-requires-clause-ordered
gather-tally-requires-clause-ordered c = now-ordered (full_of c.args.records) c.args.magic c.args.floor.0 c.args.pages.now c.args.log.now (sym c.size_wrong.ensures ∙ c.if-size_wrong.false) c.in_ok-found.ensures.tells c.in_ok-found.ensures.measured

pub gather-tally-requires-clause-log_value : goal.gather-tally-requires-clause-log_value
gather-tally-requires-clause-log_value c =
    (sym c.in_ok-found.ensures.measured.end, now-small (full_of c.args.records) c.args.magic c.args.floor.0 c.args.pages.now c.args.log.now (sym c.size_wrong.ensures ∙ c.if-size_wrong.false) c.in_ok-found.ensures.tells c.in_ok-found.ensures.measured, (size_is _ (sym c.size_wrong.ensures ∙ c.if-size_wrong.false)).1)

pub invariant_of-changes : goal.invariant_of-changes
invariant_of-changes c =
    let m = c.in_ok-found.ensures.measured in
    let g = c.gather-tally.ensures in
    record {
      small = ((size_is _ (sym c.size_wrong.ensures ∙ c.if-size_wrong.false)).1, now-small (full_of c.args.records) c.args.magic c.args.floor.0 c.args.pages.now c.args.log.now (sym c.size_wrong.ensures ∙ c.if-size_wrong.false) c.in_ok-found.ensures.tells c.in_ok-found.ensures.measured);
      ordered = now-ordered (full_of c.args.records) c.args.magic c.args.floor.0 c.args.pages.now c.args.log.now (sym c.size_wrong.ensures ∙ c.if-size_wrong.false) c.in_ok-found.ensures.tells c.in_ok-found.ensures.measured;
      measured = m.next;
      listed = g.listed;
    }

pub tight-requires-clause-starts : goal.tight-requires-clause-starts
tight-requires-clause-starts c = c.in_ok-found.ensures.measured.begin

pub tight-requires-clause-touched : goal.tight-requires-clause-touched
tight-requires-clause-touched c = now-touched (full_of c.args.records) c.args.magic c.args.floor.0 c.args.pages.now c.args.log.now (sym c.size_wrong.ensures ∙ c.if-size_wrong.false) c.in_ok-found.ensures.tells c.in_ok-found.ensures.measured c.in_ok-judge_pages.ensures c.in_ok-stray.ensures

pub returns-in_err-tight : goal.returns-in_err-tight
returns-in_err-tight c =
    judged-refused c.from_residual-in_err-tight.result _ c.from_residual-in_err-tight.ensures.1 (by-tight (full_of c.args.records) c.args.magic c.args.floor.0 c.args.pages.now c.args.log.now (sym c.size_wrong.ensures ∙ c.if-size_wrong.false) c.in_ok-found.ensures.tells c.in_ok-found.ensures.measured c.in_ok-judge_pages.ensures c.in_ok-stray.ensures _ c.in_err-tight.ensures)

pub returns : goal.returns
returns c =
    let m = c.in_ok-found.ensures.measured in
    let g = c.gather-tally.ensures in
    record {
      tells = by-tight (full_of c.args.records) c.args.magic c.args.floor.0 c.args.pages.now c.args.log.now (sym c.size_wrong.ensures ∙ c.if-size_wrong.false) c.in_ok-found.ensures.tells c.in_ok-found.ensures.measured c.in_ok-judge_pages.ensures c.in_ok-stray.ensures accepted c.in_ok-tight.ensures;
      accepted = record { end = m.end; last = m.last; begin = m.begin; touched = m.touched; next = m.next; listed = g.listed; counts = g.value };
    }
