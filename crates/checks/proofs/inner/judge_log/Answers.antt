-- The header's fault, a clash before the walk's stop, or what the walk tells.
use Rattle.std.proofs.Common.{arith, ap, sym, ◌∙◌}
use Rattle.endian.specs.Numbers.{Bytes}
use Rattle.refusals.specs.Refusal.{number_of}
use Rattle.refusals.specs.Verdict.{told}
use Rattle.refusals.proofs.Told.{some-number}
use Rattle.checks.proofs.LogLaws.{header-fits, sound, judged-header, judged-clash, judged-walk, measured-all}
use Rattle.checks.proofs.inner.judge_log.Goals as goal

pub returns-in-Err : goal.returns-in-Err
returns-in-Err c =
    record { tells = judged-header _ _ c.at.result _ (ap number_of c.at.ensures.why) c.at.ensures.place (some-number c.in-Err.refusal) c.in-Err.ensures; measured = tt }

pub walk-walked-requires-clause-log_len_bound : goal.walk-walked-requires-clause-log_len_bound
walk-walked-requires-clause-log_len_bound c = omega (arith, header-fits _ (sym c.in_default.ensures))

pub measure-beyond-requires-clause-met : goal.measure-beyond-requires-clause-met
measure-beyond-requires-clause-met c = rw c.stop_of-stop.ensures c.walk-walked.ensures.met

pub measure-beyond-requires-clause-sound : goal.measure-beyond-requires-clause-sound
measure-beyond-requires-clause-sound c = rw c.stop_of-stop.ensures (sound c.walk-walked.ensures)

pub measure-beyond-requires-clause-n_bound : goal.measure-beyond-requires-clause-n_bound
measure-beyond-requires-clause-n_bound c = (c.requires, header-fits _ (sym c.in_default.ensures))

pub clash-at-requires-clause-n_bound : goal.clash-at-requires-clause-n_bound
clash-at-requires-clause-n_bound c = (c.requires, header-fits _ (sym c.in_default.ensures))

pub clash-at-requires-clause-met : goal.clash-at-requires-clause-met
clash-at-requires-clause-met c = rw c.stop_of-stop.ensures c.walk-walked.ensures.met

pub clash-at-requires-clause-sound : goal.clash-at-requires-clause-sound
clash-at-requires-clause-sound c = rw c.stop_of-stop.ensures (sound c.walk-walked.ensures)

pub returns-then-at-stop : goal.returns-then-at-stop
returns-then-at-stop c =
    let b : Bytes c.args.log.now = record { at = λ k. (c.type_inv.log k).fits } in
    record {
      tells = judged-clash (sym c.in_default.ensures) c.walk-walked.ensures b (rw c.stop_of-stop.ensures at c.clash-at.ensures) c.at-then-at-stop.result (ap number_of c.at-then-at-stop.ensures.why) c.at-then-at-stop.ensures.place (omega (arith, c.stop_of-stop.ensures));
      measured = tt;
    }

pub returns-in-Ok : goal.returns-in-Ok
returns-in-Ok c =
    let b : Bytes c.args.log.now = record { at = λ k. (c.type_inv.log k).fits } in
    let m = c.measure-beyond.ensures in
    let s = c.stop_of-stop.ensures in
    record {
      tells = ap told (sym c.in-Ok.is) ∙ judged-walk (sym c.in_default.ensures) c.walk-walked.ensures b (rw s at c.clash-at.ensures) (omega (arith, s));
      measured = measured-all c.walk-walked.ensures c.in-Ok.is (rw s at m.starts) (rw s at m.lasts) (rw s at m.lists) (rw s at m.first_beyond);
    }

pub returns-in-Err-walked : goal.returns-in-Err-walked
returns-in-Err-walked c =
    let b : Bytes c.args.log.now = record { at = λ k. (c.type_inv.log k).fits } in
    let s = c.stop_of-stop.ensures in
    record {
      tells = ap told (sym c.in-Err-walked.is) ∙ judged-walk (sym c.in_default.ensures) c.walk-walked.ensures b (rw s at c.clash-at.ensures) (omega (arith, s));
      measured = tt;
    }
