use mathlib.Core.Path.{◌∙◌}
use Rattle.summary.specs.Number.{any_number}
use Rattle.summary.specs.Summary.{edition_rule, lsn_of, count_of, summary_in}
use Rattle.refusals.proofs.Told.{handed-on}
use Rattle.summary.proofs.Threes.{first-refused, second-refused, third-refused, all-taken}
use Rattle.summary.proofs.reader.head.Goals as goal

pub returns-in_err-e : goal.returns-in_err-e
returns-in_err-e c =
    handed-on _ _ c.from_residual.ensures.1
    ∙ first-refused edition_rule (λ n. any_number) any_number c.args.file.now 0 (summary_in c.args.file.now) _ c.in_err-e.ensures

pub returns-in_err-l : goal.returns-in_err-l
returns-in_err-l c =
    handed-on _ _ c.from_residual-in_err-l.ensures.1
    ∙ second-refused edition_rule (λ n. any_number) any_number c.args.file.now 0 (summary_in c.args.file.now) c.in_ok-e.e c.in_ok-e.ensures _ c.in_err-l.ensures

pub returns-in_err-c : goal.returns-in_err-c
returns-in_err-c c =
    handed-on _ _ c.from_residual-in_err-c.ensures.1
    ∙ third-refused edition_rule (λ n. any_number) any_number c.args.file.now 0 (summary_in c.args.file.now) c.in_ok-e.e c.in_ok-e.ensures c.in_ok-l.l c.in_ok-l.ensures _ c.in_err-c.ensures

pub returns : goal.returns
unfolding lsn_of count_of
returns c =
    let t = all-taken edition_rule (λ n. any_number) any_number c.args.file.now 0 (summary_in c.args.file.now) c.in_ok-e.e c.in_ok-e.ensures c.in_ok-l.l c.in_ok-l.ensures c.in_ok-c.c c.in_ok-c.ensures in
    rw (t.value₂, t.value₃, t.after₃) t.answer
