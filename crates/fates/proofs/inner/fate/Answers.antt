-- A kept answer is right, and a new one is found by looking forward and is kept.
use Rattle.std.proofs.Common.{arith, sym, ap, ◌∙◌, ◌≤◌, ◌+◌, ◌%◌}
use Rattle.wal.proofs.Prefix.{stands_at}
use Rattle.rules.specs.Recover.{outcome_of}
use Rattle.fates.specs.Fate.{outcome_number}
use Rattle.fates.proofs.Endings.{fate-is, ending-le, outcome-le}
use Rattle.fates.proofs.Answers.{memo-front, kept_at}
use Rattle.fates.proofs.inner.fate.Goals as goal

pub told-requires : goal.told-requires
told-requires c = let k = c.kept.ensures c.if-kept.true in rw (← (c.requires.memo.at (c.args.t.0 % 8192) (omega arith)).is k.0) (outcome-le _ _)

pub told-requires-then-kept-2 : goal.told-requires-then-kept-2
told-requires-then-kept-2 c = let k = c.kept-2.ensures c.if-kept-2.true in rw (← (c.requires.memo.at (c.args.t.0 % 8192 + 8192) (omega arith)).is k.0) (outcome-le _ _)

pub returns-then-kept-2-clause-memo_2 : goal.returns-then-kept-2-clause-memo_2
returns-then-kept-2-clause-memo_2 c = let m = c.requires.memo in rw c.keep.ensures (memo-front _ _ m (m.at (c.args.t.0 % 8192 + 8192) (omega arith)))

pub answer-requires : goal.answer-requires
answer-requires c = let k = stands_at c.requires.stands in omega (arith, k.room, c.requires.log_value.3)

pub returns-clause-value : goal.returns-clause-value
returns-clause-value c = let p = c.requires in c.look-outcome.ensures ∙ sym (fate-is _ p.ordered p.met p.stands p.log_value.1 (omega arith))

pub returns-clause-memo_2 : goal.returns-clause-memo_2
returns-clause-memo_2 c =
    let p = c.requires in
    let q = p.log_value in
    let e = fate-is _ p.ordered p.met p.stands q.1 (omega arith) in
    let few : outcome_number c.look-outcome.result ≤ 2 = rw c.look-outcome.ensures (ending-le _ _) in
    rw (c.keep-2.ensures, c.answer.ensures) (memo-front _ _ p.memo (kept_at _ p.stands (ap (outcome_of _) (sym q.1) ∙ e ∙ sym c.look-outcome.ensures) few))
