-- The ending that stands at the place is the outcome.
use Rattle.std.proofs.Common.{arith, sym, ap, ◌∙◌}
use borrow.Author.Tests.{eqb-false}
use Rattle.wal.proofs.Prefix.{stands_at}
use Rattle.rules.specs.Recover.{outcome_of}
use Rattle.fates.specs.Fate.{ending_by}
use Rattle.fates.proofs.Answers.{memo-front, kept-some}
use Rattle.fates.proofs.Endings.{ending-told}
use Rattle.fates.proofs.inner.recall.Goals as goal

pub answer-requires : goal.answer-requires
answer-requires c = let k = stands_at c.requires.stands in omega (arith, k.room, c.requires.kind_value.2)

pub returns-in-Some : goal.returns-in-Some
returns-in-Some c =
    let p = c.requires in
    let q = p.kind_value in
    let e = ending-told _ p.ordered p.met p.stands q.1 (eqb-false _ _ (sym c.eq.ensures ∙ c.if-eq.false)) c.in-Some.outcome (c.in-Some.ensures ∙ ap ending_by q.0) in
    rw (c.keep.ensures, c.answer.ensures) (memo-front _ _ p.memo (kept-some c.in-Some.outcome p.stands (ap (outcome_of _) (sym q.1) ∙ e)))
