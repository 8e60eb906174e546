use Rattle.std.proofs.Common.{arith, sym, ◌∙◌}
use borrow.Author.Tests.{eqb-true, eqb-false}
use Rattle.fates.proofs.Turns.{step, still, arrived}
use Rattle.fates.proofs.Endings.{found-here, passed-here, other-here, ending-none}
use Rattle.fates.proofs.inner.look.Goals as goal
use Rattle.fates.proofs.inner.look.Goals.{then-eq+in_default, else-eq}

pub standing-v-requires : goal.standing-v-requires
standing-v-requires c = (still c.loop-at.invariant.met c.requires.log_value c.loop-at-test.true).stands

pub returns-in-Some : goal.returns-in-Some
returns-in-Some c =
    let k = step c.loop-at.invariant.met c.requires.log_value c.loop-at-test.true c.standing-v.result c.standing-v.ensures in
    found-here _ c.loop-at.at _ k.stands c.standing-v.result c.standing-v.ensures (eqb-true _ _ (sym c.eq.ensures ∙ c.if-eq.true)) c.in-Some.outcome c.in-Some.ensures ∙ c.loop-at.invariant.same

pub overflow_add-at : goal.overflow_add-at
overflow_add-at c = let k = step c.loop-at.invariant.met c.requires.log_value c.loop-at-test.true c.standing-v.result c.standing-v.ensures in omega (arith, k.next)

pub loop-at-smaller : goal.loop-at-smaller
loop-at-smaller c = let k = step c.loop-at.invariant.met c.requires.log_value c.loop-at-test.true c.standing-v.result c.standing-v.ensures in omega (arith, k.next, k.low)

pub loop-at-preserved : goal.loop-at-preserved
loop-at-preserved c =
    let l = c.loop-at in
    let v = c.standing-v in
    let k = step l.invariant.met c.requires.log_value c.loop-at-test.true v.result v.ensures in
    record {
      met = k.met;
      same = rw k.long
          (elim c.if-eq.branch [
            | then-eq+in_default w ↦ sym (passed-here _ l.at _ k.stands v.result v.ensures (eqb-true _ _ (sym c.eq.ensures ∙ w.if-eq.true)) w.in_default.ensures) ∙ l.invariant.same
            | else-eq w ↦ sym (other-here _ l.at _ k.stands v.result v.ensures (eqb-false _ _ (sym c.eq.ensures ∙ w.if-eq.false))) ∙ l.invariant.same
          ]);
    }

pub returns : goal.returns
returns c = ending-none _ _ _ (arrived c.loop-at.invariant.met c.requires.log_value c.loop-at-test.false) ∙ c.loop-at.invariant.same
