use Rattle.std.proofs.Common.{arith, sym, ◌∙◌}
use borrow.Author.Tests.{eqb-true, eqb-false}
use Rattle.wal.proofs.Known.{behind-found, behind-stops}
use Rattle.states.proofs.Back.{state-none, found-own, found-other}
use Rattle.states.proofs.inner.look_back.Goals as goal

pub returns-then-eq : goal.returns-then-eq
returns-then-eq c =
    let k = behind-found c.loop-v.invariant.0 c.in-Some.ensures in
    c.state_after.ensures ∙ found-own k _ (eqb-true _ _ (sym c.if-eq.ensures)) ∙ c.loop-v.invariant.1

pub loop-v-smaller : goal.loop-v-smaller
loop-v-smaller c =
    let b = (behind-found c.loop-v.invariant.0 c.in-Some.ensures).back in
    omega (arith, b.is, b.low)

pub loop-v-preserved : goal.loop-v-preserved
loop-v-preserved c =
    let k = behind-found c.loop-v.invariant.0 c.in-Some.ensures in
    (k.back.met, found-other k _ (eqb-false _ _ (sym c.if-eq.ensures)) ∙ c.loop-v.invariant.1)

pub returns : goal.returns
returns c = sym (sym c.loop-v.invariant.1 ∙ state-none _ _ c.loop-v.invariant.0 (behind-stops _ _ c.in_default.ensures))
