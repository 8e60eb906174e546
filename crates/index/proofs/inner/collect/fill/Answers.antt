use Rattle.std.proofs.Common.{get_or, refl, ◌∙◌, arith}
use Rattle.index.proofs.Counting.{room_at, has-at}
use Rattle.index.proofs.Collecting.{lowered_none, filled_next}
use Rattle.index.proofs.inner.collect.fill.Goals as goal

pub loop-p-init : goal.loop-p-init
loop-p-init c = (refl, omega arith, lowered_none _ _ (omega arith))

pub offer-held-requires-clause-le_p : goal.offer-held-requires-clause-le_p
offer-held-requires-clause-le_p c =
    let l = c.args.places.now in
    let i = c.loop-p.p-index in
    (c.requires.places.real (get_or l i 0) (has-at l i c.loop-p-test.true), room_at c.requires.places i c.loop-p-test.true)

pub loop-p-preserved : goal.loop-p-preserved
loop-p-preserved c =
    let o = c.offer-held in
    (o.auto.a ∙ c.loop-p.invariant.0, o.ensures.0, filled_next c.args.places.now c.loop-p.p-index c.loop-p-test.true c.loop-p.invariant.2 o.ensures.1)
