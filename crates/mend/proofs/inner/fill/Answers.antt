-- Each slot is packed in front of those behind it.
use Rattle.std.proofs.Common.{arith, refl, ◌∙◌}
use Rattle.page.proofs.Packing.{packing-none}
use Rattle.mend.proofs.Filling.{fill-room, fill-next, fill-all}
use Rattle.mend.proofs.inner.fill.Goals as goal

pub loop-k-init : goal.loop-k-init
loop-k-init c = (refl, rw c.requires.work_value (packing-none _))

pub put_image-top-requires-clause-work_len : goal.put_image-top-requires-clause-work_len
put_image-top-requires-clause-work_len c =
    let s = c.args.slots.now in
    fill-room s.log.now s.page.now s.i c.args.n c.requires.n_value c.requires.fits c.loop-k.invariant.1 c.loop-k-test.true c.image-m.ensures.stood

pub loop-k-preserved : goal.loop-k-preserved
loop-k-preserved c =
    let s = c.args.slots.now in
    let p = c.put_image-top in (
      p.auto.work ∙ c.loop-k.invariant.0,
      fill-next s.log.now s.page.now s.i c.args.n c.requires.n_value c.requires.fits c.loop-k.invariant.1 c.loop-k-test.true c.image-m.ensures.stood _ _ p.auto.work p.ensures.value p.ensures.work_after,
    )

pub returns-clause-value : goal.returns-clause-value
returns-clause-value c =
    let s = c.args.slots.now in
    (fill-all s.log.now s.page.now s.i c.args.n c.requires.n_value (omega arith) c.loop-k.invariant.1).0

pub returns-clause-work_after : goal.returns-clause-work_after
returns-clause-work_after c =
    let s = c.args.slots.now in
    (fill-all s.log.now s.page.now s.i c.args.n c.requires.n_value (omega arith) c.loop-k.invariant.1).1
