use Rattle.std.proofs.Common.{arith}
use Rattle.page.specs.Layout.{pages_in}
use Rattle.doublewrite.proofs.Listed.{rise-each}
use Rattle.doublewrite.proofs.Writing.{slots-stored}
use Rattle.doublewrite.proofs.writer.put_slots.Goals as goal

pub put_slot-requires : goal.put_slot-requires
put_slot-requires c =
    (omega (arith, c.requires.2), (rise-each 0 (pages_in c.args.pages.now) c.args.list.now c.requires.0 c.loop-k.k (omega arith)).1)

pub loop-k-preserved : goal.loop-k-preserved
loop-k-preserved c =
    slots-stored c.args.area.now c.loop-k.area _ c.args.pages.now c.args.list.now c.loop-k.k (λ k h. (rise-each 0 (pages_in c.args.pages.now) c.args.list.now c.requires.0 k h).1)
    (omega arith) c.requires.2 c.loop-k.invariant c.put_slot.ensures
