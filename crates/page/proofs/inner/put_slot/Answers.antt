use Rattle.std.proofs.Common.{arith}
use Rattle.page.proofs.Pasting.{slot-stored}
use Rattle.page.proofs.inner.put_slot.Goals as goal

pub returns-clause-work_after : goal.returns-clause-work_after
returns-clause-work_after c =
    slot-stored c.args.work.now c.args.tuple.now _ _ _ c.args.k c.args.top c.off_of.result (omega arith) c.off_of.ensures c.put_u16.ensures c.put_u16-2.ensures c.copy_in.ensures
