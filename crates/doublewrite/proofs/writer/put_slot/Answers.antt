use Rattle.doublewrite.proofs.Writing.{slot-stored}
use Rattle.doublewrite.proofs.writer.put_slot.Goals as goal

pub returns : goal.returns
returns c =
    slot-stored c.args.area.now _ _ c.args.pages.now _ c.args.k c.args.i c.slot_place-at.result c.slot_place-at.ensures c.requires.0 c.requires.1
    c.page_at.ensures.bytes c.put_u64.ensures c.copy_in.ensures
