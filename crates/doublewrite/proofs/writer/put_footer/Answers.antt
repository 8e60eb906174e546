use Rattle.doublewrite.proofs.Writing.{footer-stored}
use Rattle.doublewrite.proofs.writer.put_footer.Goals as goal

pub returns : goal.returns
returns c =
    footer-stored c.args.area.now _ _ c.args.n c.slot_place-at.result c.crc32c-crc.result c.slot_place-at.ensures c.requires c.crc32c-crc.ensures c.put_u32.ensures c.put_u32-2.ensures
