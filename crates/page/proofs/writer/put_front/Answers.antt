use Rattle.page.proofs.Pasting.{front-stored}
use Rattle.page.proofs.writer.put_front.Goals as goal

pub returns : goal.returns
returns c =
    front-stored c.args.work.now c.requires.0 c.args.magic c.args.kind c.args.count c.args.crc _ _ _ _ _
    c.put_u64.ensures c.put_u8.ensures c.put_u8-2.ensures c.put_u16.ensures c.put_u32.ensures
