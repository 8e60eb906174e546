use Rattle.page.proofs.Pasting.{back-stored}
use Rattle.page.proofs.writer.put_back.Goals as goal

pub returns : goal.returns
returns c =
    back-stored c.args.work.now c.requires.0 c.args.id.0 c.args.lsn.0 c.args.count c.args.top c.args.reserved.now _ _ _ _ _
    c.requires.3 c.put_u64.ensures c.put_u64-2.ensures c.put_u16.ensures c.put_u16-2.ensures c.copy_in.ensures
