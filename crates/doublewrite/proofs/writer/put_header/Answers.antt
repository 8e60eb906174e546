use Rattle.doublewrite.proofs.Writing.{header-stored}
use Rattle.doublewrite.proofs.writer.put_header.Goals as goal

pub returns : goal.returns
returns c = header-stored c.args.area.now _ _ _ c.args.n c.requires c.put_u64.ensures c.put_u32.ensures c.put_u32-2.ensures
