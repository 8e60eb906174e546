use Rattle.page.specs.Writer.{head_of}
use Rattle.page.proofs.Pasting.{sealed-stored}
use Rattle.page.proofs.inner.seal.Goals as goal

pub returns : goal.returns
returns c =
    let r = c.requires in
    sealed-stored c.args.work.now _ _ (head_of c.args.h c.args.reserved.now) c.args.count c.args.top _ r.0 r.1 c.checksum-crc.ensures c.put_front.ensures c.put_back.ensures
