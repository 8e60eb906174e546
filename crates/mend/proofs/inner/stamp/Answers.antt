-- The two stores, of which the second is of one byte.
use Rattle.mend.proofs.Stamping.{stamp-stored}
use Rattle.mend.proofs.inner.stamp.Goals as goal

pub returns : goal.returns
returns c = stamp-stored c.args.work.now _ c.args.at c.args.x c.requires c.put_u64.auto.s c.put_u64.ensures
