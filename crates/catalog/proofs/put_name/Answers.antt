use Rattle.catalog.proofs.Writing.{name-stored}
use Rattle.catalog.proofs.put_name.Goals as goal

pub returns : goal.returns
returns c = name-stored c.args.area.now _ _ c.args.name.now c.args.at c.requires.1 c.put_u8.ensures c.copy_in.ensures
