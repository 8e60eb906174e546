use Rattle.std.proofs.Common.{refl}
use Rattle.catalog.proofs.Writing.{row-stored}
use Rattle.catalog.proofs.put_row.Goals as goal

pub returns : goal.returns
returns c =
    let a = c.args in
    row-stored a.area.now a.schema.now a.name.now a.table a.root a.layout a.version c.requires.2 _ _ _ _ _ _ _ _ refl refl c.put_u32.ensures c.put_u64.ensures c.put_name.ensures c.put_name-2.ensures c.put_u8.ensures c.put_u64-2.ensures
