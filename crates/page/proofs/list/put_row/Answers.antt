use Rattle.std.proofs.Common.{arith}
use Rattle.page.proofs.RowLists.{row-stored}
use Rattle.page.proofs.list.put_row.Goals as goal

pub returns : goal.returns
returns c = row-stored c.args.out.now c.copy_from_slice.new.self c.args.at _ c.args.row (omega arith) c.copy_from_slice.ensures.after
