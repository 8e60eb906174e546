use Rattle.catalog.proofs.Searching.{unreadable, by-id}
use Rattle.catalog.proofs.search.names_table.Goals as goal

pub returns-in-Ok : goal.returns-in-Ok
returns-in-Ok c = by-id c.args.table c.args.pages.now c.args.row c.requires c.in-Ok.found c.in-Ok.ensures

pub returns-in-Err : goal.returns-in-Err
returns-in-Err c = unreadable c.args.table c.args.pages.now c.args.row c.requires c.in-Err.field-0 c.in-Err.ensures
