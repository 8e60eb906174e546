use Rattle.std.proofs.Common.{◌∙◌, arith}
use Rattle.page.proofs.Listing.{page-other, page-data}
use Rattle.page.proofs.ListedRows.{none-cancelled}
use Rattle.page.proofs.rows.row_on.Goals as goal

pub returns-then-kind-ne-DATA_TYPE : goal.returns-then-kind-ne-DATA_TYPE
returns-then-kind-ne-DATA_TYPE c = page-other _ _ _ _ (omega arith)

pub row_of-requires-clause-none_cancelled : goal.row_of-requires-clause-none_cancelled
row_of-requires-clause-none_cancelled c = λ e. none-cancelled c.args.index c.args.page.now (omega arith) (c.requires.page_value e)

pub returns : goal.returns
returns c = c.row_of.ensures ∙ page-data _ _ _ _ (omega arith)
