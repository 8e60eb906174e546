use mathlib.Core.Path.{sym}
use Rattle.page.proofs.RowLists.{page-none}
use Rattle.page.proofs.inner.note.Goals as goal

pub returns-in-None : goal.returns-in-None
returns-in-None c = λ e. page-none _ _ _ (sym c.in-None.ensures)
