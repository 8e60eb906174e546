use Rattle.std.proofs.Common.{arith}
use Rattle.page.proofs.Verdicts.{size-rest, size-many}
use Rattle.page.proofs.inner.size_wrong.Goals as goal

pub returns-then-pages-ne0 : goal.returns-then-pages-ne0
returns-then-pages-ne0 c = size-rest _ (omega arith)

pub returns : goal.returns
returns c = size-many _ (omega arith)
