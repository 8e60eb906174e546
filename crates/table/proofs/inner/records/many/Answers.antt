use Rattle.std.proofs.Common.{sym}
use Rattle.table.proofs.Stages.{due-none, due_all}
use Rattle.table.proofs.inner.records.many.Goals as goal

pub returns-then-a-ne0 : goal.returns-then-a-ne0
returns-then-a-ne0 c = sym (due-none _ c.if-a-ne0.true)

pub returns : goal.returns
returns c = sym (due_all _ c.if-a-ne0.false)
