use Rattle.std.proofs.Common.{◌∙◌, arith}
use borrow.Author.Tests.{ne_eqb}
use Rattle.intake.proofs.Halves.{mark-other, mark-same}
use Rattle.intake.proofs.orders.has_mark.Goals as goal

pub returns-then-u64_at-low : goal.returns-then-u64_at-low
returns-then-u64_at-low c =
    let a = c.args in
    mark-same a.pages.now a.at a.low a.high c.u64_at.result c.u64_at.ensures (omega arith) (omega arith) c.u64_at-then-u64_at-low.result c.u64_at-then-u64_at-low.ensures c.if-u64_at-low.true

pub returns-else-u64_at-low : goal.returns-else-u64_at-low
returns-else-u64_at-low c =
    let a = c.args in
    ne_eqb c.u64_at.result a.low c.if-u64_at-low.false ∙ mark-other a.pages.now a.at a.low a.high c.u64_at.result c.u64_at.ensures (omega arith) (omega arith) c.if-u64_at-low.false
