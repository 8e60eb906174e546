use Rattle.std.proofs.Common.{sym, ◌∙◌, arith}
use Rattle.page.specs.Layout.{count_of}
use Rattle.intake.specs.Places.{wide}
use Rattle.intake.proofs.Searching.{first-here, first_next, first-end}
use Rattle.intake.proofs.search.first_slot.Goals as goal

pub returns-then-is_marked : goal.returns-then-is_marked
returns-then-is_marked c =
    let p = c.args.page.now in
    first-here (wide c.args.low c.args.high) p (count_of p) c.loop-k.k (omega (arith, c.loop-k-test.true, c.count-k-end.ensures.0)) (sym c.is_marked.ensures ∙ c.if-is_marked.true) ∙ c.loop-k.invariant

pub loop-k-preserved : goal.loop-k-preserved
loop-k-preserved c =
    let p = c.args.page.now in
    first_next (wide c.args.low c.args.high) p (count_of p) c.loop-k.k (omega (arith, c.loop-k-test.true, c.count-k-end.ensures.0)) (sym c.is_marked.ensures ∙ c.if-is_marked.false) ∙ c.loop-k.invariant

pub returns : goal.returns
returns c =
    let p = c.args.page.now in
    first-end (wide c.args.low c.args.high) p (count_of p) c.loop-k.k (omega (arith, c.loop-k-test.false, c.count-k-end.ensures.0)) ∙ c.loop-k.invariant
