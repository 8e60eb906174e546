use Rattle.std.proofs.Common.{◌<◌, sym, ◌∙◌, arith}
use Rattle.page.specs.Layout.{count_of}
use Rattle.intake.proofs.Searching.{short-more, short-same, short-end}
use Rattle.intake.proofs.search.short_slots.Goals as goal
use Rattle.intake.proofs.search.short_slots.Goals.{then-is_short, else-is_short}

pub loop-k-preserved : goal.loop-k-preserved
loop-k-preserved c =
    let p = c.args.page.now in
    let l = c.loop-k in
    let h : l.k < count_of p = omega (arith, c.loop-k-test.true, c.count-k-end.ensures.0) in
    elim c.if-is_short.branch [
      | then-is_short w ↦ rw w.short-is (short-more p (count_of p) l.k l.short h (sym c.is_short.ensures ∙ w.if-is_short.true) ∙ l.invariant.0, omega (arith, l.invariant.1))
      | else-is_short w ↦ rw w.short-is (short-same p (count_of p) l.k l.short h (sym c.is_short.ensures ∙ w.if-is_short.false) ∙ l.invariant.0, omega (arith, l.invariant.1))
    ]

pub returns : goal.returns
returns c =
    let p = c.args.page.now in
    let l = c.loop-k in
    (short-end p (count_of p) l.k l.short (omega (arith, c.loop-k-test.false, c.count-k-end.ensures.0)) ∙ l.invariant.0, omega (arith, l.invariant.1, l.auto.k-end, c.count-k-end.ensures))
