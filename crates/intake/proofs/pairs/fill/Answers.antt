use Rattle.std.proofs.Common.{arith}
use Rattle.intake.proofs.Filling.{put-none, put-more}
use Rattle.intake.proofs.pairs.fill.Goals as goal

pub loop-len-init : goal.loop-len-init
loop-len-init c = put-none c.args.pages.now c.args.index c.args.slot c.args.a.now

pub loop-len-preserved : goal.loop-len-preserved
loop-len-preserved c =
    let n = c.in-Some.n in
    put-more c.loop-len.invariant (omega (arith, c.loop-len-test.true, c.loop-len.invariant.long)) n.place n.page n.slot c.in-Some.ensures.0 c.in-Some.ensures.1
