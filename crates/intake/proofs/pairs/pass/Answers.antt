use Rattle.std.proofs.Common.{Some, None}
use Rattle.intake.specs.Places.{mark_at, places_from}
use Rattle.intake.proofs.Filling.{firstly-halves}
use Rattle.intake.proofs.Scanning.{scan-none, scan-more}
use Rattle.intake.proofs.Walking.{places-ascend}
use Rattle.intake.proofs.pairs.pass.Goals as goal

pub loop-n-init : goal.loop-n-init
loop-n-init c = scan-none (mark_at c.args.pages.now) c.args.a.now (places_from c.args.pages.now c.args.index c.args.slot)

pub loop-n-preserved-in-Some-first_with : goal.loop-n-preserved-in-Some-first_with
loop-n-preserved-in-Some-first_with c =
    let s = c.args.pages.now in
    let x = c.in-Some.n.place in
    let f = Some c.in-Some-first_with.f in
    rw c.lesser-best.ensures
    (scan-more (mark_at s) c.args.a.now _ _ c.loop-n.best x _ (places-ascend s c.requires.pages_len_bound c.requires.listable c.args.index c.args.slot) c.in-Some.ensures.0 c.loop-n.invariant f
    (firstly-halves s x c.low_at.result c.high_at.result c.args.a.now f c.low_at.ensures c.high_at.ensures c.in-Some-first_with.ensures))

pub loop-n-preserved : goal.loop-n-preserved
loop-n-preserved c =
    let s = c.args.pages.now in
    let x = c.in-Some.n.place in
    scan-more (mark_at s) c.args.a.now _ _ c.loop-n.best x _ (places-ascend s c.requires.pages_len_bound c.requires.listable c.args.index c.args.slot) c.in-Some.ensures.0 c.loop-n.invariant None
    (firstly-halves s x c.low_at.result c.high_at.result c.args.a.now None c.low_at.ensures c.high_at.ensures (rw c.in_default-first_with.is at c.first_with.ensures))
