use Rattle.std.proofs.Common.{◌∙◌, take, drop, arith, length-append, length-drop}
use lib.Seq.{length-take-le}
use Rattle.intake.specs.Places.{mark_at, places_from}
use Rattle.intake.proofs.Filling.{pairs-over}
use Rattle.intake.proofs.Scanning.{block_none, block-some}
use Rattle.intake.proofs.Walking.{places-ascend}
use Rattle.intake.proofs.pairs.least.Goals as goal

pub returns-then-len-eq0 : goal.returns-then-len-eq0
returns-then-len-eq0 c = pairs-over (mark_at c.args.pages.now) (places_from c.args.pages.now c.loop-b.i c.loop-b.k) (c.fill-b.ensures.some c.if-len-eq0.true) ∙ c.loop-b.invariant.0

pub returns-in-Some : goal.returns-in-Some
returns-in-Some c =
    let s = c.args.pages.now in
    let b = c.fill-b.result in
    block-some (mark_at s) (take b.len c.fill-b.new.a) (places_from s b.page b.slot) (places_from s c.loop-b.i c.loop-b.k) c.fill-b.ensures.goes (places-ascend s c.requires.pages_len_bound.0 c.requires.listable c.loop-b.i c.loop-b.k) c.in-Some.p
    (rw c.in-Some.is at c.least_in.ensures)
    ∙ c.loop-b.invariant.0

pub loop-b-preserved : goal.loop-b-preserved
loop-b-preserved c =
    let s = c.args.pages.now in
    let b = c.fill-b.result in
    let a = c.fill-b.new.a in (
      block_none (mark_at s) (take b.len a) (places_from s b.page b.slot) (places_from s c.loop-b.i c.loop-b.k) c.fill-b.ensures.goes (places-ascend s c.requires.pages_len_bound.0 c.requires.listable c.loop-b.i c.loop-b.k)
          (rw c.in_default.is at c.least_in.ensures)
          ∙ c.loop-b.invariant.0,
      omega (arith, length-append c.least_in.new.a (drop b.len a), length-drop b.len a, length-take-le b.len a c.fill-b.ensures.within, c.least_in.auto.a, c.fill-b.auto.a, c.fill-b.ensures.within, c.loop-b.invariant.1),
    )
