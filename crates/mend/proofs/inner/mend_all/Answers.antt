-- A page more is mended, and counted where it was rewritten.
use Rattle.std.proofs.Common.{◌<◌, arith, refl, ◌∙◌}
use Rattle.wal.specs.Walk.{entries}
use Rattle.rules.specs.Recover.{is_touched}
use Rattle.mend.proofs.Areas.{mended-none, mended-page, one-le, touched-le}
use Rattle.mend.proofs.inner.mend_all.Goals as goal

pub loop-i-init : goal.loop-i-init
loop-i-init c = (refl, mended-none _ _)

pub overflow_add-rewritten : goal.overflow_add-rewritten
overflow_add-rewritten c =
    let es = entries c.args.changes.now.log.now in
    omega (arith, c.loop-i.invariant.1.counted, touched-le es c.loop-i.i 0, c.mend_page-rewritten.ensures.value, one-le (is_touched es c.loop-i.i))

pub loop-i-preserved : goal.loop-i-preserved
loop-i-preserved c =
    let m = c.mend_page-rewritten in
    let low : c.loop-i.i < c.args.changes.now.n = omega arith in
    (m.auto.pages ∙ c.loop-i.invariant.0, mended-page c.loop-i.invariant.1 low c.requires.fitting (omega (arith, c.requires.n_value)) {v = m.new.pages} m.ensures.pages_after m.ensures.value)
