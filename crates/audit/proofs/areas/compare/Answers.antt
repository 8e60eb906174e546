-- The first page with a fault is refused; where there is none, what was found is kept.
use Rattle.std.proofs.Common.{◌≡◌, ℕ, ◌-◌, ◌<◌, arith, ap, sym, ◌∙◌, not, Bool, true, false, refl}
use Rattle.rules.proofs.Tests.{not-true}
use Rattle.wal.specs.Walk.{entries}
use Rattle.page.specs.Layout.{pages_in}
use Rattle.page.specs.Fault.{never_late, first_bad}
use Rattle.refusals.specs.Verdict.{told}
use Rattle.refusals.specs.declared.Verdict.{Verdict}
use Rattle.audit.proofs.Pagewise.{found_none, found-next, found_all, after-start, after_next, after-end, after-bad, compared-refused, compared-found}
use Rattle.audit.proofs.areas.compare.Goals as goal

was-sound : (b : Bool) → not b ≡ false → b ≡ true
was-sound true e = refl
was-sound false e = sym e

pub loop-i-init : goal.loop-i-init
loop-i-init c = (after-start c.args.magic c.args.after.now c.args.before.now c.requires.before_len, rw c.nothing-f.ensures (found_none _ _ _ _ _))

pub returns-then-not-g : goal.returns-then-not-g
returns-then-not-g c =
    let a = c.args in
    let k = c.page_judged-g.ensures in
    let v = c.first_bad.ensures in
    let n : pages_in a.after.now ≡ pages_in a.before.now = omega (arith, c.requires.before_len) in
    let i : c.loop-i.i < pages_in a.after.now = omega (arith, n, c.loop-i-test.true) in
    c.told.ensures
    ∙ compared-refused a.magic (entries a.log.now) a.before.now a.after.now a.first (told c.first_bad.result)
    (c.loop-i.invariant.0 ∙ ap (λ (m : ℕ). first_bad never_late a.magic a.after.now (m - c.loop-i.i) c.loop-i.i) (sym n) ∙ sym v)
    (λ z. after-bad a.magic a.after.now (pages_in a.after.now) c.loop-i.i i (k.faulty (not-true _ c.if-not-g.true)) (sym (ap (λ (w : Verdict). w.number) v) ∙ z))

pub loop-i-preserved : goal.loop-i-preserved
loop-i-preserved c =
    let a = c.args in
    let k = c.page_judged-g.ensures in
    let t = c.loop-i-test.true in
    let z : c.page_judged-g.result.sound ≡ true = was-sound _ c.if-not-g.false in
    (c.loop-i.invariant.0 ∙ after_next a.magic a.after.now _ c.loop-i.i t (k.sound z), found-next _ _ _ c.loop-i.invariant.1 t (k.finding z) c.earlier-f.ensures)

pub returns : goal.returns
returns c =
    let a = c.args in
    compared-found a.magic (entries a.log.now) a.before.now a.after.now a.first (c.loop-i.invariant.0 ∙ after-end a.magic a.after.now _ c.loop-i.i (omega arith))
    (found_all _ _ _ c.loop-i.invariant.1 (omega arith))
