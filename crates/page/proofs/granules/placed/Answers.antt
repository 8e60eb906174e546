use mathlib.Core.Path.{sym, ◌∙◌}
use Rattle.std.proofs.Common.{arith}
use Rattle.page.proofs.GranuleLaws.{singly-none, singly-more, placed-none, placed-empty, placed-tuple, placed-all, start-in}
use Rattle.page.proofs.SlotLaws.{fine-empty, fine-tuple}
use Rattle.page.proofs.granules.placed.Goals as goal

pub loop-k-init : goal.loop-k-init
loop-k-init c = (singly-none _ _, rw c.requires.1 (placed-none _))

pub loop-k-preserved-then-o-n-eq0 : goal.loop-k-preserved-then-o-n-eq0
loop-k-preserved-then-o-n-eq0 c = (
  singly-more _ _ c.loop-k.invariant.0 (sym (fine-empty _ _ _ _ _ c.slot_off-o.ensures.0 c.slot_len-n.ensures.0 c.if-o-n-eq0.true)),
  placed-empty _ c.loop-k.invariant.1 (omega (arith, c.slot_len-n.ensures.0)),
)

pub bounds-grid-g : goal.bounds-grid-g
bounds-grid-g c = start-in _ _ _ _ (sym c.tuple_fits.ensures ∙ c.if-not-tuple_fits.false)

pub bounds-grid-g-in-loop-k : goal.bounds-grid-g-in-loop-k
bounds-grid-g-in-loop-k c = start-in _ _ _ _ (sym c.tuple_fits.ensures ∙ c.if-not-tuple_fits.false)

-- what the test of the granule says is left to omega, so that no answer is named after the test
pub loop-k-preserved : goal.loop-k-preserved
loop-k-preserved c =
    let f = sym c.tuple_fits.ensures ∙ c.if-not-tuple_fits.false in (
      singly-more _ _ c.loop-k.invariant.0 (sym (fine-tuple _ _ _ _ _ c.slot_off-o.ensures.0 c.slot_len-n.ensures.0 c.if-o-n-eq0.false) ∙ f),
      placed-tuple _ c.loop-k.invariant.1 _ c.slot_off-o.ensures.0 (start-in _ _ _ _ f) (omega arith),
    )

pub returns : goal.returns
returns c = λ _. placed-all _ _ _ {k = c.loop-k.k} (omega arith) (omega arith) c.loop-k.invariant.0 c.loop-k.invariant.1
