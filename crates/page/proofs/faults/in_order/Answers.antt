use mathlib.Core.Path.{sym, ◌∙◌}
use Rattle.std.proofs.Common.{arith}
use Rattle.page.proofs.SlotLaws.{ordered-empty, ordered-tuple, ordered-all}
use Rattle.page.proofs.faults.in_order.Goals as goal

pub loop-k-preserved-then-o-n-eq0 : goal.loop-k-preserved-then-o-n-eq0
loop-k-preserved-then-o-n-eq0 c = ordered-empty _ _ _ (omega arith) c.loop-k.invariant _ _ c.slot_off-o.ensures.0 c.slot_len-n.ensures.0 c.if-o-n-eq0.true

pub loop-k-preserved : goal.loop-k-preserved
loop-k-preserved c =
    ordered-tuple _ _ _ (omega arith) c.loop-k.invariant _ _ c.slot_off-o.ensures.0 c.slot_len-n.ensures.0 (sym c.tuple_fits.ensures ∙ c.if-not-tuple_fits.false)

pub returns : goal.returns
returns c = λ _. ordered-all _ _ _ c.loop-k.k c.loop-k.top (omega arith) c.loop-k.invariant
