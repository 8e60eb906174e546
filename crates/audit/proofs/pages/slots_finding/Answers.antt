-- The first slot that does not agree is found.
use Rattle.std.proofs.Common.{arith, sym, ◌∙◌}
use Rattle.audit.proofs.Slotwise.{slots-here, slots_next, slots_end}
use Rattle.audit.proofs.pages.slots_finding.Goals as goal

pub returns-then-not-slot_agrees : goal.returns-then-not-slot_agrees
returns-then-not-slot_agrees c =
    c.difference.ensures ∙ sym (slots-here _ _ _ c.loop-k.k c.loop-k-test.true (sym c.slot_agrees.ensures ∙ c.if-not-slot_agrees.true)) ∙ c.loop-k.invariant

pub loop-k-preserved : goal.loop-k-preserved
loop-k-preserved c =
    sym (slots_next _ _ _ c.loop-k.k c.loop-k-test.true (sym c.slot_agrees.ensures ∙ c.if-not-slot_agrees.false)) ∙ c.loop-k.invariant

pub returns : goal.returns
returns c = c.nothing.ensures ∙ sym (slots_end _ _ _ c.loop-k.k (omega arith)) ∙ c.loop-k.invariant
