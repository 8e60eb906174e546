-- The first page without room is refused.
use Rattle.std.proofs.Common.{arith, sym, ◌∙◌}
use Rattle.room.proofs.Tightness.{touched-part, tight-start, tight-here, tight-next, tight-end, refused-at}
use Rattle.room.proofs.inner.tight.Goals as goal

pub loop-i-init : goal.loop-i-init
loop-i-init c = sym (tight-start _ _ _ _)

pub is_tight-requires-clause-touched : goal.is_tight-requires-clause-touched
is_tight-requires-clause-touched c = touched-part c.loop-i-test.true c.requires.touched

pub returns-then-is_tight : goal.returns-then-is_tight
returns-then-is_tight c =
    refused-at c.at.result c.at.ensures.why c.at.ensures.place
    ∙ sym (c.loop-i.invariant ∙ tight-here _ _ _ _ c.loop-i-test.true c.is_tight.ensures c.if-is_tight.true)

pub loop-i-preserved : goal.loop-i-preserved
loop-i-preserved c = c.loop-i.invariant ∙ tight-next _ _ _ _ c.loop-i-test.true c.is_tight.ensures c.if-is_tight.false

pub returns : goal.returns
returns c = sym (c.loop-i.invariant ∙ tight-end _ _ _ _ (omega arith))
