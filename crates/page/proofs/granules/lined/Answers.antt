use mathlib.Core.Path.{refl}
use Rattle.std.proofs.Common.{arith}
use Rattle.page.proofs.GranuleLaws.{line-none, line-empty, line-slot, line-all}
use Rattle.page.proofs.granules.lined.Goals as goal

pub loop-g-init : goal.loop-g-init
loop-g-init c = (omega arith, line-none _ _)

pub loop-g-preserved-then-m-eq0 : goal.loop-g-preserved-then-m-eq0
loop-g-preserved-then-m-eq0 c = (c.loop-g.invariant.0, line-empty _ _ c.requires.placed c.loop-g.invariant.1 c.if-m-eq0.true)

pub loop-g-preserved : goal.loop-g-preserved
loop-g-preserved c = (
  omega (arith, c.slot_off-o.ensures.1, c.slot_len.ensures.1),
  line-slot _ _ c.requires.placed c.loop-g.invariant.1 _ _ _ refl c.if-m-eq0.false c.slot_off-o.ensures.0 c.slot_len.ensures.0 (omega arith),
)

pub slot_off-o-requires : goal.slot_off-o-requires
slot_off-o-requires c = (omega arith, omega (arith, c.requires.placed.low c.loop-g.g (omega arith), c.requires.count_bound))

pub slot_len-requires : goal.slot_len-requires
slot_len-requires c = (omega arith, omega (arith, c.requires.placed.low c.loop-g.g (omega arith), c.requires.count_bound))

pub returns : goal.returns
returns c = λ _. line-all _ _ {g = c.loop-g.g} (omega arith) (omega arith) c.loop-g.invariant.1
