-- An index of each array, for the numbers that both have.
use Rattle.std.proofs.Common.{arith, ◌≡◌, min}
use Rattle.std.proofs.lemmas.Grind.{common_steps}
use Rattle.order.proofs.Gathering.{blocked}
use Rattle.order.proofs.inner.block.settle.Goals as goal

pub returns-clause-blocked : goal.returns-clause-blocked
returns-clause-blocked c =
    let lowest : c.min-hi.result.0 ≡ min c.args.held.begins.hi.0 c.args.held.ends.hi.0 = grind (arith, common_steps) in
    blocked c.build-begins.new.a c.build-ends.new.a c.args.lo c.min-hi.result c.build-begins.result c.build-ends.result c.requires.met c.requires.gathered c.build-begins.auto.a c.build-ends.auto.a lowest c.build-begins.ensures c.build-ends.ensures
