use Rattle.std.proofs.Common.{◌≡◌, arith, ◌∙◌}
use Rattle.wal.specs.Read.{read_at}
use Rattle.wal.specs.declared.Reading.TheVariants.{Whole}
use Rattle.wal.proofs.WalkLaws.{entry_at, next, none}
use Rattle.wal.proofs.inner.end_of.Goals as goal

pub overflow_add-at : goal.overflow_add-at
overflow_add-at c =
    let found : read_at c.args.log.now c.loop-v.at ≡ Whole c.in-Whole.v = cc in
    let k = entry_at _ _ found in
    omega arith

pub loop-v-smaller : goal.loop-v-smaller
loop-v-smaller c =
    let found : read_at c.args.log.now c.loop-v.at ≡ Whole c.in-Whole.v = cc in
    let k = entry_at _ _ found in
    omega arith

pub loop-v-preserved : goal.loop-v-preserved
loop-v-preserved c =
    let found : read_at c.args.log.now c.loop-v.at ≡ Whole c.in-Whole.v = cc in
    rw (next _ _ found) at c.loop-v.invariant

pub returns : goal.returns
returns c = rw (none _ _ (λ v q. c.in_default.not-Whole v (c.entry_at.ensures ∙ q))) at c.loop-v.invariant
