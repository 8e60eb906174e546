-- The bytes that stand are put into the slot, and stamped where a transaction deleted the tuple.
use Rattle.std.proofs.Common.{ap, ◌∙◌}
use Rattle.page.specs.Writer.{with_slot}
use Rattle.mend.proofs.Tuples.{plain-tuple, stamped-tuple}
use Rattle.mend.proofs.inner.put_image.Goals as goal

pub returns-in_default-clause-work_after : goal.returns-in_default-clause-work_after
returns-in_default-clause-work_after c =
    c.put_slot-start.ensures.work_after
    ∙ ap (with_slot c.args.work.now c.args.k c.args.top) (plain-tuple c.requires.lies c.bytes.ensures c.in_default.is)

pub returns-clause-work_after : goal.returns-clause-work_after
returns-clause-work_after c =
    let r = c.requires.work_len in
    let p = c.put_slot-start.ensures in
    stamped-tuple c.requires.lies c.bytes.ensures c.in-Some.x c.in-Some.is c.args.work.now _ _ c.args.k c.args.top _ r.0 r.1 r.2 p.value p.work_after c.stamp.ensures
