-- A stamped tuple's xmax and deleted byte are those of its stamp.
use Rattle.std.proofs.Common.{arith, ◌∙◌}
use Rattle.recovery.proofs.Heads.{head-stamped, head_plain}
use Rattle.recovery.proofs.row.head_in.Goals as goal

pub returns-in-Some : goal.returns-in-Some
returns-in-Some c =
    c.filled.ensures.value ∙ rw (c.u64_at-xmin.ensures, c.pad_at-pad.ensures) (head-stamped _ c.args.m c.requires.0 c.requires.1 c.in-Some.by c.in-Some.is c.filled.ensures.range)

pub returns : goal.returns
returns c =
    c.filled-2.ensures.value ∙ rw (c.u64_at-xmin.ensures, c.u64_at.ensures, c.pad_at-pad.ensures) (head_plain _ c.args.m c.requires.0 c.requires.1 c.in_default.is)
