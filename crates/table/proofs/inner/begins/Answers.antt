use Rattle.std.proofs.Common.{◌∙◌, arith}
use Rattle.wal.proofs.Known.{met-to, still, ahead-found, known-over}
use Rattle.table.proofs.Filling.{filled-end, filled-other, filled-begin}
use Rattle.table.proofs.inner.begins.Goals as goal

pub known_at-requires : goal.known_at-requires
known_at-requires c = still c.loop-e.invariant.1.met (met-to c.requires.log_value)

pub returns-in_default : goal.returns-in_default
returns-in_default c =
    let f = c.loop-e.invariant.1 in
    record { span = filled-end f c.requires.log_value (known-over _ _ _ _ c.known_at.ensures c.in_default.not-Whole); a_after = f.front }

pub overflow_add-at : goal.overflow_add-at
overflow_add-at c = let k = ahead-found c.loop-e.invariant.1.met (met-to c.requires.log_value) c.known_at.ensures c.in-Whole.is in omega (arith, k.next)

pub loop-e-smaller-then-e-ne-BEGIN : goal.loop-e-smaller-then-e-ne-BEGIN
loop-e-smaller-then-e-ne-BEGIN c = let k = ahead-found c.loop-e.invariant.1.met (met-to c.requires.log_value) c.known_at.ensures c.in-Whole.is in omega (arith, k.next, k.low)

pub loop-e-preserved-then-e-ne-BEGIN : goal.loop-e-preserved-then-e-ne-BEGIN
loop-e-preserved-then-e-ne-BEGIN c =
    let inv = c.loop-e.invariant in
    (inv.0, filled-other inv.1 (ahead-found inv.1.met (met-to c.requires.log_value) c.known_at.ensures c.in-Whole.is) c.if-e-ne-BEGIN.true)

pub overflow_add-at-in-loop-e : goal.overflow_add-at-in-loop-e
overflow_add-at-in-loop-e c = let k = ahead-found c.loop-e.invariant.1.met (met-to c.requires.log_value) c.known_at.ensures c.in-Whole.is in omega (arith, k.next)

pub loop-e-smaller : goal.loop-e-smaller
loop-e-smaller c = let k = ahead-found c.loop-e.invariant.1.met (met-to c.requires.log_value) c.known_at.ensures c.in-Whole.is in omega (arith, k.next, k.low)

pub loop-e-preserved : goal.loop-e-preserved
loop-e-preserved c =
    let inv = c.loop-e.invariant in
    let stored = rw c.new_row.ensures at c.put.ensures in
    (c.put.auto.a ∙ inv.0, filled-begin inv.1 (ahead-found inv.1.met (met-to c.requires.log_value) c.known_at.ensures c.in-Whole.is) c.if-e-ne-BEGIN.false (omega (arith, inv.1.room, c.if-n-room.false)) stored)
