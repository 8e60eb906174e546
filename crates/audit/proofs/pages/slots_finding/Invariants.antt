-- The slots passed agree.
use Rattle.std.proofs.Common.{◌≡◌, ◌-◌}
use Rattle.wal.specs.Walk.{entries}
use Rattle.audit.specs.Judge.{slot_agrees, slots_in, slots_from}
use Rattle.audit.proofs.pages.slots_finding.Given as goal

abbrev pub invariant-loop-k : goal.invariant-loop-k
invariant-loop-k l =
    slots_from (slot_agrees (entries l.slots.log.now) l.slots.i l.slots.page.now l.q) l.slots.i (l.n - l.k) l.k
    ≡ slots_from (slot_agrees (entries l.slots.log.now) l.slots.i l.slots.page.now l.q) l.slots.i (slots_in (entries l.slots.log.now) l.slots.i l.slots.page.now l.q) 0
