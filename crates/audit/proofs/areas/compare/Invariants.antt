-- The pages passed have no fault, and what was found of them is kept.
use Rattle.std.proofs.Common.{◌≡◌, ◌-◌}
use Rattle.wal.specs.Walk.{entries}
use Rattle.page.specs.Layout.{pages_in}
use Rattle.page.specs.Fault.{never_late, first_bad}
use Rattle.audit.proofs.Pagewise.{Found}
use Rattle.audit.proofs.areas.compare.Given as goal

abbrev pub invariant-loop-i : goal.invariant-loop-i
invariant-loop-i l =
    (first_bad never_late l.magic l.after (pages_in l.after) 0 ≡ first_bad never_late l.magic l.after (pages_in l.before - l.i) l.i) × Found (entries l.log) l.before l.after (pages_in l.before) l.first l.i l.f
