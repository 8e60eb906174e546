use Rattle.std.proofs.Common.{◌≡◌, ◌-◌}
use Rattle.page.specs.Layout.{pages_in}
use Rattle.page.specs.Fault.{first_bad, late_of}
use Rattle.page.proofs.inner.first_bad.Given as goal

abbrev pub invariant-loop-i : goal.invariant-loop-i
invariant-loop-i l = first_bad (late_of l.known) l.magic l.pages (l.count - l.i) l.i ≡ first_bad (late_of l.known) l.magic l.pages (pages_in l.pages - l.first) l.first
