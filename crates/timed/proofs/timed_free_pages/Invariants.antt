use Rattle.std.proofs.Common.{◌≡◌, ◌+◌, ◌-◌, ◌≤◌}
use Rattle.page.specs.FreeMap.{free_pages}
use Rattle.timed.proofs.timed_free_pages.Given as goal

abbrev pub invariant-loop-i : goal.invariant-loop-i
invariant-loop-i l = (l.total ≤ l.i) × (l.total + free_pages l.pages (l.n - l.i) l.i ≡ free_pages l.pages l.n 0)
