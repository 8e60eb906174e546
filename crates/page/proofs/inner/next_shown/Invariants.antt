use Rattle.std.proofs.Common.{◌≡◌, ◌-◌}
use Rattle.page.specs.Rows.{shown, rows_from, rows_of, first_at}
use Rattle.page.proofs.inner.next_shown.Given as goal

abbrev pub invariant-loop-i : goal.invariant-loop-i
invariant-loop-i l = first_at l.i l.k (rows_from (shown l.live) l.pages (l.count - l.i) l.i) ≡ first_at l.index l.slot (rows_of (shown l.live) l.pages)
