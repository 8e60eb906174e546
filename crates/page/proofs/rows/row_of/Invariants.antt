use Rattle.std.proofs.Common.{◌≡◌, ◌-◌}
use Rattle.page.specs.Layout.{count_of}
use Rattle.page.specs.Rows.{shown, slot_rows, first_at}
use Rattle.page.proofs.rows.row_of.Given as goal

abbrev pub invariant-loop-k : goal.invariant-loop-k
invariant-loop-k l = first_at l.index l.slot (slot_rows (shown l.live) l.index l.page (count_of l.page - l.k) l.k) ≡ first_at l.index l.slot (slot_rows (shown l.live) l.index l.page (count_of l.page) 0)
