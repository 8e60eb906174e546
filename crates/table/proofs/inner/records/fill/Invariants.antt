use Rattle.std.proofs.Common.{◌≡◌, ◌≤◌, ◌<◌}
use Rattle.table.specs.Holding.{HeldTo}
use Rattle.table.proofs.Stages.{stored_to}
use Rattle.table.proofs.inner.records.fill.Given as goal

-- the first i records are stored, and the block has the row of the last
abbrev pub invariant-loop-i : goal.invariant-loop-i
invariant-loop-i l = record { within : l.i ≤ l.i-end; stored : l.table ≡ stored_to l.log l.i l.fn.table; held : 0 < l.i → HeldTo l.log l.held l.i }
