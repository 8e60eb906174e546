use Rattle.std.proofs.Common.{◌≡◌, ◌-◌, length}
use Rattle.table.specs.Rows.{rows}
use Rattle.table.proofs.Filling.{Filled}
use Rattle.table.proofs.inner.begins.Given as goal

-- the rows of the Begins up to the present place stand in front
abbrev pub invariant-loop-e : goal.invariant-loop-e
invariant-loop-e l = (length l.a ≡ length l.fn.a) × Filled l.log l.fn.from l.fn.a (rows l.a) l.n l.at

abbrev pub decreases-loop-e : goal.decreases-loop-e
decreases-loop-e l = l.end - l.at
