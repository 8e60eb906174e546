use Rattle.std.proofs.Common.{◌≡◌, ◌-◌, suc, get_or}
use Rattle.summary.specs.Summary.{step_rows, no_row}
use Rattle.summary.proofs.reader.nth.Given as goal

abbrev pub invariant-loop : goal.invariant-loop
invariant-loop l = get_or (step_rows (suc (l.n - l.counter)) l.file l.at) (l.n - l.counter) no_row ≡ get_or (step_rows (suc l.n) l.file l.first) l.n no_row
