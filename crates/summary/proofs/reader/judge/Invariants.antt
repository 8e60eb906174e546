use Rattle.std.proofs.Common.{◌≡◌, ◌-◌}
use Rattle.summary.specs.Summary.{rows_verdict}
use Rattle.summary.proofs.reader.judge.Given as goal

abbrev pub invariant-loop : goal.invariant-loop
invariant-loop l = rows_verdict (l.count - l.counter) l.page l.slot l.file l.at ≡ rows_verdict l.count 0 0 l.file l.first
