use Rattle.std.proofs.Common.{arith}
use Rattle.std.proofs.lemmas.Grind.{common_steps}
use Rattle.wal.specs.Entry.{entry_of}
use Rattle.order.specs.Scanning.{early_fault}
use Rattle.order.proofs.inner.scan.early_fault.Goals as goal

pub returns-then-not-is_known : goal.returns-then-not-is_known
unfolding early_fault entry_of
returns-then-not-is_known c = grind (arith, common_steps)

pub returns-then-not-shaped : goal.returns-then-not-shaped
unfolding early_fault entry_of
returns-then-not-shaped c = grind (arith, common_steps)

pub returns-then-stale : goal.returns-then-stale
unfolding early_fault entry_of
returns-then-stale c = grind (arith, common_steps)

pub returns : goal.returns
unfolding early_fault entry_of
returns c = grind (arith, common_steps)
