-- The block is held, and the entries of lower numbers are tested.
use Rattle.std.proofs.Common.{◌≤◌, ◌-◌, length}
use Rattle.order.specs.Blocks.{top_number, Blocked, FirstWrong, below}
use Rattle.order.proofs.inner.block.by_blocks.Given as goal

abbrev pub invariant-loop-b : goal.invariant-loop-b
invariant-loop-b l = record {
  roomy : (2 ≤ length l.begins) × (2 ≤ length l.ends);
  blocked : Blocked l.log l.b l.begins l.ends;
  low : l.best ≤ l.b.stop;
  top : l.b.hi.0 ≤ top_number;
  wrong : FirstWrong l.log (below l.b.lo.0) l.stop l.best;
}

abbrev pub decreases-loop-b : goal.decreases-loop-b
decreases-loop-b l = top_number - l.b.lo.0
