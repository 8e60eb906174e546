use Rattle.std.proofs.Common.{◌≡◌, ◌*◌, drop}
use Rattle.wal.specs.Read.{all_zero}
use Rattle.wal.proofs.inner.is_zero.Given as goal

abbrev pub invariant-loop-eight : goal.invariant-loop-eight
invariant-loop-eight l = all_zero (drop (l.eight-index * 8) l.s) ≡ all_zero l.s
