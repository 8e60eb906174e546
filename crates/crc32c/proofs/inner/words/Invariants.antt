use Rattle.std.proofs.Common.{◌≡◌, ◌*◌, drop}
use Rattle.crc32c.specs.Crc.{fed}
use Rattle.crc32c.proofs.inner.words.Given as goal

abbrev pub invariant-loop-x : goal.invariant-loop-x
invariant-loop-x l = fed l.c (drop (l.x-index * 16) l.s) ≡ fed l.start l.s
