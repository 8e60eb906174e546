use Rattle.std.proofs.Common.{◌≡◌, ◌*◌, drop}
use Rattle.crc32c.specs.Crc.{fed}
use Rattle.crc32c.proofs.inner.few.Given as goal

abbrev pub invariant-loop-x : goal.invariant-loop-x
invariant-loop-x l = fed l.c (drop (l.x-index * 2) l.s) ≡ fed l.start l.s

abbrev pub invariant-loop-b : goal.invariant-loop-b
invariant-loop-b l = fed l.c (drop l.b-index l.last) ≡ fed l.start l.s
