use Rattle.std.proofs.Common.{◌≡◌, ◌*◌, ◌/◌, length, drop}
use Rattle.crc32c.specs.Crc.{fed}
use Rattle.crc32c.proofs.inner.rest.Given as goal

abbrev pub invariant-eights : goal.invariant-eights
invariant-eights l = fed l.c (drop (l.x-index * 8) l.s) ≡ fed l.start l.s

abbrev pub invariant-fours : goal.invariant-fours
invariant-fours l = fed l.c (drop (l.x-index * 4) (drop (length l.s / 8 * 8) l.s)) ≡ fed l.start l.s
