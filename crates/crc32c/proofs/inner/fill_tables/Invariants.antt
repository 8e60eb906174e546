use Rattle.std.proofs.Common.{◌≡◌, ◌*◌, length}
use Rattle.crc32c.specs.Tables.{Upto}
use Rattle.crc32c.proofs.inner.fill_tables.Given as goal

abbrev pub invariant-first : goal.invariant-first
invariant-first l = (length l.words ≡ 4096) × Upto l.words l.n

abbrev pub invariant-rest : goal.invariant-rest
invariant-rest l = (length l.words ≡ 4096) × Upto l.words (256 * l.n)
