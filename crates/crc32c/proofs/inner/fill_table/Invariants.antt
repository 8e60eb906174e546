use Rattle.std.proofs.Common.{◌≡◌, ◌+◌, ◌*◌, length}
use Rattle.crc32c.specs.Tables.{Upto}
use Rattle.crc32c.proofs.inner.fill_table.Given as goal

abbrev pub invariant-looks : goal.invariant-looks
invariant-looks l = (length l.words ≡ 4096) × Upto l.words l.k

abbrev pub invariant-sums : goal.invariant-sums
invariant-sums l = (length l.words ≡ 4096) × Upto l.words (l.at + 16 * l.row)

abbrev pub invariant-loop-j : goal.invariant-loop-j
invariant-loop-j l = (length l.words ≡ 4096) × Upto l.words (l.k + l.j)
