use Rattle.std.proofs.Common.{◌≡◌, ◌*◌, length, drop}
use Rattle.std.specs.Slice.Iter.{chunks_exact_rest, chunks_exact_size}
use Rattle.timed.specs.Pieces.{mixed}
use Rattle.timed.proofs.timed_crc32c.Given as goal

abbrev pub invariant-loop-piece : goal.invariant-loop-piece
invariant-loop-piece l =
    (chunks_exact_size l.piece-iterator ≡ l.n)
    × (chunks_exact_rest l.piece-iterator ≡ drop (length l.yielded * l.n) l.s)
    × (l.x ≡ mixed (length l.yielded) l.n l.s)
