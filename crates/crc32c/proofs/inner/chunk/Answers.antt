use Rattle.std.proofs.Common.{ℕ, arith, ap, sym, drop, ◌∙◌}
use Rattle.crc32c.specs.Sparse.{chunk_bytes, carried}
use Rattle.crc32c.proofs.Sparse.{chunked, carried-moved}
use Rattle.crc32c.proofs.inner.chunk.Goals as goal

pub fill-requires-clause-room : goal.fill-requires-clause-room
fill-requires-clause-room c = record { size = c.told-p; bytes = record { at = c.fits-p } }

pub returns-clause-by_index : goal.returns-clause-by_index
returns-clause-by_index c =
    λ r l.
    let f = c.fill.new.p in
    carried-moved c.back.new.p f r chunk_bytes c.back.ensures.p_after ∙ ap (λ (n : ℕ). carried (drop n f) r) (sym c.told-s)
    ∙ chunked c.args.p.now c.args.s.now f r (record { size = c.told-p; bytes = record { at = c.fits-p } }) c.fill.ensures.room_2 (omega (arith, c.told-s)) l c.fill.ensures.filled
