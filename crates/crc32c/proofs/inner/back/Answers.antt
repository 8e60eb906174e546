use Rattle.std.proofs.Common.{◌≡◌, ◌+◌, ◌-◌, ℕ, ◌∙◌, arith, ap, slice_index_or}
use native.Mathlib.Decide.{dec_lt}
use Rattle.crc32c.specs.Sparse.{chunk_bytes, history_bytes}
use Rattle.crc32c.proofs.Stores.{moved, room-from}
use Rattle.crc32c.proofs.inner.back.Goals as goal

pub returns-clause-p_after : goal.returns-clause-p_after
returns-clause-p_after c =
    moved c.args.p.now c.copy_within.new.self c.told-p (omega (arith, c.told-p, c.copy_within.ensures.len))
    (λ m b.
    let e : chunk_bytes + (m - 0) ≡ chunk_bytes + m = omega arith in
    c.copy_within.ensures.by_index.0 m 0 (omega arith) (omega arith) ∙ ap (λ (k : ℕ). slice_index_or c.args.p.now k 0) e)

pub returns-clause-room : goal.returns-clause-room
returns-clause-room c =
    room-from _ c.args.p.now c.copy_within.new.self (record { size = c.told-p; bytes = record { at = c.fits-p } }) c.copy_within.ensures.len
    (λ i.
    elim (dec_lt i history_bytes) [
      | yes l ↦ (chunk_bytes + (i - 0), c.copy_within.ensures.by_index.0 i 0 (omega arith) (omega arith))
      | no l ↦ (i, c.copy_within.ensures.by_index.2 i 0 (omega arith))
    ])
