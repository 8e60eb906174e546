use Rattle.std.proofs.Common.{◌≡◌, ℕ, List, ◌++◌, ◌+◌, ◌-◌, ◌*◌, ◌/◌, arith, ap, ap₂, sym, length, take, drop, take-append-drop, subst, ◌∙◌}
use Rattle.crc32c.specs.Sparse.{buffer_bytes, Room, chunk_bytes, ending_bytes, carried}
use Rattle.crc32c.proofs.Sparse.{begun-room, started, stepped, chunked}
use Rattle.crc32c.proofs.inner.long.Goals as goal

pub loop-x-init : goal.loop-x-init
loop-x-init c =
    let s = c.args.s.now in
    let q = c.put_u32.ensures in (
      subst (Room buffer_bytes) (sym q) (begun-room c.args.c),
      ap (carried c.put_u32.new.s) (ap (λ (t : List ℕ). take (length s - ending_bytes) s ++ t) c.split_at.ensures.back ∙ take-append-drop (length s - ending_bytes) s)
          ∙ ap (λ (l : List ℕ). carried l s) q ∙ started c.args.c s c.ranges.c.fits (omega arith),
    )

pub loop-x-preserved : goal.loop-x-preserved
loop-x-preserved c =
    let l = c.loop-x in
    let p = c.as_chunks.ensures in
    let t = c.split_at.result.1.now in
    let e = c.split_at.ensures.front in (
      c.chunk.ensures.room_2,
      ap (λ (x : List ℕ). carried c.chunk.new.p (drop ((l.x-index + 1) * chunk_bytes) x ++ t)) (sym e)
          ∙ stepped l.x-index c.split_at.result.0.now t l.p c.chunk.new.p _ _ p.front p.front_len (omega arith) (omega (arith, c.split_at.ensures.back_len)) c.chunk.ensures.by_index
          (ap (λ (x : List ℕ). carried l.p (drop (l.x-index * chunk_bytes) x ++ t)) e ∙ l.invariant.1),
    )

pub returns : goal.returns
returns c =
    let l = c.loop-x in
    let p = c.as_chunks.ensures in
    let t = c.split_at.result.1.now in
    let n : length c.split_at.result.0.now / chunk_bytes ≡ l.x-index = omega (arith, p.front_len) in
    c.tail.ensures
    ∙ chunked l.p c.as_chunks.result.1.now c.fill.new.p t l.invariant.0 c.fill.ensures.room_2 (omega (arith, p.back_len)) (omega (arith, c.split_at.ensures.back_len)) c.fill.ensures.filled
    ∙ ap (λ (x : List ℕ). carried l.p (x ++ t)) (p.back ∙ ap₂ (λ (m : ℕ) (x : List ℕ). drop (m * chunk_bytes) x) n c.split_at.ensures.front) ∙ l.invariant.1
