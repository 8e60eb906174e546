use Rattle.std.proofs.Common.{ℕ, arith, ap, ◌∙◌}
use Rattle.std.proofs.Common.{bit_xor, drop, ◌+◌}
use Rattle.endian.specs.Numbers.{Bytes}
use Rattle.crc32c.specs.Crc.{shifts, fed}
use Rattle.crc32c.proofs.Runs.{by_pieces, piece_length, piece_bytes, step-2, byte_at, at-end}
use Rattle.crc32c.proofs.inner.few.Goals as goal

pub loop-x-preserved : goal.loop-x-preserved
loop-x-preserved c =
    let s = c.args.s.now in
    let p = c.as_chunks.ensures in
    let i = c.loop-x.x-index in
    let b : Bytes s = record { at = λ k. (c.type_inv.s k).fits } in
    by_pieces 2 i s _ p.front p.front_len (omega arith) c.loop-x.c _
    (step-2 _ c.loop-x.c _ (piece_bytes 2 i s _ p.front p.front_len (omega arith) b) (piece_length 2 i s _ p.front p.front_len (omega arith))
    (c.two-c.ensures ∙ ap (λ (x : ℕ). shifts 16 (bit_xor c.loop-x.c x)) c.u16_at.ensures))
    ∙ c.loop-x.invariant

pub loop-b-preserved : goal.loop-b-preserved
loop-b-preserved c =
    let l = c.loop-b in
    let s = c.as_chunks.result.1.now in
    ap (λ (x : ℕ). fed x (drop (l.b-index + 1) s)) c.one-c.ensures ∙ byte_at l.b-index l.c s (omega arith) ∙ l.invariant

pub returns : goal.returns
returns c = at-end c.loop-b.b-index c.loop-b.c _ (omega arith) ∙ c.loop-b.invariant
