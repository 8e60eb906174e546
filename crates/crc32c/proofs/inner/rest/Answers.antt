use Rattle.std.proofs.Common.{ℕ, List, ◌+◌, ◌*◌, arith, ap, sym, drop, ◌∙◌}
use Rattle.crc32c.specs.Crc.{fed}
use Rattle.crc32c.proofs.Runs.{by_pieces, piece_length, step-8, step-4}
use Rattle.crc32c.proofs.inner.rest.Goals as goal

pub eights-preserved : goal.eights-preserved
eights-preserved c =
    let p = c.as_chunks.ensures in
    let i = c.eights.x-index in
    by_pieces 8 i c.args.s.now _ p.front p.front_len (omega arith) c.eights.c _
    (step-8 _ c.eights.c _ _ (piece_length 8 i c.args.s.now _ p.front p.front_len (omega arith)) c.follow.ensures c.lead.ensures)
    ∙ c.eights.invariant

pub fours-preserved : goal.fours-preserved
fours-preserved c =
    let p = c.as_chunks-2.ensures in
    let s = c.as_chunks.result.1.now in
    let i = c.fours.x-index in
    ap (λ (l : List ℕ). fed c.lead-c.result (drop ((i + 1) * 4) l)) (sym c.as_chunks.ensures.back)
    ∙ by_pieces 4 i s _ p.front p.front_len (omega arith) c.fours.c _ (step-4 _ c.fours.c _ (piece_length 4 i s _ p.front p.front_len (omega arith)) c.lead-c.ensures)
    ∙ ap (λ (l : List ℕ). fed c.fours.c (drop (i * 4) l)) c.as_chunks.ensures.back ∙ c.fours.invariant
