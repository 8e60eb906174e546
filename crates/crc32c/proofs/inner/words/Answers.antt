use Rattle.std.proofs.Common.{arith, ◌∙◌}
use Rattle.crc32c.proofs.Runs.{by_pieces}
use Rattle.crc32c.proofs.inner.words.Goals as goal

pub loop-x-preserved : goal.loop-x-preserved
loop-x-preserved c =
    let p = c.as_chunks.ensures in
    by_pieces 16 c.loop-x.x-index c.args.s.now _ p.front p.front_len (omega arith) c.loop-x.c _ c.sixteen-c.ensures ∙ c.loop-x.invariant
