use Rattle.std.proofs.Common.{arith, ◌*◌, ◌∙◌}
use Rattle.crc32c.proofs.Runs.{by_pieces, at-end}
use Rattle.crc32c.proofs.inner.last.Goals as goal

pub loop-x-preserved : goal.loop-x-preserved
loop-x-preserved c =
    let p = c.as_chunks.ensures in
    by_pieces 16 c.loop-x.x-index c.args.s.now _ p.front p.front_len (omega arith) c.loop-x.c _ c.sixteen-c.ensures ∙ c.loop-x.invariant

pub returns : goal.returns
returns c = at-end (c.loop-x.x-index * 16) c.loop-x.c _ (omega (arith, c.told-s, c.as_chunks.ensures.front_len)) ∙ c.loop-x.invariant
