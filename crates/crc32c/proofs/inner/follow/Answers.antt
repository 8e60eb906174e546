use Rattle.std.proofs.Common.{◌+◌, arith, refl, ◌∙◌}
use Rattle.crc32c.proofs.Runs.{join, single}
use Rattle.crc32c.proofs.inner.follow.Goals as goal

pub returns : goal.returns
returns c =
    let s = c.args.s.now in
    let i = c.args.i in
    let k = c.args.k in
    join s i (i + 1) 1 3 k (k + 3) 0 _ _ refl refl (omega arith)
    (join s (i + 1) (i + 2) 1 2 k (k + 2) 0 _ _ (omega arith) refl (omega arith)
    (join s (i + 2) (i + 3) 1 1 k (k + 1) 0 _ _ (omega arith) refl (omega arith)
    (c.look.ensures ∙ single s (i + 3) k (omega arith))
    (c.look-2.ensures ∙ single s (i + 2) (k + 1) (omega arith)))
    (c.look-3.ensures ∙ single s (i + 1) (k + 2) (omega arith)))
    (c.look-4.ensures ∙ single s i (k + 3) (omega arith))
