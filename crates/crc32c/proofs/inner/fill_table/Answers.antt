use Rattle.std.proofs.Common.{◌+◌, ◌*◌, arith, ap, ap₂, ◌∙◌, length-set, bit_xor}
use Rattle.crc32c.specs.Tables.{leaves}
use Rattle.crc32c.proofs.Filled.{more, summed}
use Rattle.crc32c.proofs.inner.fill_table.Goals as goal

pub looks-preserved : goal.looks-preserved
looks-preserved c =
    let l = c.looks in
    (simp length-set l.invariant.0, more l.words l.k _ (omega arith) c.entry.ensures l.invariant.1)

pub loop-j-preserved : goal.loop-j-preserved
loop-j-preserved c =
    let l = c.loop-j in
    let k = 256 * c.args.n + 16 * c.sums.row in (
      simp length-set l.invariant.0,
      λ m h.
          more l.words (k + l.j) _ (omega arith)
          (ap₂ bit_xor (l.invariant.1 (256 * c.args.n + l.j) (omega arith)) c.entry-x.ensures
          ∙ summed c.args.n c.sums.row l.j (omega arith) (omega arith)
          ∙ ap leaves (omega arith))
          l.invariant.1 m (omega arith),
    )
