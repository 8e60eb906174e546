use Rattle.std.proofs.Common.{◌≡◌, ◌+◌, arith, rules, sym}
use Rattle.std.proofs.Math.Seq.{paste-suc}
use Rattle.std.proofs.Math.Numerals.{suc-eq-add-one}
use Rattle.endian.proofs.inner.copy_in.Goals as goal

pub loop-j-preserved : goal.loop-j-preserved
loop-j-preserved c =
    let l = c.loop-j in
    let a = c.args in (
      rw (l.invariant.0, sym (suc-eq-add-one l.j)) (paste-suc a.dst.now a.at a.src.now l.j 0 (omega arith) (omega arith)),
      search rules,
    )
