use native.Mathlib.Omega.{arith}
use Rattle.summary.specs.Summary.{head_of}
use Rattle.summary.proofs.RowBytes.{file-put}
use Rattle.summary.proofs.writer.put_file.Goals as goal

pub put_three-first-requires : goal.put_three-first-requires
unfolding head_of
put_three-first-requires c = omega (arith, c.requires.room)

pub put_rows-requires : goal.put_rows-requires
unfolding head_of
put_rows-requires c = omega (arith, c.requires.room, c.put_three-first.ensures.value, c.put_three-first.auto.area)

pub returns : goal.returns
unfolding head_of
returns c =
    let p = c.put_three-first in
    file-put c.args.p.pages.now c.args.area.now p.new.area c.put_rows.new.area c.args.lsn.0 c.args.rows p.result c.requires.rows_value c.requires.room p.ensures.area_after (omega (arith, p.ensures.value)) c.put_rows.ensures
