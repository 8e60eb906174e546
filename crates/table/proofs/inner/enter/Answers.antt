use Rattle.std.proofs.Common.{ap, ◌∙◌, set, arith}
use Rattle.table.specs.Rows.{rows}
use Rattle.table.specs.Telling.{told_by, own}
use Rattle.table.proofs.Storing.{rows-length}
use Rattle.table.proofs.inner.enter.Goals as goal

pub row_at-r-requires : goal.row_at-r-requires
row_at-r-requires c = omega (arith, c.in-Some.ensures.0, rows-length c.args.a.now)

pub put-requires : goal.put-requires
put-requires c = (c.requires.full.0, omega (arith, c.in-Some.ensures.0, rows-length c.args.a.now))

pub returns-clause-entered : goal.returns-clause-entered
returns-clause-entered c =
    own c.in-Some.j c.in-Some.ensures.0 c.in-Some.ensures.1
    (c.put.ensures ∙ ap (set (rows c.args.a.now) c.in-Some.j) (c.told.ensures ∙ ap (told_by c.args.kind c.args.lsn) c.row_at-r.ensures))
