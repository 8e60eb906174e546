-- The full rows of the table are lent, and all Begins fit.
-- Assumes nothing.
use mathlib.Core.Path.{sym}
use borrow.Author.Rules.{rules}
use native.Mathlib.Omega.{arith}
use Prim.Native.Nat.{◌*◌, ◌/◌}
use lib.ListN.{length}
use lib.Seq.{length-take-le}
use Rattle.table.specs.Flat.{stride}
use Rattle.wal.specs.Walk.{entries}
use Rattle.table.proofs.Flattening.{begun-length}
use Rattle.table.proofs.Blocks.{flat-table}
use Rattle.table.proofs.inner.fill_flat.Statement.{statement}
use Rattle.table.proofs.inner.fill_flat.Tie as tie

aggregate : tie.Need-slice_bounds-fill_rows-end-2
aggregate c = sym (length-take-le _ _ (omega arith))

fill-rows-requires : tie.Need-fill_rows-requires
fill-rows-requires c κs =
    let start = c.before.before.before.before.before in
    let pre = start.requires in
    let l = length-take-le (stride * (length start.args.table.now / stride)) start.args.table.now (omega arith) in
    (pre.0, ((pre.1.0.0, pre.1.0.1, omega (arith, l, pre.1.0.2, begun-length (entries start.args.log.now))), (omega (arith, l), pre.1.1)))

returns : tie.Need-returns
returns c =
    let fill = c.before.before.before.before in
    let pre = fill.before.before.before.before.before.before.requires in
    flat-table _ _ fill.fill_rows.new.a pre.1.0.2 fill.fill_rows.auto.a fill.fill_rows.ensures

pub fill_flat_spec : {M : Type 1} → statement M
fill_flat_spec = tie.close (tie.spec (λ c. search rules) (λ c. search rules) aggregate fill-rows-requires (λ c. search rules) (λ c. search rules) returns)
