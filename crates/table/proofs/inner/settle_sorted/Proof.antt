-- Sorted by number, told, and sorted back by LSN.
-- Assumes nothing.
use borrow.Author.Rules.{rules}
use native.Mathlib.Omega.{arith}
use Prim.Native.Nat.{◌/◌}
use lib.ListN.{length}
use Rattle.table.specs.Flat.{stride}
use Rattle.table.specs.Rows.{rows}
use Rattle.table.proofs.Settling.{untold, settled}
use Rattle.table.proofs.inner.settle_sorted.Statement.{statement}
use Rattle.table.proofs.inner.settle_sorted.Tie as tie

enter-all-requires : tie.Need-enter_all-requires
enter-all-requires c κs =
    let sort = c.before.before.before.before in
    let start = sort.before.before.before.before.before in
    let pre = start.requires in
    (pre.0, (pre.1.0, (pre.1.1.0, (untold pre.0 pre.1.0 (length start.args.a.now / stride) (rows start.args.a.now) pre.1.1.1.0 sort.sort.ensures, (omega (arith, sort.sort.auto.a, pre.1.1.1.1.0), omega arith, omega (arith, sort.sort.auto.a))))))

returns : tie.Need-returns
returns c =
    let back = c.before.before in
    let entered = back.before.before.before.before.before.before in
    let sort = entered.before.before.before.before.before in
    let start = sort.before.before.before.before.before in
    let pre = start.requires in
    settled pre.0 pre.1.0 (length start.args.a.now / stride) (rows start.args.a.now) pre.1.1.1.0 sort.sort.ensures entered.enter_all.ensures back.sort-2.ensures

pub settle_sorted_spec : {M : Type 1} → statement M
settle_sorted_spec = tie.close (tie.spec (λ c κs. search rules) enter-all-requires (λ c κs. search rules) (λ c. search rules) (λ c. search rules) returns)
