-- Rows in order are told as they stand.
-- Assumes nothing.
use borrow.Author.Rules.{rules}
use Prim.Native.Nat.{◌/◌}
use lib.ListN.{length}
use Rattle.table.specs.Flat.{stride}
use Rattle.table.specs.Rows.{rows}
use Rattle.table.proofs.Settling.{arranged-self, untold}
use Rattle.table.proofs.inner.settle.Statement.{statement}
use Rattle.table.proofs.inner.settle.Tie as tie

enter-all-requires : tie.Need-enter_all-requires
enter-all-requires c κs =
    let then = c.before.before in
    let start = then.before.before.before.before.before in
    let pre = start.requires in
    (pre.0, (pre.1.0, (pre.1.1.0, (untold pre.0 pre.1.0 (length start.args.a.now / stride) (rows start.args.a.now) pre.1.1.1.0 (arranged-self (then.before.sorted.ensures then.if-sorted.true)), pre.1.1.1.1))))

returns : tie.Need-returns-then-sorted
returns c = c.before.before.before.before.enter_all.ensures

pub settle_spec : {M : Type 1} → statement M
settle_spec = tie.close (tie.spec (λ c κs. search rules) enter-all-requires (λ c. search rules) (λ c. search rules) returns (λ c κs. search rules) (λ c. search rules) (λ c. search rules) (λ c. search rules))
