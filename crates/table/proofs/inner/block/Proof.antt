-- The rows in front that were put are lent, and come back told.
-- Assumes nothing.
use mathlib.Core.Path.{sym}
use borrow.Author.Rules.{rules}
use native.Mathlib.Omega.{arith}
use Prim.Native.Nat.{◌/◌, ◌≤◌}
use lib.ListN.{length}
use Rattle.table.specs.Flat.{stride}
use Rattle.table.proofs.Blocks.{begun-few, lent-count, lent_rows, came-back}
use Rattle.table.proofs.inner.block.Statement.{statement}
use Rattle.table.proofs.inner.block.Tie as tie

aggregate : tie.Need-slice_bounds-settle-end-2
aggregate c =
    let begins = c.before.before.before.before.begins-t in
    sym (lent-count _ _ _ _ begins.ensures.0.many (omega (arith, begins.ensures.0.room, begins.auto.a)) begins.ensures.1)

settle-requires : tie.Need-settle-requires
settle-requires c κs =
    let begins = c.before.before.before.before.before in
    let span = begins.begins-t.ensures in
    let start = begins.before.before.before.before.before in
    let pre = start.requires in
    let room : begins.begins-t.result.count ≤ length begins.begins-t.new.a / stride = omega (arith, span.0.room, begins.begins-t.auto.a) in
    let long = lent-count _ _ _ _ span.0.many room span.1 in
    (pre.0, (pre.1.0, (pre.1.1.0, (lent_rows _ _ _ _ span.0.many room span.1, (omega (arith, long), omega arith, omega (arith, long, span.0.many, begun-few pre.1.0))))))

returns : tie.Need-returns
returns c =
    let settle = c.before.before.before.before in
    let begins = settle.before.before.before.before.before.before in
    let span = begins.begins-t.ensures in
    (span.0, came-back _ _ _ _ span.0.many (omega (arith, span.0.room, begins.begins-t.auto.a)) span.1 _ settle.settle.new.a settle.settle.auto.a settle.settle.ensures)

pub block_spec : {M : Type 1} → statement M
block_spec = tie.close (tie.spec (λ c κs. search rules) (λ c. search rules) (λ c. search rules) aggregate settle-requires (λ c. search rules) (λ c. search rules) returns)
