-- By one walk where numbers rise, else by a block of all Begins.
-- Assumes nothing.
use borrow.Author.Rules.{rules}
use native.Mathlib.Omega.{arith}
use Rattle.wal.proofs.Prefix.{met-first}
use Rattle.table.proofs.Rising.{rows_all}
use Rattle.table.proofs.inner.fill_rows.Statement.{statement}
use Rattle.table.proofs.inner.fill_rows.Tie as tie

returns : tie.Need-returns-then-rising
returns c = c.before.before.before.before.before.rising.ensures.0 c.if-rising.true

block-requires : tie.Need-block-requires
block-requires c κs =
    let rising = c.before.before.before.before.before.before.before in
    let pre = rising.before.before.before.before.before.before.requires in
    (pre.0, (met-first _, ((pre.1.0.0, pre.1.0.1), (omega (arith, rising.rising.auto.a, pre.1.1.0), omega (arith, rising.rising.auto.guesses, pre.1.1.1)))))

returns-2 : tie.Need-returns
returns-2 c =
    let block = c.before.before.before.before in
    let rising = block.before.before.before.before.before.before.before.before in
    let pre = rising.before.before.before.before.before.before.requires in
    rows_all _ _ block.block.ensures.0 (omega (arith, rising.rising.auto.a, pre.1.0.2)) rising.rising.ensures.1 block.block.ensures.1

pub fill_rows_spec : {M : Type 1} → statement M
fill_rows_spec = tie.close (tie.spec (λ c κs. search rules) (λ c. search rules) (λ c. search rules) returns block-requires (λ c. search rules) (λ c. search rules) returns-2)
