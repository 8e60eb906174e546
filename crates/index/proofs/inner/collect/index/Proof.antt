-- An index of what was collected.
-- Assumes nothing.
use native.Mathlib.Omega.{arith}
use borrow.Author.Rules.{rules}
use Rattle.index.proofs.Collecting.{collected}
use Rattle.index.proofs.inner.collect.index.Statement.{statement}
use Rattle.index.proofs.inner.collect.index.Tie as tie

returns : tie.Need-returns
returns c =
    let b = c.before.before.before.build-n in
    let f = c.before.before.before.before.before.before.before.fill-h in
    (omega (arith, b.ensures.0, b.auto.a, f.ensures.0), collected f.ensures.1 b.ensures.1)

pub index_spec : {M : Type 1} → statement M
index_spec = tie.close (tie.spec (λ c κs. search rules) (λ c κs. search rules) (λ c. search rules) returns)
