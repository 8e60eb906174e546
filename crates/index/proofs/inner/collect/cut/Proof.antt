-- The index is kept whole where it fills at most half of the array, and else its first half.
-- Assumes nothing.
use Prim.Native.Nat.{◌/◌}
use native.Mathlib.Omega.{arith}
use borrow.Author.Rules.{rules}
use lib.ListN.{length}
use Rattle.index.proofs.Collecting.{cut-none, cut-half, cut-room}
use Rattle.index.proofs.inner.collect.cut.Statement.{statement}
use Rattle.index.proofs.inner.collect.cut.Tie as tie

returns : tie.Need-returns-then-n-half
returns c =
    let start = c.before.before.before.before.before.before.before in
    let b = c.before.before.before.build_all-n in
    (omega (arith, start.requires.1, b.auto.a, c.if-n-half.true), cut-none start.requires.0 b.ensures.1.firsts)

number-of-requires : tie.Need-number_of-last-requires
number-of-requires c κs =
    let start = c.before.before.before.before.before.before.before.before in
    let b = c.before.before.before.before.build_all-n in
    cut-room b.new.a b.result _ start.requires.0 b.ensures.1 b.ensures.0 (omega (arith, c.before.if-n-half.false))

returns-2 : tie.Need-returns
returns-2 c =
    let start = c.before.before.before.before.before.before.before.before.before in
    let b = c.before.before.before.before.before.build_all-n in (
      omega (arith, start.requires.1, b.auto.a),
      rw c.number_of-last.ensures
          (cut-half b.new.a b.result (length b.new.a / 2) start.requires.0 b.ensures.1 b.ensures.0 (omega (arith, start.requires.1, b.auto.a)) (omega (arith, c.before.before.if-n-half.false))),
    )

pub cut_spec : {M : Type 1} → statement M
cut_spec =
    tie.close
    (tie.spec
    (λ c κs. search rules)
    (λ c. search rules)
    returns
    (λ c. search rules)
    (λ c. search rules)
    (λ c. search rules)
    number-of-requires
    (λ c. search rules)
    returns-2)
