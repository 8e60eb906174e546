use native.Mathlib.Omega.{arith}
use borrow.Author.Rules.{rules}
use Rattle.intake.proofs.Halves.{lower_high, higher-high, same-high}
use Rattle.intake.proofs.Sorting.{low_small}
use Rattle.intake.proofs.pairs.below.Statement.{statement}
use Rattle.intake.proofs.pairs.below.Tie as tie

returns : tie.Need-returns-then-h-high
returns c =
    let a = c.before.before.before in
    lower_high _ _ a.args.low a.args.high (low_small a.args.pages.now a.args.x a.requires) (omega arith) (omega (arith, c.if-h-high.true, c.before.high_at-h.ensures))

returns-2 : tie.Need-returns-then-high-h
returns-2 c =
    let a = c.before.before.before.before in
    higher-high _ _ a.args.low a.args.high (low_small a.args.pages.now a.args.x a.requires) (omega arith) (omega (arith, c.if-high-h.true, c.before.before.high_at-h.ensures))

returns-3 : tie.Need-returns
returns-3 c =
    let a = c.before.before.before.before.before in
    rw c.low_at.ensures (same-high _ _ a.args.low a.args.high (low_small a.args.pages.now a.args.x a.requires) (omega arith) (omega (arith, c.before.before.if-h-high.false, c.before.before.before.high_at-h.ensures)) (omega (arith, c.before.if-high-h.false, c.before.before.before.high_at-h.ensures)))

pub below_spec : {M : Type 1} → statement M
below_spec = tie.close (tie.spec (λ c κs. search rules) returns returns-2 (λ c κs. search rules) returns-3)
