-- The first rows are lent.
-- Assumes nothing.
use mathlib.Core.Path.{sym, subst}
use Prim.Native.Nat.{ℕ, ◌*◌, ◌<◌}
use mathlib.Core.List.{List}
use lib.ListN.{length, get_or}
use lib.Seq.{length-take-le}
use borrow.Author.Rules.{rules}
use native.Mathlib.Omega.{arith}
use Rattle.table.specs.Flat.{stride}
use Rattle.table.specs.Rows.{blank, Rising}
use Rattle.table.specs.declared.Row.{Row}
use Rattle.table.proofs.Storing.{rows_take}
use Rattle.table.proofs.Rising.{front-entered, front-left}
use Rattle.table.proofs.inner.enter_front.Statement.{statement}
use Rattle.table.proofs.inner.enter_front.Tie as tie

aggregate : tie.Need-slice_bounds-enter-end-2
aggregate c = let start = c.before.before.before in sym (length-take-le _ _ (omega (arith, start.requires.1.1.0)))

enter-requires : tie.Need-enter-requires
enter-requires c κs =
    let start = c.before.before.before.before in
    let pre = start.requires in
    let e = rows_take start.args.a.now start.args.n pre.1.1.0 in
    let l = length-take-le (stride * start.args.n) start.args.a.now (omega (arith, pre.1.1.0)) in
    (subst (Rising 0) (sym e) pre.0, (subst (λ (x : List Row). (i : ℕ) → i < length x → (get_or x i blank).changes < 18446744073709551615) (sym e) pre.1.0, (omega (arith, l), pre.1.1.1, omega (arith, l, pre.1.1.2), pre.1.1.2)))

returns : tie.Need-returns
returns c =
    let enter = c.before.before.before.before in
    let start = enter.before.before.before.before.before in
    let h = start.requires.1.1.0 in
    (front-entered _ _ _ h enter.enter.auto.a enter.enter.ensures.0, front-left _ enter.enter.new.a _ h enter.enter.auto.a)

pub enter_front_spec : {M : Type 1} → statement M
enter_front_spec = tie.close (tie.spec (λ c. search rules) (λ c. search rules) aggregate enter-requires (λ c. search rules) (λ c. search rules) returns)
