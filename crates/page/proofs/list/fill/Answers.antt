use mathlib.Core.Path.{ap, sym, ◌∙◌}
use Rattle.std.proofs.Common.{length, arith}
use Rattle.page.proofs.Visibility.{empty}
use Rattle.page.proofs.RowLists.{row-none, row_next, row-stands, given-length, given-more, given-end, given-full}
use Rattle.page.proofs.list.fill.Goals as goal

pub overflow_add-k : goal.overflow_add-k
overflow_add-k c = record { fits = omega (arith, (row-stands _ (empty c.args.live) _ c.requires.listable _ _ _ (sym c.in-Some.ensures)).low) }

pub loop-row-smaller : goal.loop-row-smaller
loop-row-smaller c = omega (arith, ap length (row_next _ _ _ _ _ (sym c.in-Some.ensures)))

pub loop-row-preserved : goal.loop-row-preserved
loop-row-preserved c =
    let g = c.loop-row.invariant in
    given-more _ _ _ _ _ g _ _ (sym c.in-Some.ensures) (omega (arith, given-length _ _ _ _ _ g)) c.put_row.ensures

pub returns-then-full-clause-value : goal.returns-then-full-clause-value
returns-then-full-clause-value c =
    let g = c.loop-row.invariant in
    (given-full _ _ _ _ _ g _ (sym c.in-Some.ensures) (omega (arith, given-length _ _ _ _ _ g))).0

pub returns-then-full-clause-out_after : goal.returns-then-full-clause-out_after
returns-then-full-clause-out_after c =
    let g = c.loop-row.invariant in
    (given-full _ _ _ _ _ g _ (sym c.in-Some.ensures) (omega (arith, given-length _ _ _ _ _ g))).1

pub returns-clause-value : goal.returns-clause-value
returns-clause-value c = (given-end _ _ _ _ _ c.loop-row.invariant (row-none _ _ _ _ (sym c.next_shown.ensures ∙ c.in_default.is))).0

pub returns-clause-out_after : goal.returns-clause-out_after
returns-clause-out_after c = (given-end _ _ _ _ _ c.loop-row.invariant (row-none _ _ _ _ (sym c.next_shown.ensures ∙ c.in_default.is))).1
