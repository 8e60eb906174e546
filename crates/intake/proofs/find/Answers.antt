use Rattle.std.proofs.Common.{Err, refl, sym, ap, ◌∙◌}
use Rattle.refusals.proofs.Told.{refused-at}
use Rattle.intake.specs.Orders.{mark_of, order_found}
use Rattle.intake.proofs.Searching.{find-size, mark-read}
use Rattle.intake.proofs.find.Goals as goal

pub returns-then-size_wrong : goal.returns-then-size_wrong
returns-then-size_wrong c =
    let why = c.at.ensures.why in
    ap Err (refused-at c.at.result 1 0 (rw why refl) c.at.ensures.place) ∙ find-size c.args.magic c.args.pages.now (mark_of c.args.mark.now) (sym c.size_wrong.ensures ∙ c.if-size_wrong.true)

pub returns : goal.returns
returns c =
    c.find.ensures
    ∙ ap (order_found c.args.magic c.args.pages.now) (mark-read c.args.mark.now c.u64_at-low.result c.u64_at-high.result c.u64_at-low.ensures c.u64_at-high.ensures)
