use Rattle.std.proofs.Common.{◌∙◌}
use Rattle.page.specs.Layout.{count_of}
use Rattle.intake.specs.Places.{wide}
use Rattle.intake.proofs.Searching.{both-kept, both-new}
use Rattle.intake.proofs.search.met_slots.Goals as goal
use Rattle.intake.proofs.search.met_slots.Goals.{in-Some, in-None}

pub returns : goal.returns
returns c =
    let a = c.args in
    let p = a.page.now in
    elim c.match-known.branch [
      | in-Some w ↦ both-kept (wide a.low a.high) a.index p (count_of p) a.known c.short_slots.result c.short_slots.ensures.0 c.match-known.order w.in-Some.o w.in-Some.is w.order-is
      | in-None w ↦ both-new (wide a.low a.high) a.index p (count_of p) a.known c.short_slots.result c.short_slots.ensures.0 c.match-known.order w.in-None.is (w.order-is ∙ w.first_order-order.ensures)
    ]
