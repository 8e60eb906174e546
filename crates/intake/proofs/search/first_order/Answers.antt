use Rattle.std.proofs.Common.{◌∙◌, arith}
use Rattle.page.specs.Layout.{count_of}
use Rattle.intake.specs.Places.{wide}
use Rattle.intake.proofs.Searching.{slot-low, first-long, order-first, order-room, order-none}
use Rattle.intake.proofs.search.first_order.Goals as goal

pub returns-in_err-k : goal.returns-in_err-k
returns-in_err-k c = let p = c.args.page.now in c.from_residual.ensures ∙ order-none (wide c.args.low c.args.high) c.args.index p (count_of p) c.in_err-k.ensures

pub slot_off-at-requires : goal.slot_off-at-requires
slot_off-at-requires c =
    let p = c.args.page.now in
    let d = c.requires.data_good in
    (c.requires.page_len, slot-low p d c.in_ok-k.k (first-long (wide c.args.low c.args.high) c.args.index p c.requires.page_len d c.in_ok-k.k c.in_ok-k.ensures).0)

pub order_at-requires : goal.order_at-requires
order_at-requires c =
    let p = c.args.page.now in
    omega (arith, order-room (wide c.args.low c.args.high) c.args.index p c.requires.page_len c.requires.data_good c.in_ok-k.k c.in_ok-k.ensures c.slot_off-at.result c.slot_off-at.ensures.0)

pub returns : goal.returns
returns c =
    let p = c.args.page.now in
    order-first (wide c.args.low c.args.high) c.args.index p c.requires.page_len c.requires.data_good c.in_ok-k.k c.in_ok-k.ensures c.slot_off-at.result c.slot_off-at.ensures.0 c.order_at.result c.order_at.ensures
