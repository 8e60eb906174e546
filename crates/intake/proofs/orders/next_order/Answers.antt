use Rattle.std.proofs.Common.{sym, ap, ◌∙◌, length, arith}
use Rattle.endian.specs.Numbers.{Bytes}
use Rattle.page.specs.Rows.{visible}
use Rattle.page.proofs.RowLists.{row_next, row-none}
use Rattle.intake.proofs.OrderRows.{offset-small, place-good}
use Rattle.intake.proofs.Walking.{met-sound, places-end, places-passed, places-here}
use Rattle.intake.proofs.orders.next_order.Goals as goal

pub overflow_add-k : goal.overflow_add-k
overflow_add-k c =
    let sound = met-sound c.args.pages.now c.requires.listable c.loop-row.i c.loop-row.k c.in-Some.row (sym c.in-Some.ensures) in
    omega (arith, sound.stands.low)

pub place_of-requires : goal.place_of-requires
place_of-requires c =
    let s = c.args.pages.now in
    let sound = met-sound s c.requires.listable c.loop-row.i c.loop-row.k c.in-Some.row (sym c.in-Some.ensures) in
    let few = c.requires.pages_len_bound in
    (omega (arith, sound.lent, few), omega (arith, sound.stands.low), omega (arith, offset-small s c.in-Some.row sound.stands few))

pub returns-then-row-ge-TUPLE_BYTES : goal.returns-then-row-ge-TUPLE_BYTES
returns-then-row-ge-TUPLE_BYTES c =
    let s = c.args.pages.now in
    let met = sym c.in-Some.ensures in
    let sound = met-sound s c.requires.listable c.loop-row.i c.loop-row.k c.in-Some.row met in
    let few = c.requires.pages_len_bound in
    let long = c.if-row-ge-TUPLE_BYTES.true in
    let bytes : Bytes s = record { at = λ i. omega (arith, c.type_inv.pages i) } in
    rw c.place_of.ensures
    (sym c.loop-row.invariant ∙ places-here s c.loop-row.i c.loop-row.k c.in-Some.row met sound.stands long, place-good s c.in-Some.row sound.stands few long bytes (omega (arith, sound.lent, few)))

pub loop-row-smaller : goal.loop-row-smaller
loop-row-smaller c = omega (arith, ap length (row_next visible c.args.pages.now c.loop-row.i c.loop-row.k c.in-Some.row (sym c.in-Some.ensures)))

pub loop-row-preserved : goal.loop-row-preserved
loop-row-preserved c =
    let s = c.args.pages.now in
    let met = sym c.in-Some.ensures in
    let sound = met-sound s c.requires.listable c.loop-row.i c.loop-row.k c.in-Some.row met in
    places-passed s c.loop-row.i c.loop-row.k c.in-Some.row met sound.stands c.if-row-ge-TUPLE_BYTES.false ∙ c.loop-row.invariant

pub returns : goal.returns
returns c =
    let s = c.args.pages.now in
    sym c.loop-row.invariant ∙ places-end s c.loop-row.i c.loop-row.k (row-none visible s c.loop-row.i c.loop-row.k (sym c.next_row.ensures ∙ c.in_default.is))
