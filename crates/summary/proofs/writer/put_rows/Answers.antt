use mathlib.Core.Path.{sym, ap, ◌∙◌}
use mathlib.Core.Bool.{true}
use native.Mathlib.Omega.{arith}
use lib.ListN.{length}
use Rattle.page.specs.Rows.{visible}
use Rattle.page.proofs.Listing.{listable}
use Rattle.page.proofs.RowLists.{row_next, row-none, row-stands}
use Rattle.page.proofs.Visibility.{empty}
use Rattle.summary.specs.Summary.{row_bytes}
use Rattle.summary.specs.Inner.{put}
use Rattle.summary.proofs.Grouping.{put-none}
use Rattle.summary.proofs.RowBytes.{rest_all, rest-none, row_room, put-room, put_rest}
use Rattle.summary.proofs.writer.put_rows.Goals as goal

pub loop-row-init : goal.loop-row-init
loop-row-init c =
    let e = rest_all c.args.p.pages.now in
    record { room = omega (arith, ap length e, c.requires); put-so-far = ap (put c.args.area.now c.args.first) e }

pub put_three-at-requires : goal.put_three-at-requires
unfolding row_bytes
put_three-at-requires c = let l = c.loop-row in row_room c.args.p.pages.now l.page l.slot l.at l.area c.in-Some.row (sym c.in-Some.ensures) l.invariant.room

pub overflow_add-slot : goal.overflow_add-slot
overflow_add-slot c =
    record { fits = omega (arith, (row-stands visible (empty true) c.args.p.pages.now (listable c.args.p.magic c.args.p.pages.now c.args.p.good) c.loop-row.page c.loop-row.slot c.in-Some.row (sym c.in-Some.ensures)).low) }

pub loop-row-preserved : goal.loop-row-preserved
unfolding row_bytes
loop-row-preserved c =
    let s = c.args.p.pages.now in
    let l = c.loop-row in
    let r = c.put_three-at in
    record {
      room = put-room s l.page l.slot l.at l.area c.in-Some.row (sym c.in-Some.ensures) l.invariant.room r.new.area r.result r.ensures.area_after r.ensures.value;
      put-so-far = put_rest s l.page l.slot l.at l.area c.in-Some.row (sym c.in-Some.ensures) l.invariant.room r.new.area r.result r.ensures.area_after r.ensures.value ∙ l.invariant.put-so-far;
    }

pub loop-row-smaller : goal.loop-row-smaller
loop-row-smaller c = omega (arith, ap length (row_next visible c.args.p.pages.now c.loop-row.page c.loop-row.slot c.in-Some.row (sym c.in-Some.ensures)))

pub returns : goal.returns
returns c =
    let s = c.args.p.pages.now in
    let l = c.loop-row in
    let none = row-none visible s l.page l.slot (sym c.in_default.ensures) in
    sym (put-none l.area l.at) ∙ ap (put l.area l.at) (sym (rest-none s l.page l.slot none)) ∙ l.invariant.put-so-far

pub next_noted-requires-clause-listable : goal.next_noted-requires-clause-listable
next_noted-requires-clause-listable c = listable c.args.p.magic c.args.p.pages.now c.args.p.good
