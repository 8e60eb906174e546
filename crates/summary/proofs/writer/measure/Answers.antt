use mathlib.Core.Path.{sym, ap, ap₂}
use mathlib.Core.Bool.{true}
use Prim.Native.Nat.{ℕ}
use native.Mathlib.Omega.{arith}
use lib.ListN.{length}
use Rattle.page.specs.Rows.{visible}
use Rattle.page.proofs.Listing.{listable}
use Rattle.page.proofs.RowLists.{row_next, rows_all, row-none, row-stands}
use Rattle.page.proofs.Verdicts.{accepted-size}
use Rattle.page.proofs.Visibility.{empty}
use Rattle.summary.specs.Summary.{row_bytes}
use Rattle.summary.specs.declared.Measured.{Measured}
use Rattle.summary.proofs.RowBytes.{rest_all, rest-none, counted, measured, few-rows, few-row-bytes}
use Rattle.summary.proofs.writer.measure.Goals as goal

pub loop-row-init : goal.loop-row-init
loop-row-init c = let s = c.args.p.pages.now in record { counted = omega (arith, ap length (rows_all visible s)); measured = omega (arith, ap length (rest_all s)) }

pub overflow_add-rows : goal.overflow_add-rows
overflow_add-rows c = record { fits = omega (arith, c.loop-row.invariant.counted, few-rows c.args.p.pages.now (listable c.args.p.magic c.args.p.pages.now c.args.p.good) (accepted-size c.args.p.magic c.args.p.pages.now 0 c.args.p.good).1) }

pub overflow_add-bytes : goal.overflow_add-bytes
overflow_add-bytes c = record { fits = omega (arith, c.loop-row.invariant.measured, few-row-bytes c.args.p.pages.now (listable c.args.p.magic c.args.p.pages.now c.args.p.good) (accepted-size c.args.p.magic c.args.p.pages.now 0 c.args.p.good).1, c.three_size-bytes.ensures.1) }

pub overflow_add-slot : goal.overflow_add-slot
overflow_add-slot c =
    record { fits = omega (arith, (row-stands visible (empty true) c.args.p.pages.now (listable c.args.p.magic c.args.p.pages.now c.args.p.good) c.loop-row.page c.loop-row.slot c.in-Some.row (sym c.in-Some.ensures)).low) }

pub loop-row-preserved : goal.loop-row-preserved
unfolding row_bytes
loop-row-preserved c =
    let s = c.args.p.pages.now in
    let l = c.loop-row in
    record {
      counted = counted s l.page l.slot l.rows l.bytes c.in-Some.row (sym c.in-Some.ensures) l.invariant.counted;
      measured = omega (arith, measured s l.page l.slot l.rows l.bytes c.in-Some.row (sym c.in-Some.ensures) l.invariant.measured, c.three_size-bytes.ensures.0);
    }

pub loop-row-smaller : goal.loop-row-smaller
loop-row-smaller c = omega (arith, ap length (row_next visible c.args.p.pages.now c.loop-row.page c.loop-row.slot c.in-Some.row (sym c.in-Some.ensures)))

abbrev counts : ℕ → ℕ → Measured
counts rows bytes = record { rows = rows; bytes = bytes }

pub returns : goal.returns
returns c =
    let s = c.args.p.pages.now in
    let l = c.loop-row in
    let none = row-none visible s l.page l.slot (sym c.in_default.ensures) in
    ap₂ counts (omega (arith, l.invariant.counted, ap length none)) (omega (arith, l.invariant.measured, ap length (rest-none s l.page l.slot none)))

pub next_noted-requires-clause-listable : goal.next_noted-requires-clause-listable
next_noted-requires-clause-listable c = listable c.args.p.magic c.args.p.pages.now c.args.p.good
