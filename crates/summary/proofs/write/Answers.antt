use mathlib.Core.Path.{◌≡◌, sym, ap, ◌∙◌}
use Prim.Native.Nat.{ℕ, ◌+◌}
use native.Mathlib.Omega.{arith}
use lib.ListN.{length}
use Rattle.std.specs.Prelude.{Err}
use Rattle.refusals.specs.Refusal.{number_of}
use Rattle.refusals.specs.Verdict.{told_by}
use Rattle.refusals.specs.declared.Verdict.{Verdict}
use Rattle.refusals.proofs.Told.{refused-some}
use Rattle.page.specs.Fault.{verdict_of}
use Rattle.page.specs.Rows.{visible_rows}
use Rattle.page.proofs.Listing.{listable}
use Rattle.page.proofs.Verdicts.{accepted-size}
use Rattle.summary.specs.Summary.{head_of, rows_bytes, summary_rows, summary_file}
use Rattle.summary.specs.declared.Measured.{Measured}
use Rattle.refusals.proofs.Told.{handed-on, refused-at}
use Rattle.summary.proofs.RowBytes.{few-row-bytes, length-file}
use Rattle.summary.proofs.WriteLaws.{write-refused, write-short, write_done}
use Rattle.summary.proofs.write.Goals as goal
use Rattle.summary.proofs.write.Goals.{In_ok-verify_noting, After-head_size}

pub returns-in_err-verify_noting-clause-value : goal.returns-in_err-verify_noting-clause-value
returns-in_err-verify_noting-clause-value c =
    let e = c.in_err-verify_noting.field-0.0 in
    handed-on _ _ c.from_residual.ensures.1 ∙ (write-refused c.args.magic c.args.pages.now c.args.lsn.0 c.args.area.now (told_by e) c.in_err-verify_noting.ensures.value (refused-some e)).0

pub returns-in_err-verify_noting-clause-area_after : goal.returns-in_err-verify_noting-clause-area_after
returns-in_err-verify_noting-clause-area_after c =
    let e = c.in_err-verify_noting.field-0.0 in
    (write-refused c.args.magic c.args.pages.now c.args.lsn.0 c.args.area.now (told_by e) c.in_err-verify_noting.ensures.value (refused-some e)).1

-- the pages are not refused
fine : (c : In_ok-verify_noting) → (verdict_of c.args.magic c.args.pages.now).number ≡ 0
fine c = ap (λ (v : Verdict). v.number) (sym c.in_ok-verify_noting.ensures.value)

pub invariant_of-p-clause-good : goal.invariant_of-p-clause-good
invariant_of-p-clause-good c = fine (goal.at.invariant_of-p-clause-good c).In_ok-verify_noting

-- rows and bytes as they were measured, and what is needed as the file's length
module _ (c : After-head_size) where
  rows_are : c.measure-m.result.rows ≡ length (visible_rows c.args.pages.now)
  rows_are = ap (λ (m : Measured). m.rows) c.measure-m.ensures

  bytes-are : c.measure-m.result.bytes ≡ length (rows_bytes (summary_rows c.args.pages.now))
  bytes-are = ap (λ (m : Measured). m.bytes) c.measure-m.ensures

  need : c.head_size.result + c.measure-m.result.bytes ≡ length (summary_file c.args.pages.now c.args.lsn.0)
  need =
      let h = c.head_size.ensures.0 ∙ ap (λ (n : ℕ). length (head_of c.args.lsn.0 n)) rows_are in
      omega (arith, h, bytes-are, length-file c.args.pages.now c.args.lsn.0)

pub overflow_add-need : goal.overflow_add-need
overflow_add-need c =
    let z = fine (goal.at.overflow_add-need c).In_ok-verify_noting in
    let s = c.args.pages.now in
    record { fits = omega (arith, c.head_size.ensures.1, bytes-are (goal.at.overflow_add-need c).After-head_size, few-row-bytes s (listable c.args.magic s z) (accepted-size c.args.magic s 0 z).1) }

pub returns-then-area-need-clause-value : goal.returns-then-area-need-clause-value
returns-then-area-need-clause-value c =
    let z = fine (goal.at.returns-then-area-need-clause-value c).In_ok-verify_noting in
    let n = need (goal.at.returns-then-area-need-clause-value c).After-head_size in
    ap Err (refused-at c.at.result 27 0 (ap number_of c.at.ensures.why) c.at.ensures.place)
    ∙ (write-short c.args.magic c.args.pages.now c.args.lsn.0 c.args.area.now z (c.head_size.result + c.measure-m.result.bytes) n c.if-area-need.true).0

pub returns-then-area-need-clause-area_after : goal.returns-then-area-need-clause-area_after
returns-then-area-need-clause-area_after c =
    let z = fine (goal.at.returns-then-area-need-clause-area_after c).In_ok-verify_noting in
    let n = need (goal.at.returns-then-area-need-clause-area_after c).After-head_size in
    (write-short c.args.magic c.args.pages.now c.args.lsn.0 c.args.area.now z (c.head_size.result + c.measure-m.result.bytes) n c.if-area-need.true).1

pub returns-clause-value : goal.returns-clause-value
returns-clause-value c =
    let z = fine (goal.at.returns-clause-value c).In_ok-verify_noting in
    let n = need (goal.at.returns-clause-value c).After-head_size in
    (write_done c.args.magic c.args.pages.now c.args.lsn.0 c.args.area.now z (c.head_size.result + c.measure-m.result.bytes) n c.if-area-need.false c.put_file.new.area c.put_file.ensures).0

pub returns-clause-area_after : goal.returns-clause-area_after
returns-clause-area_after c =
    let z = fine (goal.at.returns-clause-area_after c).In_ok-verify_noting in
    let n = need (goal.at.returns-clause-area_after c).After-head_size in
    (write_done c.args.magic c.args.pages.now c.args.lsn.0 c.args.area.now z (c.head_size.result + c.measure-m.result.bytes) n c.if-area-need.false c.put_file.new.area c.put_file.ensures).1
