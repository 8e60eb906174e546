use mathlib.Core.Path.{◌∙◌}
use Rattle.summary.specs.Summary.{page_rule, slot_rule, length_rule, row_step}
use Rattle.refusals.proofs.Told.{handed-on}
use Rattle.summary.proofs.Threes.{first-refused, second-refused, third-refused, all-taken}
use Rattle.summary.proofs.reader.judged_row.Goals as goal

pub returns-in_err-own_page : goal.returns-in_err-own_page
returns-in_err-own_page c =
    handed-on _ _ c.from_residual.ensures.1
    ∙ first-refused (page_rule c.args.page) (slot_rule c.args.page c.args.slot) length_rule c.args.file.now c.args.at (row_step c.args.file.now c.args.at) _ c.in_err-own_page.ensures

pub returns-in_err-own_slot : goal.returns-in_err-own_slot
returns-in_err-own_slot c =
    handed-on _ _ c.from_residual-in_err-own_slot.ensures.1
    ∙ second-refused (page_rule c.args.page) (slot_rule c.args.page c.args.slot) length_rule c.args.file.now c.args.at (row_step c.args.file.now c.args.at) c.in_ok-own_page.own_page c.in_ok-own_page.ensures _ c.in_err-own_slot.ensures

pub returns-in_err-length : goal.returns-in_err-length
returns-in_err-length c =
    handed-on _ _ c.from_residual-in_err-length.ensures.1
    ∙ third-refused (page_rule c.args.page) (slot_rule c.args.page c.args.slot) length_rule c.args.file.now c.args.at (row_step c.args.file.now c.args.at) c.in_ok-own_page.own_page c.in_ok-own_page.ensures c.in_ok-own_slot.own_slot c.in_ok-own_slot.ensures _ c.in_err-length.ensures

pub returns : goal.returns
returns c =
    let t = all-taken (page_rule c.args.page) (slot_rule c.args.page c.args.slot) length_rule c.args.file.now c.args.at (row_step c.args.file.now c.args.at) c.in_ok-own_page.own_page c.in_ok-own_page.ensures c.in_ok-own_slot.own_slot c.in_ok-own_slot.ensures c.in_ok-length.length c.in_ok-length.ensures in
    rw (t.value₁, t.value₂, t.value₃, t.after₃) t.answer
