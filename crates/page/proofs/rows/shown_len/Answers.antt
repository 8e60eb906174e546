use mathlib.Core.Path.{◌≡◌, sym, ◌∙◌}
use Rattle.std.proofs.Common.{arith}
use Rattle.page.specs.Layout.{page_bytes}
use lib.ListN.{length}
use Rattle.page.proofs.Visibility.{shown-empty, slot-length, length-shown}
use Rattle.page.proofs.rows.shown_len.Goals as goal

pub returns-then-n-eq0 : goal.returns-then-n-eq0
returns-then-n-eq0 c =
    let size : length c.args.page.now ≡ page_bytes = omega arith in
    shown-empty _ size c.requires.data_good _ c.requires.k_bound c.args.live (sym c.if-n-eq0.true ∙ c.slot_len-n.ensures.0)

pub returns-then-is_shown : goal.returns-then-is_shown
returns-then-is_shown c =
    let size : length c.args.page.now ≡ page_bytes = omega arith in
    let n = c.slot_len-n.ensures.0 in
    let l = slot-length c.args.page.now size c.requires.data_good c.args.k c.requires.k_bound (omega (arith, n)) in
    length-shown c.args.live _ _ c.is_shown.ensures c.if-is_shown.true _ (n ∙ sym l)
