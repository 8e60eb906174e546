use mathlib.Core.Path.{◌≡◌, ◌∙◌}
use mathlib.Core.Bool.{true}
use lib.ListN.{length}
use Rattle.std.proofs.Common.{arith}
use Rattle.page.specs.Layout.{page_bytes, slot_at}
use Rattle.page.specs.Rows.{visible}
use Rattle.page.proofs.Visibility.{slot-length, shows-known, shows-as}
use Rattle.page.proofs.rows.is_shown.Goals as goal
use Rattle.page.proofs.rows.is_shown.Goals.{then-noted, else-noted}

-- on a page that is noted each tuple is visible
pub returns : goal.returns
returns c =
    let size : length c.args.page.now ≡ page_bytes = omega arith in
    let n = slot-length c.args.page.now size c.requires.data_good c.args.k c.requires.k_bound.0 c.requires.k_bound.1 in
    let seen : c.if-noted.result ≡ visible (slot_at c.args.page.now c.args.k) =
    elim c.if-noted.branch [
      | then-noted w ↦ w.result-is ∙ w.if-noted.true ∙ shows-known true _ ((c.requires.none_cancelled w.if-noted.true).at c.args.k c.requires.k_bound.0) (omega arith)
      | else-noted w ↦ w.result-is ∙ w.is_visible.ensures
    ] in
    shows-as c.args.live _ _ seen (omega arith)
