use mathlib.Core.Path.{◌≡◌, ap, ◌∙◌}
use Rattle.page.specs.Layout.{page_bytes}
use lib.ListN.{length}
use Prim.Native.Nat.{ℕ}
use lib.Dec.{eqb}
use Rattle.std.proofs.Common.{arith}
use Rattle.page.proofs.Visibility.{seen-deleted, seen-xmax}
use Rattle.page.proofs.rows.is_visible.Goals as goal

pub returns-then-deleted : goal.returns-then-deleted
returns-then-deleted c =
    let size : length c.args.page.now ≡ page_bytes = omega arith in
    seen-deleted _ size c.requires.data_good _ c.requires.k_bound.0 c.requires.k_bound.1 _ c.slot_off-o.ensures.0 (omega arith)

-- what the test of the deleted byte says is left to omega, so that no answer is named after the test
pub returns : goal.returns
returns c =
    let size : length c.args.page.now ≡ page_bytes = omega arith in
    ap (λ (n : ℕ). eqb n 0) c.u64_at.ensures
    ∙ seen-xmax _ size c.requires.data_good _ c.requires.k_bound.0 c.requires.k_bound.1 _ c.slot_off-o.ensures.0 (omega arith)
