use mathlib.Core.Path.{sym, ap, ◌∙◌}
use Rattle.std.proofs.Common.{Some, arith}
use Rattle.page.specs.Layout.{slot_at}
use Rattle.page.proofs.Listing.{slots-from, slot-passed, slot-found, slots-done}
use Rattle.page.proofs.Visibility.{shown-none, shown-some}
use Rattle.page.proofs.rows.row_of.Goals as goal

pub loop-k-init : goal.loop-k-init
loop-k-init c = slots-from _ _ _ _ _

pub returns-in-Some : goal.returns-in-Some
returns-in-Some c =
    let h = shown-some c.args.live (slot_at c.args.page.now c.loop-k.k) _ (sym c.in-Some.ensures) in
    ap Some c.row_in.ensures ∙ sym (slot-found _ _ _ _ _ c.loop-k.k (omega arith) c.loop-k.auto.k h.0) ∙ c.loop-k.invariant

pub loop-k-preserved : goal.loop-k-preserved
loop-k-preserved c =
    let h = shown-none c.args.live (slot_at c.args.page.now c.loop-k.k) (sym c.shown_len.ensures ∙ c.in_default.is) in
    sym (slot-passed _ _ _ _ _ c.loop-k.k (omega arith) h) ∙ c.loop-k.invariant

pub returns : goal.returns
returns c = sym (slots-done _ _ _ _ _ c.loop-k.k (omega arith)) ∙ c.loop-k.invariant
