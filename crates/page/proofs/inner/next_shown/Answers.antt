use mathlib.Core.Path.{sym, ap, ◌∙◌}
use Prim.Native.Nat.{ℕ}
use mathlib.Core.List.{List}
use Rattle.std.proofs.Common.{arith}
use Rattle.page.specs.Rows.{shown, page_rows, first_at}
use Rattle.page.proofs.Listing.{pages-from, page-some, page-passed, pages-done}
use Rattle.page.proofs.inner.next_shown.Goals as goal

pub loop-i-init : goal.loop-i-init
loop-i-init c = pages-from _ _ _ _ _

pub returns-in-Some : goal.returns-in-Some
returns-in-Some c =
    let l = c.loop-i in
    let e = c.in-Some.ensures ∙ ap (λ (p : List ℕ). first_at l.i l.k (page_rows (shown c.args.live) l.i p)) c.page_at.ensures.bytes in
    sym (page-some _ l.i l.k _ _ (omega arith) _ (sym e)) ∙ l.invariant

pub loop-i-preserved : goal.loop-i-preserved
loop-i-preserved c =
    let l = c.loop-i in
    let e = c.row_on.ensures ∙ ap (λ (p : List ℕ). first_at l.i l.k (page_rows (shown c.args.live) l.i p)) c.page_at.ensures.bytes in
    sym (page-passed _ l.i l.k _ _ (omega arith) (sym e ∙ c.in_default.is)) ∙ l.invariant

pub returns : goal.returns
returns c = sym (pages-done _ _ _ _ _ (omega arith)) ∙ c.loop-i.invariant
