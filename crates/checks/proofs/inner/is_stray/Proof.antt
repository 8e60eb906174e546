use Prim.Native.Nat.{ℕ, ◌+◌, ◌*◌, min}
use mathlib.Core.Path.{◌≡◌, sym, ap, ◌∙◌}
use mathlib.Core.Bool.{true, not}
use lib.ListN.{get_or}
use lib.Dec.{eqb}
use native.Mathlib.Omega.{arith}
use Rattle.wal.specs.Prefix.{said}
use Rattle.page.specs.Layout.{page_bytes, data_type}
use Rattle.rules.specs.Shape.{is_change, is_changing, page_of}
use Rattle.rules.proofs.Tests.{not-true}
use borrow.Author.Tests.{not-false}
use Rattle.cells.proofs.Keys.{KeyAt, key-at}
use Rattle.checks.proofs.StrayLaws.{no_stray, stray-beyond, stray-type}
use borrow.Author.Rules.{rules}
use Rattle.checks.proofs.inner.is_stray.Statement.{statement}
use Rattle.checks.proofs.inner.is_stray.Tie as tie

kind-is : (c : tie.After-is_change) → c.is_change.result ≡ is_change (said c.args.log.now c.args.at)
kind-is c = c.is_change.ensures ∙ ap is_changing c.requires.1.0

change : (c : tie.Else-not-is_change) → is_change (said c.args.log.now c.args.at) ≡ true
change c = sym (kind-is c.before) ∙ not-false c.is_change.result (ap not c.if-not-is_change.false)

key : (c : tie.Else-not-is_change) → KeyAt c.args.log.now c.args.at
key c = let p = c.requires in key-at p.0 (change c) p.1.1

-- the page that was read, or the number of pages
page : (c : tie.After-page_at-i) → c.page_at-i.result ≡ min (page_of (said c.args.log.now c.args.at)) c.args.n
page c = c.page_at-i.ensures ∙ ap (λ (x : ℕ). min x c.args.n) (sym (key c.before).page)

returns : tie.Need-returns-then-not-is_change
returns c = sym (no_stray _ _ (sym (kind-is c.before) ∙ not-true c.is_change.result (ap not c.if-not-is_change.true)))

page-at-requires : tie.Need-page_at-i-requires
page-at-requires c κs = (key c).room

returns-2 : tie.Need-returns-then-n-i
returns-2 c =
    let f = c.before.before in
    sym (stray-beyond _ _ (change f) (omega (arith, page c.before, c.if-n-i.true, f.requires.1.2)))

returns-3 : tie.Need-returns
returns-3 c =
    let p = c.before.before in
    let f = c.before.before.before in
    let a = f.args in
    let i : p.page_at-i.result ≡ page_of (said a.log.now a.at) = omega (arith, page p, c.if-n-i.false) in
    let lent = f.requires.1.2 in
    ap (λ (x : ℕ). not (eqb (get_or a.pages.now (x * page_bytes + 8) 0) data_type)) i ∙ sym (stray-type _ _ (change f) (omega arith))

pub is_stray_spec : {M : Type 1} → statement M
is_stray_spec =
    tie.close
    (tie.spec (λ c κs. search rules) returns page-at-requires returns-2 (λ c. search rules) (λ c. search rules) (λ c. search rules) returns-3)
