-- The page and the slot of a change stand in its key.
use Rattle.std.proofs.Common.{arith, sym, ap, ◌∙◌, ◌≡◌, ◌≤◌, ◌<◌, ℕ, List, Bool, true, subst, get_or, min}
use Rattle.wal.specs.Prefix.{said}
use Rattle.rules.specs.Shape.{is_change, is_changing, page_of, slot_of}
use Rattle.cells.proofs.Keys.{key-at}
use Rattle.clash.proofs.GroupLaws.{no-change-cell, read_low, read-high, read-page, read-own}
use Rattle.clash.proofs.inner.cell_for.Goals as goal

change : (log : List ℕ) (at : ℕ) {kind : ℕ} {r : Bool} → kind ≡ (said log at).kind → r ≡ is_changing kind → r ≡ true → is_change (said log at) ≡ true
change log at e f z = ap is_changing (sym e) ∙ sym f ∙ z

pub returns-then-not-is_change : goal.returns-then-not-is_change
returns-then-not-is_change c = sym (no-change-cell _ _ _ _ (ap is_changing (sym c.requires.kind_value.0) ∙ sym c.is_change.ensures ∙ c.if-not-is_change.true))

pub page_at-i-requires : goal.page_at-i-requires
page_at-i-requires c = let p = c.requires in (key-at p.stands (change _ _ p.kind_value.0 c.is_change.ensures c.if-not-is_change.false) p.kind_value.1).room

pub returns-then-i-lo : goal.returns-then-i-lo
returns-then-i-lo c =
    let p = c.requires in
    let h = change _ _ p.kind_value.0 c.is_change.ensures c.if-not-is_change.false in
    let k = key-at p.stands h p.kind_value.1 in
    sym (read_low _ _ _ _ h _ (c.page_at-i.ensures ∙ ap (λ (x : ℕ). min x c.args.hi) (sym k.page)) p.kind_value.2 c.if-i-lo.true)

pub returns-then-i-hi : goal.returns-then-i-hi
returns-then-i-hi c =
    let p = c.requires in
    let h = change _ _ p.kind_value.0 c.is_change.ensures c.if-not-is_change.false in
    let k = key-at p.stands h p.kind_value.1 in
    sym (read-high _ _ _ _ h _ (c.page_at-i.ensures ∙ ap (λ (x : ℕ). min x c.args.hi) (sym k.page)) (omega arith) c.if-i-hi.true)

pub overflow_add-at : goal.overflow_add-at
overflow_add-at c =
    let p = c.requires in
    omega (arith, (key-at p.stands (change _ _ p.kind_value.0 c.is_change.ensures c.if-not-is_change.false) p.kind_value.1).room, c.well_formed.0)

pub u16_at-k-requires : goal.u16_at-k-requires
u16_at-k-requires c =
    let p = c.requires in
    omega (arith, (key-at p.stands (change _ _ p.kind_value.0 c.is_change.ensures c.if-not-is_change.false) p.kind_value.1).room)

pub cell_at-requires : goal.cell_at-requires
cell_at-requires c =
    let p = c.requires in
    let a = c.args in
    let h = change _ _ p.kind_value.0 c.is_change.ensures c.if-not-is_change.false in
    let k = key-at p.stands h p.kind_value.1 in
    let i : c.page_at-i.result ≡ page_of (said a.log.now a.at) =
    read-page a.starts.now a.lo a.hi (said a.log.now a.at) h _ (c.page_at-i.ensures ∙ ap (λ (x : ℕ). min x a.hi) (sym k.page)) (omega arith) (omega arith)
    in
    let lo : a.lo ≤ page_of (said a.log.now a.at) = omega arith in
    let hi : page_of (said a.log.now a.at) < a.hi = omega arith in
    let slot : c.u16_at-k.result ≡ slot_of (said a.log.now a.at) = c.u16_at-k.ensures ∙ sym k.slot in (
      omega (arith, p.kind_value.2, p.kind_value.3),
      omega (arith, p.kind_value.3),
      subst (λ (x : ℕ). get_or a.starts.now a.lo 0 ≤ get_or a.starts.now x 0) (sym i) (p.lo_bound h lo hi),
      rw (i, slot) (p.at_bound h lo hi),
    )

pub returns : goal.returns
returns c =
    let p = c.requires in
    let h = change _ _ p.kind_value.0 c.is_change.ensures c.if-not-is_change.false in
    let k = key-at p.stands h p.kind_value.1 in
    read-own _ _ _ _ h _ (c.page_at-i.ensures ∙ ap (λ (x : ℕ). min x c.args.hi) (sym k.page)) (omega arith) (omega arith) _ _ (c.u16_at-k.ensures ∙ sym k.slot) c.cell_at.ensures
