use Rattle.std.proofs.Common.{arith, sym, ap, ◌∙◌}
use Rattle.rules.specs.Shape.{is_changing}
use Rattle.cells.proofs.Keys.{key-at}
use Rattle.clash.proofs.VerdictLaws.{no-change-beyond, low-beyond, high-beyond}
use Rattle.clash.proofs.inner.touch_beyond.Goals as goal

pub returns-then-not-is_change : goal.returns-then-not-is_change
returns-then-not-is_change c =
    sym (no-change-beyond _ _ _ (record { at = λ i. omega (arith, c.type_inv.log i) }) (ap is_changing (sym c.requires.kind_value.0) ∙ sym c.is_change.ensures ∙ c.if-not-is_change.true))

pub overflow_add-at : goal.overflow_add-at
overflow_add-at c =
    let p = c.requires in
    omega (arith, (key-at p.stands (ap is_changing (sym p.kind_value.0) ∙ sym c.is_change.ensures ∙ c.if-not-is_change.false) p.kind_value.2).room, c.well_formed.0)

pub u64_at-page-requires : goal.u64_at-page-requires
u64_at-page-requires c =
    let p = c.requires in
    omega (arith, (key-at p.stands (ap is_changing (sym p.kind_value.0) ∙ sym c.is_change.ensures ∙ c.if-not-is_change.false) p.kind_value.2).room)

pub returns-then-page-n : goal.returns-then-page-n
returns-then-page-n c =
    let p = c.requires in
    let k = key-at p.stands (ap is_changing (sym p.kind_value.0) ∙ sym c.is_change.ensures ∙ c.if-not-is_change.false) p.kind_value.2 in
    sym (low-beyond _ _ _ (record { at = λ i. omega (arith, c.type_inv.log i) }) (omega (arith, k.page, c.u64_at-page.ensures, c.if-page-n.true)))

pub returns : goal.returns
returns c =
    let p = c.requires in
    let k = key-at p.stands (ap is_changing (sym p.kind_value.0) ∙ sym c.is_change.ensures ∙ c.if-not-is_change.false) p.kind_value.2 in
    high-beyond _ _ _ (record { at = λ i. omega (arith, c.type_inv.log i) }) (omega (arith, k.page, c.u64_at-page.ensures, c.if-page-n.false)) c.clashes_back.ensures
