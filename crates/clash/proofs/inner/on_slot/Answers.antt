-- The page and the slot of a change stand in its key.
use Rattle.std.proofs.Common.{arith, sym, ap, ◌∙◌, ◌≡◌, eqb, true, false}
use borrow.Author.Tests.{eqb-true, eqb-false}
use Rattle.wal.proofs.Prefix.{stands_at}
use Rattle.rules.specs.Shape.{is_changing}
use Rattle.states.proofs.Back.{said-kind}
use Rattle.cells.proofs.Keys.{key-at}
use Rattle.clash.proofs.NewestLaws.{off-none, off-page, on-page}
use Rattle.clash.proofs.inner.on_slot.Goals as goal
use Rattle.clash.proofs.inner.on_slot.Goals.{then-is_change, else-is_change}

pub overflow_add-place : goal.overflow_add-place
overflow_add-place c = let k = stands_at c.requires.stands in omega (arith, k.room, k.low, c.well_formed.0)

pub bounds-log-place : goal.bounds-log-place
bounds-log-place c = let k = stands_at c.requires.stands in omega (arith, k.room, k.low)

pub overflow_add-place-then-is_change : goal.overflow_add-place-then-is_change
overflow_add-place-then-is_change c =
    let k = key-at c.requires.stands (ap is_changing (said-kind _ _) ∙ sym c.is_change.ensures ∙ c.if-is_change.true) c.requires.place_value in
    omega (arith, k.room, c.well_formed.0)

pub u64_at-requires : goal.u64_at-requires
u64_at-requires c =
    let k = key-at c.requires.stands (ap is_changing (said-kind _ _) ∙ sym c.is_change.ensures ∙ c.if-is_change.true) c.requires.place_value in
    omega (arith, k.room)

pub overflow_add-place-then-u64_at-page : goal.overflow_add-place-then-u64_at-page
overflow_add-place-then-u64_at-page c =
    elim c.if-is_change.branch [
      | then-is_change w ↦
          let k = key-at c.requires.stands (ap is_changing (said-kind _ _) ∙ sym c.is_change.ensures ∙ w.if-is_change.true) c.requires.place_value in
          omega (arith, k.room, c.well_formed.0)
      | else-is_change w ↦ let z : false ≡ true = sym w.if-is_change.false ∙ sym w.value-is ∙ c.if-u64_at-page.true in cc
    ]

pub u16_at-requires : goal.u16_at-requires
u16_at-requires c =
    elim c.if-is_change.branch [
      | then-is_change w ↦
          let k = key-at c.requires.stands (ap is_changing (said-kind _ _) ∙ sym c.is_change.ensures ∙ w.if-is_change.true) c.requires.place_value in
          omega (arith, k.room)
      | else-is_change w ↦ let z : false ≡ true = sym w.if-is_change.false ∙ sym w.value-is ∙ c.if-u64_at-page.true in cc
    ]

pub returns-then-u64_at-page : goal.returns-then-u64_at-page
returns-then-u64_at-page c =
    elim c.if-is_change.branch [
      | then-is_change w ↦
          let h = ap is_changing (said-kind _ _) ∙ sym c.is_change.ensures ∙ w.if-is_change.true in
          let k = key-at c.requires.stands h c.requires.place_value in
          ap (eqb c.args.slot) (c.u16_at.ensures ∙ sym k.slot) ∙ sym (on-page _ _ _ h (k.page ∙ sym w.u64_at.ensures ∙ eqb-true _ _ (sym w.value-is ∙ c.if-u64_at-page.true)))
      | else-is_change w ↦ let z : false ≡ true = sym w.if-is_change.false ∙ sym w.value-is ∙ c.if-u64_at-page.true in cc
    ]

pub returns-else-u64_at-page : goal.returns-else-u64_at-page
returns-else-u64_at-page c =
    elim c.if-is_change.branch [
      | then-is_change w ↦
          let h = ap is_changing (said-kind _ _) ∙ sym c.is_change.ensures ∙ w.if-is_change.true in
          let k = key-at c.requires.stands h c.requires.place_value in
          c.if-u64_at-page.false ∙ sym (off-page _ _ _ h (λ e. eqb-false _ _ (sym w.value-is ∙ c.if-u64_at-page.false) (w.u64_at.ensures ∙ sym k.page ∙ e)))
      | else-is_change w ↦ c.if-u64_at-page.false ∙ sym (off-none _ _ _ (ap is_changing (said-kind _ _) ∙ sym c.is_change.ensures ∙ w.if-is_change.false))
    ]
