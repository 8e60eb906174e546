-- An entry with a cell is asked for a clash by it, and kept in it.
use Rattle.std.proofs.Common.{arith, sym, ap, ◌∙◌, ◌*◌, ℕ, false, Option}
use lib.Seq.{paste}
use Rattle.endian.specs.Numbers.{bytes_of}
use Rattle.clash.specs.Group.{noted}
use Rattle.clash.proofs.GroupLaws.{no_cell, own-change, own-fits, own-tells, own-clash, noted-none, noted-clash, noted-new}
use Rattle.clash.proofs.inner.touch.Goals as goal

pub returns-in_default-clause-value : goal.returns-in_default-clause-value
returns-in_default-clause-value c = sym (no_cell c.requires.known (sym c.in_default.is ∙ c.cell_for.ensures))

pub returns-in_default-clause-space_after : goal.returns-in_default-clause-space_after
returns-in_default-clause-space_after c = noted-none c.args.t.0 c.args.space.now ∙ ap (λ (x : Option ℕ). noted false x c.args.t.0 c.args.space.now) (sym c.in_default.is ∙ c.cell_for.ensures)

pub overflow_mul-c : goal.overflow_mul-c
overflow_mul-c c = omega (arith, own-fits c.requires.known _ (sym c.in-Some.is ∙ c.cell_for.ensures))

pub u16_at-requires : goal.u16_at-requires
u16_at-requires c = omega (arith, own-fits c.requires.known _ (sym c.in-Some.is ∙ c.cell_for.ensures), c.requires.t_value.1)

pub clashes_by_cell-requires-clause-t_value : goal.clashes_by_cell-requires-clause-t_value
clashes_by_cell-requires-clause-t_value c = let p = c.requires in (p.t_value.0, own-change p.known _ (sym c.in-Some.is ∙ c.cell_for.ensures), p.kind_value.1)

pub clashes_by_cell-requires-clause-newest : goal.clashes_by_cell-requires-clause-newest
clashes_by_cell-requires-clause-newest c = c.u16_at.ensures ∙ own-tells c.requires.known _ (sym c.in-Some.is ∙ c.cell_for.ensures)

pub returns-then-clashes_by_cell-clause-value : goal.returns-then-clashes_by_cell-clause-value
returns-then-clashes_by_cell-clause-value c = own-clash c.requires.known _ (sym c.in-Some.is ∙ c.cell_for.ensures) (sym c.if-clashes_by_cell.true ∙ c.clashes_by_cell.ensures)

pub returns-then-clashes_by_cell-clause-space_after : goal.returns-then-clashes_by_cell-clause-space_after
returns-then-clashes_by_cell-clause-space_after c = noted-clash _ _ _

pub overflow_mul-c-2 : goal.overflow_mul-c-2
overflow_mul-c-2 c = omega (arith, own-fits c.requires.known _ (sym c.in-Some.is ∙ c.cell_for.ensures))

pub put_u16-requires : goal.put_u16-requires
put_u16-requires c = omega (arith, own-fits c.requires.known _ (sym c.in-Some.is ∙ c.cell_for.ensures), c.requires.t_value.1)

pub returns-clause-value : goal.returns-clause-value
returns-clause-value c = own-clash c.requires.known _ (sym c.in-Some.is ∙ c.cell_for.ensures) (sym c.if-clashes_by_cell.false ∙ c.clashes_by_cell.ensures)

pub returns-clause-space_after : goal.returns-clause-space_after
returns-clause-space_after c =
    let a = c.args in
    c.put_u16.ensures ∙ ap (λ (x : ℕ). paste a.space.now (2 * c.in-Some.c) (bytes_of 2 x) 2) c.kept_of.ensures ∙ noted-new a.t.0 a.space.now c.in-Some.c
    ∙ ap (λ (x : Option ℕ). noted false x a.t.0 a.space.now) (sym c.in-Some.is ∙ c.cell_for.ensures)
