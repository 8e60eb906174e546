-- The page and the slot of the change stand in its key.
use Rattle.std.proofs.Common.{arith, sym, ap₂, ◌∙◌, ℕ}
use Rattle.wal.specs.Prefix.{before}
use Rattle.cells.proofs.Keys.{key-at}
use Rattle.clash.specs.Newest.{newest_on}
use Rattle.clash.proofs.inner.clashes_back.Goals as goal

pub overflow_add-at : goal.overflow_add-at
overflow_add-at c = let p = c.requires in omega (arith, (key-at p.stands p.t_value.1 p.t_value.2).room, c.well_formed.0)

pub u64_at-requires : goal.u64_at-requires
u64_at-requires c = let p = c.requires in omega (arith, (key-at p.stands p.t_value.1 p.t_value.2).room)

pub overflow_add-at-2 : goal.overflow_add-at-2
overflow_add-at-2 c = let p = c.requires in omega (arith, (key-at p.stands p.t_value.1 p.t_value.2).room, c.well_formed.0)

pub u16_at-requires : goal.u16_at-requires
u16_at-requires c = let p = c.requires in omega (arith, (key-at p.stands p.t_value.1 p.t_value.2).room)

pub clashes_with-requires-clause-t_value : goal.clashes_with-requires-clause-t_value
clashes_with-requires-clause-t_value c =
    let p = c.requires in
    let k = key-at p.stands p.t_value.1 p.t_value.2 in
    let newest = ap₂ (λ (x y : ℕ). newest_on x y 0 (before c.args.log.now c.args.at)) (c.u64_at.ensures ∙ sym k.page) (c.u16_at.ensures ∙ sym k.slot) in
    (p.t_value.0, p.t_value.1, c.newest_back-u.ensures ∙ newest)
