-- Each turn takes the next record from the block, and stores it.
use Rattle.std.proofs.Common.{arith, ◌≡◌, refl, ap, ◌∙◌, set}
use Rattle.rules.specs.declared.Record.{Record}
use Rattle.table.specs.Holding.{due}
use Rattle.table.proofs.Stages.{stored_to, Stage, next, stored_next, due_all, storable, stored-all}
use Rattle.table.proofs.inner.records.fill.Goals as goal

pub many-i-end-requires : goal.many-i-end-requires
many-i-end-requires c = λ z. omega (arith, due_all c.args.a z, (c.requires.log_value z).3, c.well_formed.1.1.0)

pub nth_record-requires : goal.nth_record-requires
nth_record-requires c =
    let i : Stage c.args.log.now (due c.args.a) = record { index = c.loop-i.i; within = omega arith; block = c.loop-i.held; held = c.loop-i.invariant.held } in
    next (storable c.args.log.now c.args.a c.args.table.now c.requires.orderly c.requires.log_value) i (omega arith)

pub offset_bounds-table-i : goal.offset_bounds-table-i
offset_bounds-table-i c =
    let f = storable c.args.log.now c.args.a c.args.table.now c.requires.orderly c.requires.log_value in
    omega (arith, f.room, c.well_formed.1.1.0)

pub bounds-table-i : goal.bounds-table-i
bounds-table-i c =
    let f = storable c.args.log.now c.args.a c.args.table.now c.requires.orderly c.requires.log_value in
    omega (arith, f.room)

pub loop-i-preserved : goal.loop-i-preserved
loop-i-preserved c =
    let f = storable c.args.log.now c.args.a c.args.table.now c.requires.orderly c.requires.log_value in
    let i : Stage c.args.log.now (due c.args.a) = record { index = c.loop-i.i; within = omega arith; block = c.loop-i.held; held = c.loop-i.invariant.held } in
    let ys = c.args.table.now in
    record {
      within = omega arith;
      stored = ap (λ (r : Record). set c.loop-i.table c.loop-i.i r) c.nth_record.ensures.0 ∙ rw c.loop-i.invariant.stored (stored_next f i (omega arith) ys refl);
      held = λ _. c.nth_record.ensures.1;
    }

pub returns : goal.returns
returns c =
    let n : c.loop-i.i ≡ due c.args.a = omega arith in
    c.loop-i.invariant.stored
    ∙ ap (λ k. stored_to c.args.log.now k c.args.table.now) n
    ∙ stored-all c.args.log.now c.args.a c.args.table.now c.requires.orderly c.requires.log_value
