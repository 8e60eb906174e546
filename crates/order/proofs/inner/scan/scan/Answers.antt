use Rattle.std.proofs.Common.{arith, sym, ap, ℕ, refl, subst, Result}
use Rattle.endian.specs.declared.Lsn.{Lsn}
use Rattle.refusals.specs.declared.Refused.{Refused}
use Rattle.wal.proofs.WalkLaws.{entry_at}
use Rattle.wal.proofs.Prefix.{met-small, view-kind, view-txn}
use Rattle.order.specs.First.{full_of}
use Rattle.order.specs.Scanning.{Scanned}
use Rattle.order.specs.Turns.{TurningAfter}
use Rattle.order.specs.declared.Walked.{Walked}
use Rattle.order.proofs.Turnings.{turning-first, turned-right}
use Rattle.order.proofs.Scans.{scanning-first, scanning-next, halts-early, halts-late, halts-whole, stop-ended, read-there, read_at_lem}
use Rattle.order.proofs.inner.scan.scan.Goals as goal

pub loop-v-init : goal.loop-v-init
loop-v-init c = record { scanning = scanning-first _ _; turning = turning-first _ }

pub returns-in_default : goal.returns-in_default
returns-in_default c =
    let i = c.loop-v.invariant in
    record {
      scanned = subst (λ (x : Result Walked Refused). Scanned (full_of c.args.records) c.args.log.now x c.loop-v.at) (sym c.ended.ensures) (halts-whole _ _ i.scanning _ c.entry_at-found.ensures c.in_default.not-Whole);
      sees = rw c.ended.ensures (rw (stop-ended c.entry_at-found.result c.loop-v.at c.loop-v.seen.last) i.scanning.sees);
      first_wrong = turned-right c.loop-v.opens _ i.turning;
    }

pub early_fault-requires : goal.early_fault-requires
early_fault-requires c = read_at_lem _ _ c.loop-v.invariant.scanning _ (sym c.in-Whole.ensures)

pub returns-in-Err-clause-scanned : goal.returns-in-Err-clause-scanned
returns-in-Err-clause-scanned c =
    halts-early _ _ c.loop-v.invariant.scanning _ (sym c.in-Whole.ensures) c.in-Err.refusal c.in-Err.ensures c.at.result c.at.ensures.why c.at.ensures.place

pub returns-in-Err-clause-sees : goal.returns-in-Err-clause-sees
returns-in-Err-clause-sees c = rw c.at.ensures.place c.loop-v.invariant.scanning.sees

pub returns-in-Err-clause-first_wrong : goal.returns-in-Err-clause-first_wrong
returns-in-Err-clause-first_wrong c = turned-right c.loop-v.opens _ c.loop-v.invariant.turning

pub turn-turns-requires-clause-stands : goal.turn-turns-requires-clause-stands
turn-turns-requires-clause-stands c = (read-there _ _ c.loop-v.invariant.scanning _ (sym c.in-Whole.ensures)).stands

pub turn-turns-requires-clause-v_value : goal.turn-turns-requires-clause-v_value
turn-turns-requires-clause-v_value c =
    let e = (read-there _ _ c.loop-v.invariant.scanning _ (sym c.in-Whole.ensures)).is in
    (view-kind _ _ e, view-txn _ _ e, c.requires.log_len_bound)

pub turn-turns-requires-clause-turning : goal.turn-turns-requires-clause-turning
turn-turns-requires-clause-turning c =
    let l = c.loop-v in
    subst (λ (x : ℕ). TurningAfter c.args.log.now x l.turns l.opens) (sym (read-there _ _ l.invariant.scanning _ (sym c.in-Whole.ensures)).place) l.invariant.turning

pub overflow_add-next : goal.overflow_add-next
overflow_add-next c = let k = entry_at _ _ (sym c.in-Whole.ensures) in omega (arith, k.room, c.requires.log_len_bound)

pub returns-then-no_record-clause-scanned : goal.returns-then-no_record-clause-scanned
returns-then-no_record-clause-scanned c =
    halts-late _ _ c.loop-v.invariant.scanning _ (sym c.in-Whole.ensures) c.in_default-early_fault.ensures c.no_record.ensures c.if-no_record.true _ refl c.at-then-no_record.result c.at-then-no_record.ensures.why c.at-then-no_record.ensures.place

pub returns-then-no_record-clause-sees : goal.returns-then-no_record-clause-sees
returns-then-no_record-clause-sees c = rw c.at-then-no_record.ensures.place c.loop-v.invariant.scanning.sees

pub returns-then-no_record-clause-first_wrong : goal.returns-then-no_record-clause-first_wrong
returns-then-no_record-clause-first_wrong c =
    let t = c.turn-turns in
    turned-right t.new.opens t.result (subst (λ (x : ℕ). TurningAfter c.args.log.now x t.result t.new.opens) (read-there _ _ c.loop-v.invariant.scanning _ (sym c.in-Whole.ensures)).next t.ensures)

pub counted-seen-requires : goal.counted-seen-requires
counted-seen-requires c = let i = c.loop-v.invariant.scanning in omega (arith, i.few, met-small _ i.met, c.requires.log_len_bound)

pub loop-v-smaller : goal.loop-v-smaller
loop-v-smaller c = let k = entry_at _ _ (sym c.in-Whole.ensures) in omega (arith, k.room, k.low)

pub loop-v-preserved : goal.loop-v-preserved
loop-v-preserved c =
    let i = c.loop-v.invariant.scanning in
    let q = sym c.in-Whole.ensures in
    let n = c.counted-seen in
    let t = c.turn-turns in
    record {
      scanning = scanning-next _ _ i _ q c.in_default-early_fault.ensures c.no_record.ensures c.if-no_record.false _ refl n.result (ap (λ (x : Lsn). x.0) n.ensures.0) n.ensures.1;
      turning = subst (λ (x : ℕ). TurningAfter c.args.log.now x t.result t.new.opens) (read-there _ _ i _ q).next t.ensures;
    }
