-- An entry more, of which none clashed so far; its cell keeps its transaction.
use Rattle.std.proofs.Common.{arith, sym, ap, ◌∙◌, ◌+◌, ℕ}
use Rattle.wal.proofs.Prefix.{stands_at, view-kind, view-txn, view-length}
use Rattle.clash.proofs.FirstLaws.{sweeping-first, sweeping-stands, sweeping-next, group-next}
use Rattle.clash.proofs.GroupLaws.{group-first, known}
use Rattle.clash.proofs.inner.clash_in.Goals as goal

pub loop-at-init : goal.loop-at-init
loop-at-init c = let p = c.requires in (sweeping-first _ _ p.met, group-first p.ground p.log_len_bound.1 p.blank)

pub standing-v-requires : goal.standing-v-requires
standing-v-requires c = sweeping-stands c.loop-at.invariant.0 c.requires.met c.loop-at-test.true

pub touch-requires-clause-stands : goal.touch-requires-clause-stands
touch-requires-clause-stands c = sweeping-stands c.loop-at.invariant.0 c.requires.met c.loop-at-test.true

pub enter-requires-clause-log_len_bound : goal.enter-requires-clause-log_len_bound
enter-requires-clause-log_len_bound c = let e = c.standing-v.ensures in (c.requires.log_len_bound.0, view-kind _ _ e, view-txn _ _ e)

pub enter-requires-clause-stands : goal.enter-requires-clause-stands
enter-requires-clause-stands c = sweeping-stands c.loop-at.invariant.0 c.requires.met c.loop-at-test.true

pub overflow_add-at : goal.overflow_add-at
overflow_add-at c =
    let k = stands_at (sweeping-stands c.loop-at.invariant.0 c.requires.met c.loop-at-test.true) in
    omega (arith, k.room, view-length _ _ c.standing-v.ensures, c.requires.log_len_bound.0)

pub loop-at-smaller : goal.loop-at-smaller
loop-at-smaller c =
    let k = stands_at (sweeping-stands c.loop-at.invariant.0 c.requires.met c.loop-at-test.true) in
    omega (arith, k.low, view-length _ _ c.standing-v.ensures, c.loop-at-test.true)

pub touch-requires-clause-kind_value : goal.touch-requires-clause-kind_value
touch-requires-clause-kind_value c =
    let k = c.loop-at.invariant in
    let g = k.1.ground in
    (view-kind _ _ c.standing-v.ensures, g.shaped _ k.0.met c.loop-at-test.true, omega (arith, g.order), omega (arith, g.within, g.most))

pub touch-requires-clause-t_value : goal.touch-requires-clause-t_value
touch-requires-clause-t_value c = (view-txn _ _ c.standing-v.ensures, c.loop-at.invariant.1.long)

pub touch-requires-clause-shaped : goal.touch-requires-clause-shaped
touch-requires-clause-shaped c = let k = c.loop-at.invariant in record { at = λ q m l. k.1.ground.shaped q m (omega (arith, k.0.up_to)) }

pub touch-requires-clause-known : goal.touch-requires-clause-known
touch-requires-clause-known c =
    let k = c.loop-at.invariant in
    known k.1 k.0.met (sweeping-stands k.0 c.requires.met c.loop-at-test.true) c.loop-at-test.true

pub loop-at-preserved : goal.loop-at-preserved
loop-at-preserved c =
    let k = c.loop-at.invariant in
    let e = c.standing-v.ensures in
    let u = c.touch.ensures in
    let next = ap (λ (x : ℕ). c.loop-at.at + x) (view-length _ _ e) in (
      sweeping-next k.0 c.requires.met c.loop-at-test.true _ _ (sym u.value ∙ c.if-touch.false) next c.enter.ensures,
      group-next k.1 k.0.met (sweeping-stands k.0 c.requires.met c.loop-at-test.true) c.loop-at-test.true _ _ _ _ u.value c.if-touch.false (view-txn _ _ e) u.space_after next,
    )
