-- An entry more, of which none clashed so far.
use Rattle.std.proofs.Common.{arith, sym, ap, ◌∙◌, ◌+◌, ℕ}
use Rattle.wal.proofs.Prefix.{stands_at, view-kind, view-txn, view-length}
use Rattle.clash.proofs.FirstLaws.{sweeping-first, sweeping-stands, sweeping-next}
use Rattle.clash.proofs.inner.clash_beyond.Goals as goal

pub loop-at-init : goal.loop-at-init
loop-at-init c = sweeping-first _ _ c.requires.met

pub standing-v-requires : goal.standing-v-requires
standing-v-requires c = sweeping-stands c.loop-at.invariant c.requires.met c.loop-at-test.true

pub touch_beyond-requires-clause-stands : goal.touch_beyond-requires-clause-stands
touch_beyond-requires-clause-stands c = sweeping-stands c.loop-at.invariant c.requires.met c.loop-at-test.true

pub enter-requires-clause-log_len_bound : goal.enter-requires-clause-log_len_bound
enter-requires-clause-log_len_bound c = let e = c.standing-v.ensures in (c.requires.log_len_bound, view-kind _ _ e, view-txn _ _ e)

pub enter-requires-clause-stands : goal.enter-requires-clause-stands
enter-requires-clause-stands c = sweeping-stands c.loop-at.invariant c.requires.met c.loop-at-test.true

pub overflow_add-at : goal.overflow_add-at
overflow_add-at c =
    let k = stands_at (sweeping-stands c.loop-at.invariant c.requires.met c.loop-at-test.true) in
    omega (arith, k.room, view-length _ _ c.standing-v.ensures, c.requires.log_len_bound)

pub loop-at-smaller : goal.loop-at-smaller
loop-at-smaller c =
    let k = stands_at (sweeping-stands c.loop-at.invariant c.requires.met c.loop-at-test.true) in
    omega (arith, k.low, view-length _ _ c.standing-v.ensures, c.loop-at-test.true)

pub touch_beyond-requires-clause-kind_value : goal.touch_beyond-requires-clause-kind_value
touch_beyond-requires-clause-kind_value c = let e = c.standing-v.ensures in (view-kind _ _ e, view-txn _ _ e, c.requires.shaped.at _ c.loop-at.invariant.met c.loop-at-test.true)

pub loop-at-preserved : goal.loop-at-preserved
loop-at-preserved c =
    sweeping-next c.loop-at.invariant c.requires.met c.loop-at-test.true _ _ (sym c.touch_beyond.ensures ∙ c.if-touch_beyond.false)
    (ap (λ (x : ℕ). c.loop-at.at + x) (view-length _ _ c.standing-v.ensures)) c.enter.ensures
