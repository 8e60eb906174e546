-- The entry at the present place is refused, or the walk goes on.
use Rattle.std.proofs.Common.{ℕ, ◌+◌, arith, sym, ap, ◌∙◌}
use Rattle.wal.proofs.Prefix.{met-first, stands_at, view-kind}
use Rattle.refusals.specs.Refusal.{number_of}
use Rattle.refusals.proofs.Told.{refused-at}
use Rattle.fates.proofs.Turns.{step, still, arrived}
use Rattle.checks.proofs.StrayLaws.{stray-first, stray-here, stray-next, stray-end}
use Rattle.checks.proofs.inner.first_stray.Goals as goal

pub loop-at-init : goal.loop-at-init
loop-at-init c = (met-first _, stray-first _ _)

pub standing-v-requires : goal.standing-v-requires
standing-v-requires c = (still c.loop-at.invariant.0 c.requires.log_value.0 c.loop-at-test.true).stands

pub is_stray-requires-clause-stands : goal.is_stray-requires-clause-stands
is_stray-requires-clause-stands c = (still c.loop-at.invariant.0 c.requires.log_value.0 c.loop-at-test.true).stands

pub is_stray-requires-clause-kind_value : goal.is_stray-requires-clause-kind_value
is_stray-requires-clause-kind_value c =
    let r = c.requires in (view-kind _ _ c.standing-v.ensures, r.sound.shaped c.loop-at.invariant.0 c.loop-at-test.true, r.log_value.1)

pub returns-then-is_stray : goal.returns-then-is_stray
returns-then-is_stray c =
    let e = step c.loop-at.invariant.0 c.requires.log_value.0 c.loop-at-test.true _ c.standing-v.ensures in
    refused-at c.at.result 13 c.loop-at.at (ap number_of c.at.ensures.why) c.at.ensures.place
    ∙ sym (c.loop-at.invariant.1 ∙ stray-here _ _ _ e.stands (sym c.is_stray.ensures ∙ c.if-is_stray.true))

pub overflow_add-at : goal.overflow_add-at
overflow_add-at c =
    let e = step c.loop-at.invariant.0 c.requires.log_value.0 c.loop-at-test.true _ c.standing-v.ensures in
    let k = stands_at e.stands in
    omega (arith, k.room, e.long, k.front)

pub loop-at-smaller : goal.loop-at-smaller
loop-at-smaller c =
    let e = step c.loop-at.invariant.0 c.requires.log_value.0 c.loop-at-test.true _ c.standing-v.ensures in omega (arith, e.low, c.loop-at-test.true)

pub loop-at-preserved : goal.loop-at-preserved
loop-at-preserved c =
    let e = step c.loop-at.invariant.0 c.requires.log_value.0 c.loop-at-test.true _ c.standing-v.ensures in
    (e.met, c.loop-at.invariant.1 ∙ stray-next _ _ _ e.stands _ (ap (λ (x : ℕ). c.loop-at.at + x) e.long) (sym c.is_stray.ensures ∙ c.if-is_stray.false))

pub returns : goal.returns
returns c = sym (c.loop-at.invariant.1 ∙ stray-end _ _ _ (arrived c.loop-at.invariant.0 c.requires.log_value.0 (omega arith)))
