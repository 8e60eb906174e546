use Prim.Native.Nat.{◌≤◌}
use mathlib.Core.Path.{◌≡◌, refl, sym, ◌∙◌, subst}
use Rattle.wal.specs.Prefix.{Met, before}
use Rattle.wal.proofs.Prefix.{Back, met-back}
use Rattle.clash.specs.Newest.{newest_on}
use Rattle.clash.proofs.NewestLaws.{newest-at-first, newest-back-on, newest-back-off}
use native.Mathlib.Omega.{arith}
use Rattle.clash.proofs.inner.newest_back.Statement.{statement}
use Rattle.clash.proofs.inner.newest_back.Tie as tie

abbrev invariant-loop : tie.invariant-loop-p
invariant-loop log place page slot p₀ p = Met log p × ((p ≤ place) × (newest_on page slot 0 (before log p) ≡ newest_on page slot 0 (before log place)))

abbrev decreases-loop : tie.decreases-loop-p
decreases-loop log place page slot p₀ p = p

-- the entry behind which the place was
back : (c : tie.After-place_before-p invariant-loop decreases-loop) → Back c.before.before.before.before.args.log.now c.before.before.loop-p.p c.place_before-p.result
back c = subst (Back _ _) (sym c.place_before-p.ensures) (met-back _ c.before.before.loop-p.invariant.0 (omega arith))

loop-holds : tie.Need-loop-p-init invariant-loop decreases-loop
loop-holds c = (c.before.requires.0, (omega arith, refl))

returns : tie.Need-returns-then-p-le-FIRST invariant-loop decreases-loop
returns c = sym (sym c.before.loop-p.invariant.1.1 ∙ newest-at-first _ _ _ c.before.loop-p.invariant.0 (omega arith))

place-before-requires : tie.Need-place_before-p-requires invariant-loop decreases-loop
place-before-requires c κs = (c.before.loop-p.invariant.0, omega arith)

on-slot-requires : tie.Need-on_slot-requires invariant-loop decreases-loop
on-slot-requires c κs = let b = back c in (b.stands, c.before.before.before.before.requires.1.at _ b.met (omega (arith, b.is, b.low, c.before.before.loop-p.invariant.1.0)))

add-u64-at : tie.Need-overflow_add-p invariant-loop decreases-loop
add-u64-at c = let b = back c.before.before in omega (arith, b.is, b.low, b.room)

u64-at-requires : tie.Need-u64_at-requires invariant-loop decreases-loop
u64-at-requires c κs = let b = back c.before.before in omega (arith, b.is, b.low, b.room)

returns-2 : tie.Need-returns-then-on_slot invariant-loop decreases-loop
returns-2 c =
    let f = c.before.before.before in
    c.u64_at.ensures ∙ sym (newest-back-on _ _ _ (back f) (sym c.before.before.on_slot.ensures ∙ c.before.if-on_slot.true)) ∙ f.before.before.loop-p.invariant.1.1

loop-less : tie.Need-loop-p-smaller invariant-loop decreases-loop
loop-less c = let b = back c.before.before in omega (arith, b.is, b.low)

loop-again : tie.Need-loop-p-preserved invariant-loop decreases-loop
loop-again c =
    let f = c.before.before in
    let b = back f in
    (b.met, (omega (arith, b.is, f.before.before.loop-p.invariant.1.0), sym (newest-back-off _ _ _ b (sym c.before.on_slot.ensures ∙ c.if-on_slot.false)) ∙ f.before.before.loop-p.invariant.1.1))

pub newest_back_spec : {M : Type 1} → statement M
newest_back_spec =
    tie.close
    (tie.spec invariant-loop decreases-loop loop-holds returns place-before-requires on-slot-requires add-u64-at u64-at-requires returns-2 loop-less loop-again)
