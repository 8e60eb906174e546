use Rattle.std.proofs.Common.{arith, sym, ◌∙◌, ◌≡◌, ◌+◌, ℕ, subst, true, false}
use Rattle.std.proofs.lemmas.Grind.{common_steps}
use Rattle.wal.specs.Prefix.{Met, before, said}
use Rattle.wal.proofs.Prefix.{met-from}
use Rattle.wal.proofs.Known.{still, ahead-found, known-stops}
use Rattle.order.specs.Blocks.{RightBefore, right_in}
use Rattle.order.proofs.Wrongs.{right-first, right-next, wrong-none, wrong-here}
use Rattle.order.proofs.There.{there, not-whole}
use Rattle.order.proofs.inner.block.Indexed.first_wrong.Goals as goal

pub loop-v-init : goal.loop-v-init
loop-v-init c = record { right = right-first; low = met-from _ c.requires.met }

pub known_at-requires : goal.known_at-requires
known_at-requires c = still c.loop-v.invariant.right.met c.requires.met

pub returns-in_default : goal.returns-in_default
returns-in_default c = wrong-none c.args.stop c.loop-v.invariant.right c.requires.met (known-stops _ _ _ _ c.known_at.ensures (not-whole _ c.in_default.not-Whole))

pub right-requires-clause-met : goal.right-requires-clause-met
right-requires-clause-met c =
    let k = ahead-found c.loop-v.invariant.right.met c.requires.met c.known_at.ensures c.in-Whole.is in
    subst (Met c.args.self.now.log.now) (sym (there k.is k.stands).place) c.loop-v.invariant.right.met

pub right-requires-clause-v_value : goal.right-requires-clause-v_value
right-requires-clause-v_value c =
    let k = ahead-found c.loop-v.invariant.right.met c.requires.met c.known_at.ensures c.in-Whole.is in
    (there k.is k.stands).is

pub right-requires-clause-at_le_stop : goal.right-requires-clause-at_le_stop
right-requires-clause-at_le_stop c =
    let k = ahead-found c.loop-v.invariant.right.met c.requires.met c.known_at.ensures c.in-Whole.is in
    omega (arith, (there k.is k.stands).place, c.loop-v.invariant.low, c.requires.stop_le_stop)

pub returns-then-not-right : goal.returns-then-not-right
returns-then-not-right c =
    let a = c.args.self.now in
    let i = c.loop-v.invariant in
    let k = ahead-found i.right.met c.requires.met c.known_at.ensures c.in-Whole.is in
    let wrong : c.right.result ≡ false = grind (arith, common_steps) in
    wrong-here c.args.stop i.right k.stands i.low
    (subst (λ (x : ℕ). right_in a.lo.0 a.hi.0 (before a.log.now x) (said a.log.now x) ≡ false) (there k.is k.stands).place (sym c.right.ensures ∙ wrong))

pub overflow_add-at : goal.overflow_add-at
overflow_add-at c =
    let k = ahead-found c.loop-v.invariant.right.met c.requires.met c.known_at.ensures c.in-Whole.is in
    omega (arith, k.next)

pub loop-v-smaller : goal.loop-v-smaller
loop-v-smaller c =
    let k = ahead-found c.loop-v.invariant.right.met c.requires.met c.known_at.ensures c.in-Whole.is in
    omega (arith, k.next, k.low)

pub loop-v-preserved : goal.loop-v-preserved
loop-v-preserved c =
    let a = c.args.self.now in
    let i = c.loop-v.invariant in
    let k = ahead-found i.right.met c.requires.met c.known_at.ensures c.in-Whole.is in
    let right : c.right.result ≡ true = grind (arith, common_steps) in
    record {
      right = subst (λ (x : ℕ). RightBefore a.log.now a.lo.0 a.hi.0 (c.loop-v.at + x)) (sym k.long)
          (right-next i.right k.stands (subst (λ (x : ℕ). right_in a.lo.0 a.hi.0 (before a.log.now x) (said a.log.now x) ≡ true) (there k.is k.stands).place (sym c.right.ensures ∙ right)));
      low = k.next;
    }
