use Rattle.std.proofs.Common.{arith, sym, ◌≡◌, ℕ, subst}
use Rattle.wal.proofs.Prefix.{met-first, met-from, met-small}
use Rattle.wal.specs.Prefix.{Met}
use Rattle.wal.proofs.Known.{still, ahead-found, known-stops}
use Rattle.order.specs.Blocks.{Gathered}
use Rattle.order.proofs.Gathering.{gathered-first}
use Rattle.order.proofs.There.{there, not-whole}
use Rattle.order.proofs.inner.block.collect.Goals as goal

pub loop-v-init : goal.loop-v-init
loop-v-init c =
    let n = c.nothing-held.ensures in
    record {
      roomy = c.requires.in_bounds;
      met = met-first _;
      low = met-from _ c.requires.met;
      gathered = gathered-first c.args.lo.0 c.nothing-held.result c.args.begins.now c.args.ends.now (omega arith) n.0 n.1 n.2 n.3;
    }

pub known_at-requires : goal.known_at-requires
known_at-requires c = still c.loop-v.invariant.met c.requires.met

pub returns-in_default : goal.returns-in_default
returns-in_default c =
    let l = c.loop-v in
    let e : l.at ≡ c.args.stop = omega (arith, known-stops _ _ _ _ c.known_at.ensures (not-whole _ c.in_default.not-Whole), l.invariant.low) in
    subst (λ (x : ℕ). Gathered c.args.log.now c.args.lo.0 x l.held l.begins l.ends) e l.invariant.gathered

pub take_in-held-requires-clause-met : goal.take_in-held-requires-clause-met
take_in-held-requires-clause-met c =
    let k = ahead-found c.loop-v.invariant.met c.requires.met c.known_at.ensures c.in-Whole.is in
    subst (Met c.args.log.now) (sym (there k.is k.stands).place) c.loop-v.invariant.met

pub take_in-held-requires-clause-stands : goal.take_in-held-requires-clause-stands
take_in-held-requires-clause-stands c =
    let k = ahead-found c.loop-v.invariant.met c.requires.met c.known_at.ensures c.in-Whole.is in
    (there k.is k.stands).stands

pub take_in-held-requires-clause-v_value : goal.take_in-held-requires-clause-v_value
take_in-held-requires-clause-v_value c =
    let k = ahead-found c.loop-v.invariant.met c.requires.met c.known_at.ensures c.in-Whole.is in
    (there k.is k.stands).is

pub take_in-held-requires-clause-gathered : goal.take_in-held-requires-clause-gathered
take_in-held-requires-clause-gathered c =
    let l = c.loop-v in
    let k = ahead-found l.invariant.met c.requires.met c.known_at.ensures c.in-Whole.is in
    subst (λ (x : ℕ). Gathered c.args.log.now c.args.lo.0 x l.held l.begins l.ends) (sym (there k.is k.stands).place) l.invariant.gathered

pub overflow_add-at : goal.overflow_add-at
overflow_add-at c =
    let k = ahead-found c.loop-v.invariant.met c.requires.met c.known_at.ensures c.in-Whole.is in
    omega (arith, k.next, met-small _ c.requires.met, c.requires.log_len_bound)

pub loop-v-smaller : goal.loop-v-smaller
loop-v-smaller c =
    let k = ahead-found c.loop-v.invariant.met c.requires.met c.known_at.ensures c.in-Whole.is in
    omega (arith, k.next, k.low)

pub loop-v-preserved : goal.loop-v-preserved
loop-v-preserved c =
    let l = c.loop-v in
    let t = c.take_in-held in
    let k = ahead-found l.invariant.met c.requires.met c.known_at.ensures c.in-Whole.is in
    record {
      roomy = (omega (arith, t.auto.begins, l.invariant.roomy.0), omega (arith, t.auto.ends, l.invariant.roomy.1));
      met = k.met;
      low = k.next;
      gathered = subst (λ (x : ℕ). Gathered c.args.log.now c.args.lo.0 x t.result t.new.begins t.new.ends) (there k.is k.stands).next t.ensures;
    }
