use Rattle.std.proofs.Common.{arith, sym, ◌≡◌, ℕ, subst}
use Rattle.std.proofs.lemmas.Grind.{common_steps}
use Rattle.order.specs.Blocks.{top_number, FirstWrong, below}
use Rattle.order.proofs.Wrongs.{wrong_start, wrong-next, wrong-last}
use Rattle.order.proofs.inner.block.by_blocks.Goals as goal

pub loop-b-init : goal.loop-b-init
loop-b-init c =
    let t = c.next_block-b in
    record {
      roomy = (omega (arith, t.auto.begins, c.requires.in_bounds.0), omega (arith, t.auto.ends, c.requires.in_bounds.1));
      blocked = t.ensures.blocked;
      low = omega (arith, t.ensures.stop_value.0);
      top = grind (arith, common_steps, t.type_inv);
      wrong = subst (λ (x : ℕ). FirstWrong c.args.log.now (below x) c.args.stop c.args.stop) (sym t.ensures.stop_value.1) (wrong_start c.args.stop c.requires.met);
    }

-- what the test of the last number says is left to grind, so that no answer names a step after the test
pub returns-then-last : goal.returns-then-last
returns-then-last c = wrong-last _ _ c.loop-b.invariant.wrong c.tested-best.ensures (grind (arith, common_steps))

pub overflow_add-b : goal.overflow_add-b
overflow_add-b c =
    let n : c.loop-b.b.hi.0 ≡ top_number → ⊥ = grind (arith, common_steps) in
    omega (arith, n, c.loop-b.invariant.top)

pub loop-b-preserved : goal.loop-b-preserved
loop-b-preserved c =
    let i = c.loop-b.invariant in
    let n = c.next_block-b-in-loop-b in
    let t = c.tested-best in
    let on : c.loop-b.b.hi.0 ≡ top_number → ⊥ = grind (arith, common_steps) in
    record {
      roomy = (omega (arith, n.auto.begins, i.roomy.0), omega (arith, n.auto.ends, i.roomy.1));
      blocked = n.ensures.blocked;
      low = omega (arith, n.ensures.stop_value.0);
      top = grind (arith, common_steps, n.type_inv);
      wrong = subst (λ (x : ℕ). FirstWrong c.args.log.now (below x) c.args.stop t.result) (sym n.ensures.stop_value.1) (wrong-next _ _ i.wrong t.ensures i.blocked.range on);
    }
