use Rattle.std.proofs.Common.{arith, sym, ap, ◌∙◌, ℕ, eqb}
use Rattle.std.proofs.lemmas.Grind.{common_steps}
use Rattle.clash.proofs.OpenLaws.{of_none, of-place}
use Rattle.clash.proofs.inner.is_of.Goals as goal

pub returns-then-v-gt1 : goal.returns-then-v-gt1
returns-then-v-gt1 c = c.eq.ensures ∙ ap (λ (x : ℕ). eqb x c.args.t.0) c.u64_at.ensures ∙ sym (of-place _ _ _ c.if-v-gt1.true)

pub returns-else-v-gt1 : goal.returns-else-v-gt1
returns-else-v-gt1 c = let e = of_none c.args.log.now c.args.t.0 c.args.v (omega arith) in rw e (grind (arith, common_steps))
