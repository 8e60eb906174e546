use Rattle.std.proofs.Common.{arith, sym, ◌∙◌}
use Rattle.std.proofs.lemmas.Grind.{common_steps}
use borrow.Author.Tests.{eqb-true, eqb-false, not-false}
use Rattle.rules.proofs.Tests.{not-true}
use Rattle.wal.specs.Prefix.{before, said}
use Rattle.clash.proofs.NewestLaws.{clash-none, clash-own, clash-state}
use Rattle.clash.proofs.inner.clashes_with.Goals as goal
use Rattle.clash.proofs.inner.clashes_with.Goals.{then-ne, else-ne}

pub returns-then-ne-2 : goal.returns-then-ne-2
returns-then-ne-2 c =
    let p = c.requires.t_value in
    elim c.if-ne.branch [
      | then-ne w ↦
          let n = eqb-false c.args.u.0 0 (not-true _ (sym c.ne.ensures ∙ w.if-ne.true)) in
          let o = eqb-false c.args.u.0 c.args.t.0 (not-true _ (sym w.ne-then-ne.ensures ∙ sym w.value-is ∙ c.if-ne-2.true)) in
          c.is_open.ensures ∙ sym (clash-state _ _ p.1 _ p.2 n (λ e. o (e ∙ sym p.0)))
      | else-ne w ↦ absurd (grind (arith, common_steps))
    ]

pub returns-else-ne-2 : goal.returns-else-ne-2
returns-else-ne-2 c =
    let p = c.requires.t_value in
    elim c.if-ne.branch [
      | then-ne w ↦
          let n = eqb-false c.args.u.0 0 (not-true _ (sym c.ne.ensures ∙ w.if-ne.true)) in
          let o = eqb-true c.args.u.0 c.args.t.0 (not-false _ (sym w.ne-then-ne.ensures ∙ sym w.value-is ∙ c.if-ne-2.false)) in
          c.if-ne-2.false ∙ sym (clash-own (before c.args.log.now c.args.at) (said c.args.log.now c.args.at) p.1 c.args.u.0 p.2 n (o ∙ p.0))
      | else-ne w ↦
          let z = eqb-true c.args.u.0 0 (not-false _ (sym c.ne.ensures ∙ w.if-ne.false)) in
          c.if-ne-2.false ∙ sym (clash-none (before c.args.log.now c.args.at) (said c.args.log.now c.args.at) p.1 c.args.u.0 p.2 z)
    ]
