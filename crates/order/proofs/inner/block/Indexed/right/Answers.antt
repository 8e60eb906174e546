-- One law for each way.
use Rattle.std.proofs.Common.{arith, sym, ap, ap₂, ◌∙◌, ℕ, ◌<◌, ◌≤◌, eqb, not}
use Rattle.std.proofs.lemmas.Grind.{common_steps}
use borrow.Author.Tests.{eqb-true, eqb-false}
use Rattle.endian.specs.Pick.{pick}
use Rattle.wal.specs.Entry.{begin}
use Rattle.wal.specs.Prefix.{said, before}
use Rattle.wal.proofs.Prefix.{view-txn, view-kind}
use Rattle.rules.specs.Shape.{is_changing}
use Rattle.rules.specs.Order.{begun, is_open}
use Rattle.order.proofs.Wrongs.{right-low, right-high, right-checkpoint, right_zero, right-turn}
use Rattle.order.proofs.inner.block.Indexed.right.Goals as goal
use Rattle.order.proofs.inner.block.Indexed.right.Goals.{then-lt-via-then-lt, then-lt-via-else-lt+then-lt-2}

pub returns-then-lt : goal.returns-then-lt
returns-then-lt c =
    let a = c.args.self.now in
    let p = c.args.v.place in
    let u = view-txn _ _ c.requires.v_value in
    elim c.then-lt.branch [
      | then-lt-via-then-lt w ↦
          let l : c.args.v.txn.0 < a.lo.0 = grind (arith, common_steps) in
          right-low a.lo.0 a.hi.0 (before a.log.now p) (said a.log.now p) (omega arith)
      | then-lt-via-else-lt+then-lt-2 w ↦
          let l : a.hi.0 < c.args.v.txn.0 = grind (arith, common_steps) in
          right-high a.lo.0 a.hi.0 (before a.log.now p) (said a.log.now p) (omega arith) (omega arith)
    ]

pub returns-then-is_checkpoint : goal.returns-then-is_checkpoint
returns-then-is_checkpoint c =
    let a = c.args.self.now in
    let p = c.args.v.place in
    let u = view-txn _ _ c.requires.v_value in
    let low : a.lo.0 ≤ c.args.v.txn.0 = grind (arith, common_steps) in
    let high : c.args.v.txn.0 ≤ a.hi.0 = grind (arith, common_steps) in
    right-checkpoint a.lo.0 a.hi.0 (before a.log.now p) (said a.log.now p) (omega arith) (omega arith) (sym (view-kind _ _ c.requires.v_value) ∙ eqb-true _ _ (sym c.is_checkpoint.ensures ∙ c.if-is_checkpoint.true))

pub returns-then-eq : goal.returns-then-eq
returns-then-eq c =
    let a = c.args.self.now in
    let p = c.args.v.place in
    let u = view-txn _ _ c.requires.v_value in
    let k = view-kind _ _ c.requires.v_value in
    let low : a.lo.0 ≤ c.args.v.txn.0 = grind (arith, common_steps) in
    let high : c.args.v.txn.0 ≤ a.hi.0 = grind (arith, common_steps) in
    right_zero a.lo.0 a.hi.0 (before a.log.now p) (said a.log.now p) (omega arith) (omega arith) (λ e. eqb-false _ _ (sym c.is_checkpoint.ensures ∙ c.if-is_checkpoint.false) (k ∙ e))
    (c.is_change.ensures ∙ ap is_changing k) (sym u ∙ eqb-true _ _ (sym c.eq.ensures ∙ c.if-eq.true))

pub returns : goal.returns
returns c =
    let a = c.args.self.now in
    let p = c.args.v.place in
    let u = view-txn _ _ c.requires.v_value in
    let k = view-kind _ _ c.requires.v_value in
    let low : a.lo.0 ≤ c.args.v.txn.0 = grind (arith, common_steps) in
    let high : c.args.v.txn.0 ≤ a.hi.0 = grind (arith, common_steps) in
    right-turn a.lo.0 a.hi.0 (before a.log.now p) (said a.log.now p) (omega arith) (omega arith) (λ e. eqb-false _ _ (sym c.is_checkpoint.ensures ∙ c.if-is_checkpoint.false) (k ∙ e))
    (λ e. eqb-false _ _ (sym c.eq.ensures ∙ c.if-eq.false) (u ∙ e))
    (c.in_turn.ensures ∙ ap₂ (λ (x t : ℕ). pick (eqb x begin) (not (begun (before a.log.now p) t)) (is_open (before a.log.now p) t)) k u)
