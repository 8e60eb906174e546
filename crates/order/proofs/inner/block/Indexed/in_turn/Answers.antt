-- The first Begin and the first ending tell whether the transaction has begun and ended.
use Rattle.std.proofs.Common.{arith, sym, ap, ◌∙◌, ℕ, ◌≡◌, true, false}
use Rattle.std.proofs.lemmas.Grind.{common_steps}
use borrow.Author.Tests.{eqb-false}
use Rattle.order.specs.Blocks.{is_before}
use Rattle.order.proofs.Wrongs.{turn-none, turn-open}
use Rattle.order.proofs.inner.block.Indexed.in_turn.Goals as goal

pub returns-then-not-started : goal.returns-then-not-started
returns-then-not-started c =
    let b = c.requires.in_block in
    let a = c.args in
    let started = c.is_before-started.ensures ∙ ap (λ (q : ℕ). is_before q a.v.place) c.near-b.ensures.found ∙ sym (a.self.now.telling.tells_begun a.v.txn.0 a.v.place b.1 b.2 c.requires.met b.0) in
    let none : c.is_before-started.result ≡ false = grind (arith, common_steps) in
    turn-none _ _ _ started (eqb-false _ _ (sym c.is_begin.ensures ∙ c.if-is_begin.false)) none

pub returns : goal.returns
returns c =
    let b = c.requires.in_block in
    let a = c.args in
    let t = a.self.now.telling in
    let started = c.is_before-started.ensures ∙ ap (λ (q : ℕ). is_before q a.v.place) c.near-b.ensures.found ∙ sym (t.tells_begun a.v.txn.0 a.v.place b.1 b.2 c.requires.met b.0) in
    let over = c.is_before.ensures ∙ ap (λ (q : ℕ). is_before q a.v.place) c.near-e.ensures.found ∙ sym (t.tells_ended a.v.txn.0 a.v.place b.1 b.2 c.requires.met b.0) in
    let some : c.is_before-started.result ≡ true = grind (arith, common_steps) in
    turn-open _ _ _ started (eqb-false _ _ (sym c.is_begin.ensures ∙ c.if-is_begin.false)) some over
