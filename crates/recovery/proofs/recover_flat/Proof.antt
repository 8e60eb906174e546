-- `recover_flat` meets its contract: the table is filled exactly where recovery is done.
-- Assumes nothing.
use Rattle.std.specs.Prelude.{◌≡◌, ◌/◌, [], length}
use mathlib.Core.Path.{sym, ap, ◌∙◌}
use borrow.Author.Rules.{rules}
use Rattle.table.specs.Flat.{stride}
use Rattle.rules.specs.Order.{full_at}
use Rattle.rules.specs.Recover.{recover_verdict}
use Rattle.rules.specs.declared.Answer.{Answer}
use Rattle.rules.proofs.Again.{answer-zero}
use Rattle.recovery.proofs.Outcome.{sure, answer-refused, answer-tail, begins-of, flat-answer, flat-pages, flat-done, flat-refused}
use Rattle.recovery.proofs.recover_flat.Statement.{statement}
use Rattle.recovery.proofs.recover_flat.Tie as tie
use Rattle.rules.specs.Lent.{lent}

-- the verdict where the answer's number is 0
zero : (c : tie.Then-a-eq0) → let a = c.args in
    (recover_verdict (full_at (length a.table.now / stride)) (lent a.magic a.floor.0 a.pages.now a.log.now)).number ≡ 0
zero c =
    let a = c.args in
    answer-zero (recover_verdict (full_at (length a.table.now / stride)) (lent a.magic a.floor.0 a.pages.now a.log.now)) a.pages.now a.log.now [] (sym (ap (λ (a : Answer). a.number) c.recover-a.ensures.0) ∙ c.if-a-eq0.true)

fill-table-requires : tie.Need-fill_table-requires
fill-table-requires c κs =
    let t = c.before in
    let r = c in
    let a = r.args in
    let z = zero t in
    let s = sure _ _ _ _ _ z in
    (s.ordered, (sym (ap (λ (a : Answer). a.tail) r.recover-a.ensures.0 ∙ answer-tail (recover_verdict (full_at (length a.table.now / stride)) (lent a.magic a.floor.0 a.pages.now a.log.now)) a.pages.now a.log.now [] z), s.small, begins-of _ _ _ _ _ z))

returns : tie.Need-returns-then-a-eq0
returns c =
    let f = c in
    let t = c.before.before.before.before in
    let r = c in
    (r.recover-a.ensures.0 ∙ flat-answer _ _ _ _ _, (r.recover-a.ensures.1 ∙ flat-pages _ _ _ _ _, f.fill_table.ensures ∙ flat-done _ _ _ _ _ (zero t)))

returns-2 : tie.Need-returns-else-a-eq0
returns-2 c =
    let r = c in
    let a = r.args in (
      r.recover-a.ensures.0 ∙ flat-answer _ _ _ _ _,
      (
        r.recover-a.ensures.1 ∙ flat-pages _ _ _ _ _,
        flat-refused _ _ _ _ _ (answer-refused (recover_verdict (full_at (length a.table.now / stride)) (lent a.magic a.floor.0 a.pages.now a.log.now)) a.pages.now a.log.now [] (λ z. c.if-a-eq0.false (ap (λ (a : Answer). a.number) r.recover-a.ensures.0 ∙ z))),
      ),
    )

pub recover_flat_spec : {M : Type 1} → statement M
recover_flat_spec =
    tie.close
    (tie.spec (λ c κs. search rules) fill-table-requires (λ c. search rules) (λ c. search rules) returns (λ c. search rules) returns-2)
