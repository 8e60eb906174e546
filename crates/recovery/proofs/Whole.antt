-- Recovery with a table of records, from recovery without it: what its answer tells, and what the table then holds.
-- Assumes nothing.
use Rattle.std.specs.Prelude.{◌≡◌, ℕ, ◌<◌, ◌≤◌, Bool, true, false, eqb, List, [], length}
use native.Mathlib.Omega.{arith}
use mathlib.Core.Path.{refl, sym, ap, ◌∙◌}
use borrow.Author.Tests.{eqb-true, eqb-false}
use Rattle.endian.specs.Pick.{pick}
use Rattle.wal.specs.Entry.{Entry}
use Rattle.wal.specs.Walk.{entries, end_of, ending_of, ending_number}
use Rattle.page.specs.Layout.{pages_in}
use Rattle.refusals.specs.declared.Verdict.{Verdict}
use Rattle.rules.specs.Order.{count, is_begin, full_at}
use Rattle.rules.specs.Recover.{recover_verdict, table_after, done, Recovered, recover_by, recover_of}
use Rattle.rules.specs.declared.Answer.{Answer}
use Rattle.rules.specs.declared.Record.{Record}
use Rattle.rules.proofs.Again.{answer-zero}
use Rattle.rules.proofs.Counts.{transactions-sum}
use Rattle.fates.specs.Fate.{Ordered}
use Rattle.table.specs.Telling.{reach}
use Rattle.table.specs.Holding.{due}
use Rattle.recovery.proofs.Outcome.{sure, by-refused, by-done, by_answer, by_pages, answer-refused, answer-tail, begins-of}
use Rattle.rules.specs.Lent.{lent}

due-done : (es : List Entry) (end way n : ℕ) → due (done es end way n) ≡ count is_begin es
unfolding due done
due-done es end way n = transactions-sum es

module _ (magic floor : ℕ) (pages log : List ℕ) (table : List Record) where
  abbrev Judged : Verdict
  Judged = recover_verdict (full_at (length table)) (lent magic floor pages log)

  pub whole-answer : (recover_by (recover_verdict (full_at (length table)) (lent magic floor pages log)) pages log []).answer ≡ (recover_of (lent magic floor pages log) table).answer
  unfolding recover_of
  whole-answer = by_answer Judged pages log [] table

  pub whole-pages : (recover_by (recover_verdict (full_at (length table)) (lent magic floor pages log)) pages log []).pages ≡ (recover_of (lent magic floor pages log) table).pages
  unfolding recover_of
  whole-pages = by_pages Judged pages log [] table

  module _ (a : Answer) (e : a ≡ (recover_by (recover_verdict (full_at (length table)) (lent magic floor pages log)) pages log []).answer) where
    zero : a.number ≡ 0 → Judged.number ≡ 0
    zero z = answer-zero Judged pages log [] (sym (ap (λ (b : Answer). b.number) e) ∙ z)

    -- what `fill` asks for
    pub whole-ordered : a.number ≡ 0 → Ordered log
    whole-ordered z = (sure _ _ _ _ _ (zero z)).ordered

    pub whole-due : a.number ≡ 0 → (end_of log ≡ a.tail) × (length log < reach) × (count is_begin (entries log) ≡ due a) × (due a ≤ length table)
    whole-due z =
        let h = zero z in
        let k : due a ≡ count is_begin (entries log) = ap due (e ∙ ap (λ (r : Recovered). r.answer) (by-done Judged pages log [] h)) ∙ due-done (entries log) (end_of log) (ending_number (ending_of log)) (pages_in pages) in
        (sym (ap (λ (b : Answer). b.tail) e ∙ answer-tail Judged pages log [] h), omega (arith, (sure _ _ _ _ _ h).small), sym k, omega (arith, begins-of (length table) magic floor pages log h))

    -- what it leaves
    pub whole-table : pick (eqb a.number 0) (table_after (entries log) table) table ≡ (recover_of (lent magic floor pages log) table).table
    unfolding recover_of
    whole-table = go (eqb a.number 0) refl
      where
        go : (b : Bool) → eqb a.number 0 ≡ b → pick b (table_after (entries log) table) table ≡ (recover_by Judged pages log table).table
        go true k = ap (λ (r : Recovered). r.table) (sym (by-done Judged pages log table (zero (eqb-true a.number 0 k))))
        go false k = ap (λ (r : Recovered). r.table) (sym (by-refused Judged pages log table (answer-refused Judged pages log [] (λ z. eqb-false a.number 0 k (ap (λ (b : Answer). b.number) e ∙ z)))))
