-- What recovery gives, refused and done. Assumes nothing.
use Rattle.std.specs.Prelude.{◌≡◌, ℕ, ◌*◌, ◌/◌, ◌<◌, ◌≤◌, Bool, true, false, eqb, List, [], length}
use mathlib.Core.Path.{refl, sym, ap, ◌∙◌}
use borrow.Author.Tests.{eq-eqb, ne_eqb}
use Rattle.wal.specs.Entry.{Entry}
use Rattle.wal.specs.Walk.{entries, end_of, ending_of, ending_number}
use Rattle.wal.specs.declared.Reading.TheVariants.{Damage}
use Rattle.page.specs.Layout.{page_bytes, data_type, pages_in, page_at, type_of}
use Rattle.refusals.specs.Verdict.{told_by}
use Rattle.refusals.specs.declared.Refused.{Refused}
use Rattle.refusals.proofs.Told.{refused-some}
use Rattle.refusals.specs.declared.Verdict.{Verdict}
use Rattle.rules.specs.Order.{count, is_begin, full_at, last_lsn}
use Rattle.rules.specs.Recover.{recover_verdict, table_after, touched_from, mended_from, refused, done, Recovered, recover_by, recover_of}
use Rattle.rules.specs.declared.Answer.{Answer}
use Rattle.rules.specs.declared.Record.{Record}
use Rattle.rules.proofs.Verdicts.{log-undamaged, is-accepted}
use Rattle.cells.specs.declared.Scratch.{Scratch}
use Rattle.recovery.specs.declared.Judged.{Judged}
use Rattle.fates.specs.Fate.{Ordered}
use Rattle.tally.specs.Counts.{tally_of}
use Rattle.table.specs.Flat.{stride, flat_after}
use Rattle.checks.proofs.LogLaws.{header-fits}
use Rattle.table.proofs.Flattening.{length-records}
use Rattle.recovery.specs.Flat.{rows, FlatRecovered, flattened, recover_flat}
use Rattle.images.specs.Page.{Sound, Touched, Fitting}
use Rattle.recovery.specs.Judgement.{Accepted, answer_from}
use Rattle.recovery.proofs.FlatLaws.{length-rows, flat_rows, flat_after_lem}
use Rattle.recovery.proofs.JudgeLaws.{header_ok, ordered-ok, begins-fit}
use Rattle.recovery.proofs.Judging.{size_is, sane-sound}
use Rattle.rules.specs.Lent.{lent}

-- ---- refused and done

module _ (v : Verdict) (pages log : List ℕ) (table : List Record) where
  pub by-refused : (v.number ≡ 0 → ⊥) → recover_by v pages log table ≡ record { answer = refused v; pages = pages; table = table }
  by-refused h = rw (ne_eqb v.number 0 h)

  pub by-done : v.number ≡ 0 → recover_by v pages log table
      ≡ record { answer = done (entries log) (end_of log) (ending_number (ending_of log)) (pages_in pages); pages = mended_from (entries log) pages (pages_in pages) 0; table = table_after (entries log) table }
  by-done h = rw (eq-eqb v.number 0 h)

pub done-is : (es : List Entry) (end way n : ℕ) → answer_from (record { 0 = last_lsn es }) end way (tally_of es) (touched_from es n 0) ≡ done es end way n
unfolding done tally_of
done-is es end way n = refl

-- ---- a judgement

module _ (full : ℕ → Bool) (magic floor : ℕ) (pages log : List ℕ) (table : List Record) where
  pub run-refused : (e : Refused) → told_by e ≡ recover_verdict full (lent magic floor pages log) → (refused (told_by e) ≡ (recover_by (recover_verdict full (lent magic floor pages log)) pages log table).answer)
      × (pages ≡ (recover_by (recover_verdict full (lent magic floor pages log)) pages log table).pages)
  run-refused e h = rw (← h, by-refused (told_by e) pages log table (refused-some e)) (refl, refl)

  pub run-done : {c : Scratch} {j : Judged} → Accepted pages log c j → (recover_verdict full (lent magic floor pages log)).number ≡ 0
      → (answer_from j.walked.last j.walked.end (ending_number (ending_of log)) (tally_of (entries log)) (touched_from (entries log) (pages_in pages) 0) ≡ (recover_by (recover_verdict full (lent magic floor pages log)) pages log table).answer)
      × (mended_from (entries log) pages (pages_in pages) 0 ≡ (recover_by (recover_verdict full (lent magic floor pages log)) pages log table).pages)
  run-done {j = j} a z =
      let l : j.walked.last ≡ record { 0 = last_lsn (entries log) } = ap (λ (n : ℕ). record { 0 = n }) a.last in
      rw (by-done (recover_verdict full (lent magic floor pages log)) pages log table z) (rw (l, a.end) (done-is (entries log) (end_of log) (ending_number (ending_of log)) (pages_in pages)), refl)

-- ---- what acceptance tells

pub sound-page : (full : ℕ → Bool) (magic floor : ℕ) (pages log : List ℕ) → (recover_verdict full (lent magic floor pages log)).number ≡ 0 → (i : ℕ) → i < pages_in pages
    → type_of (page_at i pages) ≡ data_type → Sound (page_at i pages)
sound-page full magic floor pages log h i l d = sane-sound ((is-accepted full magic floor pages log h).sane i l) l d

pub record Sure (log pages : List ℕ) : Type 0 where
  pub ordered : Ordered log
  pub small : length log ≤ 16777216
  pub size : length pages ≡ pages_in pages * page_bytes
  pub few : pages_in pages ≤ 4096
  pub touched : Touched log pages 0 (pages_in pages)
  pub fitting : Fitting log pages 0 (pages_in pages)
  pub undamaged : ending_of log ≡ Damage → ⊥

pub sure : (full : ℕ → Bool) (magic floor : ℕ) (pages log : List ℕ) → (recover_verdict full (lent magic floor pages log)).number ≡ 0 → Sure log pages
sure full magic floor pages log h =
    let a = is-accepted full magic floor pages log h in
    let z = size_is pages a.size in
    record {
      ordered = ordered-ok full log a.log_ok;
      small = header-fits log (header_ok full log a.log_ok);
      size = z.0;
      few = z.1;
      touched = record { at = λ i l m t. let k = a.on_data i t in sound-page full magic floor pages log h i k.within k.is_data };
      fitting = record { at = λ i l m t. a.roomy i m t };
      undamaged = log-undamaged full log a.log_ok;
    }

-- ---- the answer, and a table of numbers

module _ (v : Verdict) (pages log : List ℕ) where
  abbrev Given : List Record → Recovered
  Given t = recover_by v pages log t

  -- answer and pages do not depend on the table
  pub by_answer : (t u : List Record) → (recover_by v pages log t).answer ≡ (recover_by v pages log u).answer
  by_answer t u = go (eqb v.number 0) refl
    where
      go : (b : Bool) → eqb v.number 0 ≡ b → (Given t).answer ≡ (Given u).answer
      go true e = rw e
      go false e = rw e

  pub by_pages : (t u : List Record) → (recover_by v pages log t).pages ≡ (recover_by v pages log u).pages
  by_pages t u = go (eqb v.number 0) refl
    where
      go : (b : Bool) → eqb v.number 0 ≡ b → (Given t).pages ≡ (Given u).pages
      go true e = rw e
      go false e = rw e

  pub answer-refused : (t : List Record) → ((recover_by v pages log t).answer.number ≡ 0 → ⊥) → v.number ≡ 0 → ⊥
  answer-refused t h z = h (ap (λ (r : Recovered). r.answer.number) (by-done v pages log t z) ∙ done-number)
    where
      done-number : (done (entries log) (end_of log) (ending_number (ending_of log)) (pages_in pages)).number ≡ 0
      done-number = ap (λ (a : Answer). a.number) (sym (done-is (entries log) (end_of log) (ending_number (ending_of log)) (pages_in pages)))

  pub answer-tail : (t : List Record) → v.number ≡ 0 → (recover_by v pages log t).answer.tail ≡ end_of log
  answer-tail t z = ap (λ (r : Recovered). r.answer.tail) (by-done v pages log t z) ∙ ap (λ (a : Answer). a.tail) (sym (done-is (entries log) (end_of log) (ending_number (ending_of log)) (pages_in pages)))

-- what the records of an accepted log ask of a table
pub begins-of : (records magic floor : ℕ) (pages log : List ℕ) → (recover_verdict (full_at records) (lent magic floor pages log)).number ≡ 0 → count is_begin (entries log) ≤ records
begins-of records magic floor pages log h = begins-fit records log (is-accepted (full_at records) magic floor pages log h).log_ok

module _ (magic floor : ℕ) (pages log table : List ℕ) where
  flat-is : recover_flat (lent magic floor pages log) table ≡ flattened (recover_by (recover_verdict (full_at (length table / stride)) (lent magic floor pages log)) pages log (rows table)) table
  unfolding recover_flat recover_of
  flat-is = rw (length-rows table)

  abbrev Judging : Verdict
  Judging = recover_verdict (full_at (length table / stride)) (lent magic floor pages log)

  pub flat-answer : (recover_by (recover_verdict (full_at (length table / stride)) (lent magic floor pages log)) pages log []).answer ≡ (recover_flat (lent magic floor pages log) table).answer
  flat-answer = by_answer Judging pages log [] (rows table) ∙ ap (λ (r : FlatRecovered). r.answer) (sym flat-is)

  pub flat-pages : (recover_by (recover_verdict (full_at (length table / stride)) (lent magic floor pages log)) pages log []).pages ≡ (recover_flat (lent magic floor pages log) table).pages
  flat-pages = by_pages Judging pages log [] (rows table) ∙ ap (λ (r : FlatRecovered). r.pages) (sym flat-is)

  pub flat-done : (recover_verdict (full_at (length table / stride)) (lent magic floor pages log)).number ≡ 0 → flat_after (entries log) table ≡ (recover_flat (lent magic floor pages log) table).table
  flat-done z =
      sym (flat_after_lem (entries log) table (rw (length-records (entries log) (entries log), length-rows table) (begins-of (length table / stride) magic floor pages log z)))
      ∙ ap (λ (r : Recovered). (flattened r table).table) (sym (by-done Judging pages log (rows table) z)) ∙ ap (λ (r : FlatRecovered). r.table) (sym flat-is)

  pub flat-refused : ((recover_verdict (full_at (length table / stride)) (lent magic floor pages log)).number ≡ 0 → ⊥) → table ≡ (recover_flat (lent magic floor pages log) table).table
  flat-refused h = sym (flat_rows table) ∙ ap (λ (r : Recovered). (flattened r table).table) (sym (by-refused Judging pages log (rows table) h)) ∙ ap (λ (r : FlatRecovered). r.table) (sym flat-is)
