-- Row after row: what judging one row says of the rest.
-- Assumes nothing.
use mathlib.Core.Path.{◌≡◌, sym, ap, ◌∙◌}
use Prim.Native.Nat.{ℕ, zero, suc, ◌+◌, ◌-◌, ◌≤◌, ◌<◌}
use native.Mathlib.Omega.{arith}
use mathlib.Core.List.{List}
use lib.ListN.{length, get_or}
use borrow.Author.Tests.{lt-ltb, le-ltb}
use Rattle.std.specs.Prelude.{Some, None, Ok, Err}
use Rattle.refusals.specs.Verdict.{verdict, accepted, answered}
use Rattle.refusals.specs.declared.Verdict.{Verdict}
use Rattle.refusals.proofs.Then.{then-refused, then-accepted}
use Rattle.summary.specs.Number.{value_at}
use Rattle.summary.specs.Summary.{page_rule, slot_rule, length_rule, second, behind, row_step, head_verdict, row_verdict, rows_verdict, file_verdict, count_of, summary_in, no_row, numbered_row, step_of, step_rows}
use Rattle.summary.specs.declared.Summary.{Summary}
use Rattle.summary.specs.declared.SummaryRow.{SummaryRow}
use Rattle.summary.specs.declared.SummaryStep.{SummaryStep}
use Rattle.summary.specs.Inner.{judged_row}
use Rattle.summary.proofs.Answered.{ok-answered, answered-ok, answered-err, err-answered, err-other, then_err, then_ok}
use Rattle.summary.proofs.RuleLaws.{slot-low}
use Rattle.summary.proofs.FileLaws.{accepted-three, row-there, row-past}

-- ---- a row of a file that is judged

module _ (i k : ℕ) (f : List ℕ) (p : ℕ) where
  pub row-refused : (n : ℕ) → 0 < n → (w : Verdict) → Err w ≡ judged_row i k f p → w ≡ rows_verdict n i k f p
  unfolding rows_verdict
  row-refused zero l w e = absurd (omega arith)
  row-refused (suc n) l w e =
      let r = answered-err (row_verdict i k f p) (row_step f p) w e in
      r.1 ∙ sym (then-refused (row_verdict i k f p) _ r.0)

  module _ (s : SummaryStep) (e : Ok s ≡ judged_row i k f p) where
    passed : ((row_verdict i k f p).number ≡ 0) × (s ≡ row_step f p)
    passed = answered-ok (row_verdict i k f p) (row_step f p) s e

    pub row-passed : (n : ℕ) → 0 < n → rows_verdict n i k f p ≡ rows_verdict (n - 1) s.row.page.0 (s.row.slot + 1) f s.after
    unfolding rows_verdict
    row-passed zero l = absurd (omega arith)
    row-passed (suc n) l =
        let g : suc n - 1 ≡ n = omega arith in
        let h : value_at f (second f p) + 1 ≡ suc (value_at f (second f p)) = omega arith in
        then-accepted (row_verdict i k f p) _ passed.0 ∙ rw (passed.1, g, h)

    pub row_low : s.row.slot < 4080
    row_low =
        let t = accepted-three (page_rule i) (slot_rule i k) length_rule f p passed.0 in
        rw passed.1 (slot-low i k (value_at f p) (value_at f (second f p)) t.kept₂)

module _ (i k : ℕ) (f : List ℕ) (p n : ℕ) (none : n ≡ 0) where
  pub rows-left-over : p < length f → verdict 33 p ≡ rows_verdict n i k f p
  unfolding rows_verdict
  rows-left-over l = sym (rw (none, lt-ltb p (length f) l))

  pub rows_end : length f ≤ p → accepted ≡ rows_verdict n i k f p
  unfolding rows_verdict
  rows_end l = sym (rw (none, le-ltb p (length f) l))

-- ---- a file

module _ (f : List ℕ) where
  pub head-refused : (w : Verdict) → Err w ≡ answered (head_verdict f) (summary_in f) → Err w ≡ answered (file_verdict f) (summary_in f)
  unfolding file_verdict
  head-refused w e = then_err (head_verdict f) _ (summary_in f) (summary_in f) w e

  module _ (h : Summary) (e : Ok h ≡ answered (head_verdict f) (summary_in f)) (v : Verdict) (judged : v ≡ rows_verdict h.count 0 0 f h.first) where
    head-is : h ≡ summary_in f
    head-is = (answered-ok (head_verdict f) (summary_in f) h e).1

    file-is : answered v (summary_in f) ≡ answered (file_verdict f) (summary_in f)
    unfolding file_verdict count_of
    file-is = rw (judged, head-is) (then_ok (head_verdict f) _ (summary_in f) (summary_in f) h e)

    pub file-refused : (v.number ≡ 0 → ⊥) → Err v ≡ answered (file_verdict f) (summary_in f)
    file-refused r = err-answered v (summary_in f) r ∙ file-is

    pub file-taken : v.number ≡ 0 → Ok h ≡ answered (file_verdict f) (summary_in f)
    file-taken z = ap Ok head-is ∙ ok-answered v (summary_in f) z ∙ file-is

  -- ---- a row by its number

  module _ (n : ℕ) where
    pub numbered-refused : (w : Verdict) → Err w ≡ answered (file_verdict f) (summary_in f) → Err w ≡ numbered_row f n
    numbered-refused w e = err-other (file_verdict f) (summary_in f) _ w e

    module _ (s : Summary) (e : Ok s ≡ answered (file_verdict f) (summary_in f)) where
      fine : ((file_verdict f).number ≡ 0) × (s ≡ summary_in f)
      fine = answered-ok (file_verdict f) (summary_in f) s e

      pub numbered-past : s.count ≤ n → Ok None ≡ numbered_row f n
      numbered-past l = rw (row-past f fine.0 n (rw fine.1 at l)) (ok-answered (file_verdict f) None fine.0)

      pub numbered-there : n < s.count → (r : SummaryRow) → r ≡ get_or (step_rows (suc n) f s.first) n no_row → Ok (Some r) ≡ numbered_row f n
      numbered-there l r g =
          rw (row-there f fine.0 n (rw fine.1 at l), g, fine.1) (ok-answered (file_verdict f) (Some (get_or (step_rows (suc n) f (behind f 0)) n no_row)) fine.0)

-- ---- steps one after another

module _ (f : List ℕ) (p : ℕ) where
  pub nth-more : (n : ℕ) → 0 < n → get_or (step_rows (suc n) f p) n no_row ≡ get_or (step_rows (suc (n - 1)) f (step_of f p).after) (n - 1) no_row
  unfolding step_rows
  nth-more zero l = absurd (omega arith)
  nth-more (suc n) l = let e : suc n - 1 ≡ n = omega arith in rw e

  pub nth_last : (n : ℕ) → n ≡ 0 → get_or (step_rows (suc n) f p) n no_row ≡ (step_of f p).row
  unfolding step_rows
  nth_last n e = rw e
