-- Our own recovered pages are judged yes. Assumes nothing.
use Prim.Native.Nat.{ℕ, zero, suc, ◌*◌, ◌<◌}
use mathlib.Core.Path.{◌≡◌, refl, sym, ap, ◌∙◌}
use mathlib.Core.Bool.{Bool}
use mathlib.Core.Logic.{inr}
use mathlib.Core.List.{List, [], append-nil}
use native.Mathlib.Omega.{arith}
use lib.ListN.{length, length-take, length-drop}
use Rattle.endian.specs.Numbers.{Bytes}
use Rattle.endian.proofs.Bytes.{number-range, bytes_take, bytes_drop}
use Rattle.wal.specs.Entry.{Entry}
use Rattle.wal.specs.Read.{header_fault, read_at, first}
use Rattle.wal.specs.Walk.{entries, end_of}
use Rattle.page.specs.Layout.{page_bytes, pages_in, page_at}
use Rattle.page.specs.Packed.{Head}
use Rattle.page.proofs.Fields.{magic-back, type-back, id-back, reserved-back}
use Rattle.page.proofs.FaultLaws.{sound-good}
use Rattle.page.proofs.Verdicts.{page-length, right-size}
use Rattle.refusals.specs.Verdict.{verdict}
use Rattle.refusals.proofs.Then.{then-zero, zero-then}
use Rattle.rules.specs.Lent.{lent}
use Rattle.rules.specs.Order.{never_full, full_at, order_from, end_verdict, log_verdict}
use Rattle.rules.specs.Mend.{committed, top_of, slots_for, head_for, repacked, unless, mend_by, mend}
use Rattle.rules.specs.Recover.{recover_of}
use Rattle.rules.specs.declared.Answer.{Answer}
use Rattle.rules.specs.declared.Record.{Record}
use Rattle.rules.proofs.Again.{again, zero-accepted, recover-zero, recover-done, page-after}
use Rattle.rules.proofs.Area.{length-mended}
use Rattle.rules.proofs.Mended.{length-mended as page-mended}
use Rattle.rules.proofs.Verdicts.{Accepted, accepted-is}
use Rattle.recovery.proofs.JudgeLaws.{ordered-ok}
use Rattle.audit.specs.Judge.{alike, judge_of}
use Rattle.audit.specs.Right.{SameHead, PageRight, ours}
use Rattle.audit.proofs.Sentence.{ours-recovered, right-yes}

-- without a bound on records nothing else is refused
unbounded : (full : ℕ → Bool) (log : List ℕ) → (log_verdict full log).number ≡ 0 → (log_verdict never_full log).number ≡ 0
unfolding log_verdict
unbounded full log h =
    let a = then-zero (verdict (header_fault log) 0) _ h in
    let b = then-zero (order_from full [] (entries log) first) (end_verdict (read_at log (end_of log)) (end_of log)) a.1 in
    zero-then (verdict (header_fault log) 0) _ a.0 (zero-then (order_from never_full [] (entries log) first) (end_verdict (read_at log (end_of log)) (end_of log)) (ordered-ok full log h) b.1)

-- a mended page keeps its header but for flags, LSN, item count and where it is free
module _ (es : List Entry) (i : ℕ) (p : List ℕ) (size : length p ≡ page_bytes) (bytes : Bytes p) where
  head-repacked : SameHead p (repacked (committed es) es i p)
  head-repacked =
      let h : Head = head_for (committed es) es i p in
      let ss = slots_for (committed es) es i p in
      record {
        magic = sym (magic-back h ss (number-range 8 0 bytes));
        type = sym (type-back h ss (number-range 1 8 bytes));
        id = sym (id-back h ss (number-range 8 16 bytes));
        reserved = sym (reserved-back h ss (simp (length-take, length-drop) (omega arith)));
      }

  mended-right : PageRight es i p (mend es i p) (mend es i p)
  unfolding mend mend_by
  mended-right = go (top_of i es) refl
    where
      go : (n : ℕ) → top_of i es ≡ n → PageRight es i p (unless (committed es) es i n p (repacked (committed es) es i p)) (unless (committed es) es i n p (repacked (committed es) es i p))
      go zero e = record { untouched = λ z. refl; head = λ t. absurd (omega arith); slots = λ t k. refl }
      go (suc n) e = record { untouched = λ z. absurd (omega arith); head = λ t. head-repacked; slots = λ t k. refl }

module _ (magic floor : ℕ) (before log : List ℕ) (table : List Record) (bytes_before : Bytes before) (bytes_log : Bytes log)
    (ok : (recover_of (lent magic floor before log) table).answer.number ≡ 0) where
  abbrev after : List ℕ
  after = (recover_of (lent magic floor before log) table).pages

  abbrev E : List Entry
  E = entries log

  A : Accepted (full_at (length table)) magic floor before log
  A = zero-accepted magic floor before log table ok

  free : Accepted never_full magic floor before log
  free = record { size = A.size; log_ok = unbounded (full_at (length table)) log A.log_ok; sane = A.sane; on_data = A.on_data; roomy = A.roomy }

  long : length after ≡ length before
  unfolding mend
  long =
      let n : length after ≡ pages_in before * page_bytes =
      ap length (recover-done magic floor before log table (recover-zero magic floor before log table ok)).1
      ∙ length-mended E before (pages_in before) 0 (λ k x y. page-mended (committed E) E k (page_at k before) (page-length before k (omega arith)) (A.roomy k (omega arith))) in
      omega (arith, (right-size before A.size).0)

  -- recovered again they are accepted, so they are good
  B : Accepted (full_at (length table)) magic floor after log
  B = zero-accepted magic floor after log table (ap (λ (a : Answer). a.number) (again magic floor floor before log log bytes_before bytes_log bytes_log ([], append-nil E) table table table refl refl ok after long (λ i l. inr refl)).0 ∙ ok)

  page-ours : (i : ℕ) → i < pages_in before → PageRight E i (page_at i before) (page_at i (ours (lent magic floor before log))) (page_at i after)
  page-ours i l =
      let e = page-after magic floor before log table A i l in
      let o : page_at i (ours (lent magic floor before log)) ≡ page_at i after = ap (page_at i) (sym (ours-recovered magic floor before log table ok)) in
      rw (o, e) (mended-right E i (page_at i before) (page-length before i l) (bytes_take page_bytes (bytes_drop (i * page_bytes) bytes_before)))

  pub own-yes : judge_of (lent magic floor before log) (recover_of (lent magic floor before log) table).pages ≡ alike
  own-yes =
      right-yes magic floor before log after 0
      (record {
        lendable = record { accepts = accepted-is never_full magic floor before log free; lengths = sym long; good = λ i l. sound-good magic i (page_at i after) (page-length after i l) (B.sane i l).sound };
        pages = λ i f l. page-ours i l;
      })
