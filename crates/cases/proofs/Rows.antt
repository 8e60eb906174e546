-- The starred cases: what is computed of each, and the table.
-- Assumes nothing.
use mathlib.Core.Path.{◌≡◌, refl, sym, ap, ◌∙◌}
use mathlib.Core.Logic.{inl}
use Prim.Native.Nat.{ℕ}
use native.Mathlib.Omega.{arith}
use mathlib.Core.List.{List, [], ◌∷◌, ◌++◌}
use lib.ListN.{length, take, replicate}
use lib.Dec.{lit<, lit≤}
use Rattle.endian.specs.Numbers.{bytes_of, number_of, number_at}
use Rattle.endian.proofs.Bytes.{bytes-nil}
use Rattle.wal.specs.Entry.{encoded, unsealed, header}
use Rattle.wal.specs.Read.{header_fault, read_at, all_zero}
use Rattle.wal.specs.Walk.{views}
use Rattle.wal.specs.declared.EntryView.{EntryView}
use Rattle.wal.specs.declared.Reading.{Reading}
use Rattle.wal.specs.declared.Reading.TheVariants.{Whole, End, Torn, Damage}
use Rattle.wal.proofs.WalkLaws.{none, not_end, not-torn, not-damage}
use Rattle.page.specs.Layout.{body_of, slot_off, free_start_of, free_end_of, xmax_of, deleted_of}
use Rattle.page.specs.Packed.{body}
use Rattle.refusals.specs.Verdict.{accepted, ◌then◌}
use Rattle.page.specs.Fault.{first_bad, size_wrong}
use Rattle.refusals.specs.declared.Verdict.{Verdict}
use Rattle.page.proofs.Fields.{body_back, free_start-back, free_end-back}
use Rattle.rules.specs.Shape.{is_known, is_changing, is_image, same, is_keyed, is_bare, is_shaped, before_of, after_of, stamped, is_on, effect_on, top_on, same_slot}
use Rattle.rules.specs.Order.{begun, ended, is_open, in_order, clashes, fault_after, full_at, order_from, end_verdict, log_verdict}
use Rattle.rules.specs.Mend.{committed, changes, top_of, decided}
use Rattle.rules.specs.Recover.{stray_from, tight_from, recover_verdict, done}
use Rattle.rules.specs.declared.Answer.{Answer}
use Rattle.rules.proofs.Again.{recover-done}
use Rattle.cases.specs.Build.{begins, commits, rolls_back, inserts, deletes, updates, log_of, magic, page, area, tuple}
use Rattle.cases.specs.Starred.{Meets, run, input, answers, tail, holds, deleted, placed, a, b, c, empty, one, no_record, Starred}
use Rattle.cases.proofs.Parts.{tuple-bytes, tuple-length, bare, insertable, deletable, updatable}
use Rattle.cases.proofs.Area.{PageOk, empty-ok, filled_ok}
use Rattle.cases.proofs.Pages.{Says, plain, Computes, number, place, slot, packed-after, above, tight, refusal, broken}
use Rattle.rules.specs.Lent.{lent}

-- ---- the pages

later-ok : PageOk (page 9 [])
later-ok = record { small = lit< tt; tuples = λ k. inl refl; bytes = λ k. bytes-nil; room = lit≤ tt }

eight : length (replicate 8 no_record) ≡ 8
eight = refl

-- ---- what is computed of each

unended : Computes (page 0 [] ∷ []) (begins 1 7 ∷ inserts 2 7 0 0 a ∷ [])
unfolding order_from fault_after is_known is_shaped is_bare is_image is_keyed same is_changing in_order is_open begun ended clashes same_slot is_on number_at number_of bytes_of
unended = record { pages = (empty-ok, tt); few = lit≤ tt; order = refl; on_page = (lit< tt, (lit< tt, tt)) }

unended-log : Says (log_of (begins 1 7 ∷ inserts 2 7 0 0 a ∷ [])) (begins 1 7 ∷ inserts 2 7 0 0 a ∷ [])
unfolding bytes_of
unended-log = plain _ (bare 1 1 7 (lit< tt) (lit< tt) (lit< tt), (insertable 2 7 0 0 (lit< tt) (lit< tt) (tuple-bytes 29 1 (lit< tt)) (lit≤ tt), tt)) (lit≤ tt)

committed-row : Computes (page 0 [] ∷ []) (begins 1 7 ∷ inserts 2 7 0 0 a ∷ commits 3 7 ∷ [])
unfolding order_from fault_after is_known is_shaped is_bare is_image is_keyed same is_changing in_order is_open begun ended clashes same_slot is_on number_at number_of bytes_of
committed-row = record { pages = (empty-ok, tt); few = lit≤ tt; order = refl; on_page = (lit< tt, (lit< tt, (lit< tt, tt))) }

committed-row-log : Says (log_of (begins 1 7 ∷ inserts 2 7 0 0 a ∷ commits 3 7 ∷ [])) (begins 1 7 ∷ inserts 2 7 0 0 a ∷ commits 3 7 ∷ [])
unfolding bytes_of
committed-row-log = plain _ (bare 1 1 7 (lit< tt) (lit< tt) (lit< tt), (insertable 2 7 0 0 (lit< tt) (lit< tt) (tuple-bytes 29 1 (lit< tt)) (lit≤ tt), (bare 2 3 7 (lit< tt) (lit< tt) (lit< tt), tt))) (lit≤ tt)

earlier-commit : Computes (page 0 (a ∷ []) ∷ []) (begins 1 7 ∷ updates 2 7 0 0 a b ∷ commits 3 7 ∷ begins 4 8 ∷ updates 5 8 0 0 b c ∷ [])
unfolding order_from fault_after is_known is_shaped is_bare is_image is_keyed same is_changing in_order is_open begun ended clashes same_slot is_on number_at number_of bytes_of
earlier-commit = record { pages = (filled_ok 0 1 (lit< tt) (lit< tt), tt); few = lit≤ tt; order = refl; on_page = (lit< tt, (lit< tt, (lit< tt, (lit< tt, (lit< tt, tt))))) }

earlier-commit-log : Says (log_of (begins 1 7 ∷ updates 2 7 0 0 a b ∷ commits 3 7 ∷ begins 4 8 ∷ updates 5 8 0 0 b c ∷ [])) (begins 1 7 ∷ updates 2 7 0 0 a b ∷ commits 3 7 ∷ begins 4 8 ∷ updates 5 8 0 0 b c ∷ [])
unfolding bytes_of
earlier-commit-log = plain _ (bare 1 1 7 (lit< tt) (lit< tt) (lit< tt), (updatable 2 7 0 0 (lit< tt) (lit< tt) (tuple-bytes 29 1 (lit< tt)) (tuple-bytes 29 2 (lit< tt)) (lit≤ tt), (bare 2 3 7 (lit< tt) (lit< tt) (lit< tt), (bare 1 4 8 (lit< tt) (lit< tt) (lit< tt), (updatable 5 8 0 0 (lit< tt) (lit< tt) (tuple-bytes 29 2 (lit< tt)) (tuple-bytes 29 3 (lit< tt)) (lit≤ tt), tt))))) (lit≤ tt)

deleted-row : Computes (page 0 (a ∷ []) ∷ []) (begins 1 8 ∷ updates 2 8 0 0 a b ∷ rolls_back 3 8 ∷ begins 4 9 ∷ deletes 5 9 0 0 a ∷ commits 6 9 ∷ [])
unfolding order_from fault_after is_known is_shaped is_bare is_image is_keyed same is_changing in_order is_open begun ended clashes same_slot is_on number_at number_of bytes_of
deleted-row = record { pages = (filled_ok 0 1 (lit< tt) (lit< tt), tt); few = lit≤ tt; order = refl; on_page = (lit< tt, (lit< tt, (lit< tt, (lit< tt, (lit< tt, (lit< tt, tt)))))) }

deleted-row-log : Says (log_of (begins 1 8 ∷ updates 2 8 0 0 a b ∷ rolls_back 3 8 ∷ begins 4 9 ∷ deletes 5 9 0 0 a ∷ commits 6 9 ∷ [])) (begins 1 8 ∷ updates 2 8 0 0 a b ∷ rolls_back 3 8 ∷ begins 4 9 ∷ deletes 5 9 0 0 a ∷ commits 6 9 ∷ [])
unfolding bytes_of
deleted-row-log = plain _ (bare 1 1 8 (lit< tt) (lit< tt) (lit< tt), (updatable 2 8 0 0 (lit< tt) (lit< tt) (tuple-bytes 29 1 (lit< tt)) (tuple-bytes 29 2 (lit< tt)) (lit≤ tt), (bare 3 3 8 (lit< tt) (lit< tt) (lit< tt), (bare 1 4 9 (lit< tt) (lit< tt) (lit< tt), (deletable 5 9 0 0 (lit< tt) (lit< tt) (tuple-bytes 29 1 (lit< tt)) (lit≤ tt), (bare 2 6 9 (lit< tt) (lit< tt) (lit< tt), tt)))))) (lit≤ tt)

two-tuples : Computes (page 0 [] ∷ []) (inserts 1 0 0 0 (tuple 29 1) ∷ inserts 2 0 0 1 (tuple 39 1) ∷ [])
unfolding order_from fault_after is_known is_shaped is_bare is_image is_keyed same is_changing in_order is_open begun ended clashes same_slot is_on number_at number_of bytes_of
two-tuples = record { pages = (empty-ok, tt); few = lit≤ tt; order = refl; on_page = (lit< tt, (lit< tt, tt)) }

two-tuples-log : Says (log_of (inserts 1 0 0 0 (tuple 29 1) ∷ inserts 2 0 0 1 (tuple 39 1) ∷ [])) (inserts 1 0 0 0 (tuple 29 1) ∷ inserts 2 0 0 1 (tuple 39 1) ∷ [])
unfolding bytes_of
two-tuples-log = plain _ (insertable 1 0 0 0 (lit< tt) (lit< tt) (tuple-bytes 29 1 (lit< tt)) (lit≤ tt), (insertable 2 0 0 1 (lit< tt) (lit< tt) (tuple-bytes 39 1 (lit< tt)) (lit≤ tt), tt)) (lit≤ tt)

largest : Computes (page 0 [] ∷ []) (inserts 1 0 0 0 (tuple 16315 1) ∷ [])
unfolding order_from fault_after is_known is_shaped is_bare is_image is_keyed same is_changing in_order is_open begun ended clashes same_slot is_on number_at number_of bytes_of
largest = record { pages = (empty-ok, tt); few = lit≤ tt; order = refl; on_page = (lit< tt, tt) }

largest-log : Says (log_of (inserts 1 0 0 0 (tuple 16315 1) ∷ [])) (inserts 1 0 0 0 (tuple 16315 1) ∷ [])
unfolding bytes_of
largest-log = plain _ (insertable 1 0 0 0 (lit< tt) (lit< tt) (tuple-bytes 16315 1 (lit< tt)) (omega (arith, tuple-length 16315 1)), tt) (lit≤ tt)

too_large : Computes (page 0 [] ∷ []) (inserts 1 0 0 1 (tuple 16312 1) ∷ [])
unfolding order_from fault_after is_known is_shaped is_bare is_image is_keyed same is_changing in_order is_open begun ended clashes same_slot is_on number_at number_of bytes_of
too_large = record { pages = (empty-ok, tt); few = lit≤ tt; order = refl; on_page = (lit< tt, tt) }

too-large-log : Says (log_of (inserts 1 0 0 1 (tuple 16312 1) ∷ [])) (inserts 1 0 0 1 (tuple 16312 1) ∷ [])
unfolding bytes_of
too-large-log = plain _ (insertable 1 0 0 1 (lit< tt) (lit< tt) (tuple-bytes 16312 1 (lit< tt)) (omega (arith, tuple-length 16312 1)), tt) (lit≤ tt)

by_zero : Computes (page 0 [] ∷ []) (inserts 1 0 0 0 a ∷ [])
unfolding order_from fault_after is_known is_shaped is_bare is_image is_keyed same is_changing in_order is_open begun ended clashes same_slot is_on number_at number_of bytes_of
by_zero = record { pages = (empty-ok, tt); few = lit≤ tt; order = refl; on_page = (lit< tt, tt) }

by-zero-log : Says (log_of (inserts 1 0 0 0 a ∷ [])) (inserts 1 0 0 0 a ∷ [])
unfolding bytes_of
by-zero-log = plain _ (insertable 1 0 0 0 (lit< tt) (lit< tt) (tuple-bytes 29 1 (lit< tt)) (lit≤ tt), tt) (lit≤ tt)

lone-begin : Computes (page 9 [] ∷ []) (begins 8 7 ∷ [])
unfolding order_from fault_after is_known is_shaped is_bare is_image is_keyed same is_changing in_order is_open begun ended clashes same_slot is_on number_at number_of bytes_of
lone-begin = record { pages = (later-ok, tt); few = lit≤ tt; order = refl; on_page = (lit< tt, tt) }

lone-begin-log : Says (log_of (begins 8 7 ∷ [])) (begins 8 7 ∷ [])
unfolding bytes_of
lone-begin-log = plain _ (bare 1 8 7 (lit< tt) (lit< tt) (lit< tt), tt) (lit≤ tt)

-- ---- the rows

row-unended : Meets (run (input 0 empty (log_of (begins 1 7 ∷ inserts 2 7 0 0 a ∷ [])))) (holds 0 [])
unfolding top_on top_of changes effect_on decided committed is_on is_changing number_at number_of bytes_of before_of after_of
row-unended =
    (number 0 _ _ _ _ eight unended-log unended (lit≤ tt, tt) (λ t. lit≤ tt, tt), slot 0 _ _ _ _ eight unended-log unended (lit≤ tt, tt) (λ t. lit≤ tt, tt) 0 (lit< tt) 0)

row-committed-row : Meets (run (input 0 empty (log_of (begins 1 7 ∷ inserts 2 7 0 0 a ∷ commits 3 7 ∷ [])))) (holds 0 a)
unfolding top_on top_of changes effect_on decided committed is_on is_changing number_at number_of bytes_of before_of after_of
row-committed-row =
    (number 0 _ _ _ _ eight committed-row-log committed-row (lit≤ tt, tt) (λ t. lit≤ tt, tt), slot 0 _ _ _ _ eight committed-row-log committed-row (lit≤ tt, tt) (λ t. lit≤ tt, tt) 0 (lit< tt) 0)

row-earlier-commit : Meets (run (input 0 one (log_of (begins 1 7 ∷ updates 2 7 0 0 a b ∷ commits 3 7 ∷ begins 4 8 ∷ updates 5 8 0 0 b c ∷ [])))) (holds 0 b)
unfolding top_on top_of changes effect_on decided committed is_on is_changing number_at number_of bytes_of before_of after_of
row-earlier-commit =
    (number 0 _ _ _ _ eight earlier-commit-log earlier-commit (lit≤ tt, tt) (λ t. lit≤ tt, tt), slot 0 _ _ _ _ eight earlier-commit-log earlier-commit (lit≤ tt, tt) (λ t. lit≤ tt, tt) 0 (lit< tt) 0)

row-by-zero : Meets (run (input 0 empty (log_of (inserts 1 0 0 0 a ∷ [])))) (holds 0 a)
unfolding top_on top_of changes effect_on decided committed is_on is_changing number_at number_of bytes_of before_of after_of
row-by-zero =
    (number 0 _ _ _ _ eight by-zero-log by_zero (lit≤ tt, tt) (λ t. lit≤ tt, tt), slot 0 _ _ _ _ eight by-zero-log by_zero (lit≤ tt, tt) (λ t. lit≤ tt, tt) 0 (lit< tt) 0)

row-largest : Meets (run (input 0 empty (log_of (inserts 1 0 0 0 (tuple 16315 1) ∷ [])))) (holds 0 (tuple 16315 1))
unfolding top_on top_of changes effect_on decided committed is_on is_changing number_at number_of bytes_of before_of after_of
row-largest =
    (number 0 _ _ _ _ eight largest-log largest (lit≤ tt, tt) (λ t. lit≤ tt, tt), slot 0 _ _ _ _ eight largest-log largest (lit≤ tt, tt) (λ t. lit≤ tt, tt) 0 (lit< tt) 0)

row-deleted : Meets (run (input 0 one (log_of (begins 1 8 ∷ updates 2 8 0 0 a b ∷ rolls_back 3 8 ∷ begins 4 9 ∷ deletes 5 9 0 0 a ∷ commits 6 9 ∷ [])))) (deleted 0 9)
unfolding top_on top_of changes effect_on decided committed is_on is_changing number_at number_of bytes_of before_of after_of stamped
row-deleted =
    let s = slot 0 _ _ _ _ eight deleted-row-log deleted-row (lit≤ tt, tt) (λ t. lit≤ tt, tt) 0 (lit< tt) 0 in
    (number 0 _ _ _ _ eight deleted-row-log deleted-row (lit≤ tt, tt) (λ t. lit≤ tt, tt), ap xmax_of s, ap deleted_of s)

row-two : Meets (run (input 0 empty (log_of (inserts 1 0 0 0 (tuple 29 1) ∷ inserts 2 0 0 1 (tuple 39 1) ∷ [])))) (placed 16290 16250 8 16250)
unfolding top_on top_of changes effect_on decided committed is_on is_changing number_at number_of bytes_of before_of after_of body
row-two =
    let ss : List (List ℕ) = tuple 29 1 ∷ tuple 39 1 ∷ [] in
    let p = packed-after 0 _ _ _ _ eight two-tuples-log two-tuples (lit≤ tt, tt) (λ t. lit≤ tt, tt) 0 (lit< tt) (lit< tt) in
    let h = body_back _ ss p.1 in (
      number 0 _ _ _ _ eight two-tuples-log two-tuples (lit≤ tt, tt) (λ t. lit≤ tt, tt),
      ap (λ (q : List ℕ). slot_off (body_of q) 0) p.0 ∙ ap (λ (q : List ℕ). slot_off q 0) h,
      ap (λ (q : List ℕ). slot_off (body_of q) 1) p.0 ∙ ap (λ (q : List ℕ). slot_off q 1) h,
      ap free_start_of p.0 ∙ free_start-back _ ss (lit< tt),
      ap free_end_of p.0 ∙ free_end-back _ ss,
    )

row-too-large : Meets (run (input 0 empty (log_of (inserts 1 0 0 1 (tuple 16312 1) ∷ [])))) (answers 14 0)
unfolding top_on top_of changes effect_on decided committed is_on is_changing number_at number_of bytes_of before_of after_of
row-too-large = refusal 0 empty _ _ eight 13 0 (tight 0 _ _ _ (replicate 8 no_record) eight too-large-log too_large refl (lit≤ tt) (lit< tt) (lit< tt))

row-begin-zero : Meets (run (input 0 empty (log_of (begins 1 0 ∷ [])))) (answers 8 32)
unfolding order_from fault_after is_known is_shaped is_bare in_order is_changing
row-begin-zero = refusal 0 empty _ _ eight 7 32 (broken 0 (page 0 [] ∷ []) (begins 1 0 ∷ []) 7 32 (empty-ok, tt) (lit≤ tt) (bare 1 1 0 (lit< tt) (lit< tt) (lit< tt), tt) (lit≤ tt) refl)

row-lsn-above : Meets (run (input 8 (area (page 9 [] ∷ [])) (log_of (begins 8 7 ∷ [])))) (answers 12 0)
row-lsn-above = refusal 8 _ _ _ eight 11 0 (above 8 _ _ _ (replicate 8 no_record) eight lone-begin-log lone-begin refl (lit< tt))

row-lsn-floor : Meets (run (input 9 (area (page 9 [] ∷ [])) (log_of (begins 8 7 ∷ [])))) (answers 0 0)
unfolding top_on top_of changes effect_on decided committed is_on is_changing number_at number_of bytes_of before_of after_of
row-lsn-floor =
    (number 9 _ _ _ _ eight lone-begin-log lone-begin (lit≤ tt, tt) (λ t. lit≤ tt, tt), place 9 _ _ _ _ eight lone-begin-log lone-begin (lit≤ tt, tt) (λ t. lit≤ tt, tt))

-- ---- no pages, and a log without a whole entry
module _ (s : List ℕ) (head : header_fault s ≡ 0) (r : Reading) (read : read_at s 32 ≡ r) (never : (v : EntryView) → r ≡ Whole v → ⊥) where
  no-views : views s ≡ []
  no-views = none s 32 (λ v q. never v (sym read ∙ q))

  ends : recover_verdict (full_at 8) (lent magic 0 [] s) ≡ (end_verdict r 32 then accepted)
  unfolding recover_verdict log_verdict size_wrong order_from first_bad stray_from tight_from
  ends = rw (head, no-views, read)

  tail-is : end_verdict r 32 ≡ accepted → Meets (run (input 0 [] s)) (tail 32)
  unfolding done
  tail-is e =
      let a : recover_verdict (full_at 8) (lent magic 0 [] s) ≡ accepted = ends ∙ ap (λ (w : Verdict). w then accepted) e in
      let v : (recover_verdict (full_at 8) (lent magic 0 [] s)).number ≡ 0 = ap (λ (w : Verdict). w.number) a in
      let d = (recover-done magic 0 [] s (replicate 8 no_record) v).0 in
      (ap (λ (x : Answer). x.number) d, ap (λ (x : Answer). x.tail) d ∙ rw no-views)

row-header : Meets (run (input 0 [] header)) (tail 32)
unfolding header_fault read_at all_zero header bytes_of number_at number_of
row-header = tail-is header refl End refl (λ v q. not_end q) refl

row-short : Meets (run (input 0 [] (take 31 header))) (answers 3 0)
unfolding recover_verdict log_verdict header_fault header size_wrong bytes_of
row-short = refusal 0 [] _ _ eight 2 0 refl

row-torn : Meets (run (input 0 [] (header ++ take 42 (encoded (begins 1 7))))) (tail 32)
unfolding header_fault read_at all_zero header encoded unsealed bytes_of number_at number_of
row-torn = tail-is (header ++ take 42 (encoded (begins 1 7))) refl Torn refl (λ v q. not-torn q) refl

row-damage : Meets (run (input 0 [] (header ++ (bytes_of 4 42 ++ replicate 38 0)))) (answers 4 32)
unfolding header_fault read_at all_zero header bytes_of number_at number_of
row-damage = refusal 0 [] _ _ eight 3 32 (ends (header ++ (bytes_of 4 42 ++ replicate 38 0)) refl Damage refl (λ v q. not-damage q))

pub all-starred : Starred
all-starred = (
  row-header,
  (
    row-short,
    (
      row-torn,
      (
        row-damage,
        (
          row-unended,
          (
            row-committed-row,
            (
              row-earlier-commit,
              (
                row-deleted,
                (
                  row-two,
                  (row-largest, (row-too-large, (row-by-zero, (row-begin-zero, (row-lsn-above, (row-lsn-floor, tt)))))),
                ),
              ),
            ),
          ),
        ),
      ),
    ),
  ),
)
