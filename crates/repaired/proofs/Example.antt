-- The example meets every hypothesis of both halves: the double-write file is accepted, a copy is taken and another page kept, both as they stood, each file of the log has what they felt, and recovery accepts.
-- Assumes nothing.
use mathlib.Core.Path.{◌≡◌, refl, sym, ap, ◌∙◌}
use mathlib.Core.Logic.{inl, inr}
use mathlib.Core.Bool.{Bool, true, false}
use Prim.Native.Nat.{ℕ, zero, suc, ◌+◌, ◌*◌, ◌^◌, ◌≤◌, ◌<◌}
use native.Mathlib.Omega.{arith}
use mathlib.Core.List.{List, [], ◌∷◌}
use lib.ListN.{length, drop, replicate, length-append}
use lib.Dec.{eqb, lit<, lit≤}
use lib.Seq.{paste, length-paste, drop-paste, drop-drop, take_all}
use borrow.Author.Tests.{ne_eqb}
use Rattle.endian.specs.Pick.{pick}
use Rattle.endian.specs.Numbers.{Bytes, bytes_of}
use Rattle.endian.proofs.Numbers.{length-bytes_of}
use Rattle.endian.proofs.Places.{number-stored}
use Rattle.endian.proofs.Bytes.{bytes-append, bytes-of, bytes_take, bytes_drop}
use Rattle.crc32c.specs.Crc.{crc32c}
use Rattle.page.specs.Layout.{page_bytes, pages_in, page_at, type_of, crc_of, body_of, slot_at}
use Rattle.page.specs.Good.{Good}
use Rattle.page.specs.Fault.{size_wrong}
use Rattle.page.proofs.Areas.{page-first, page-later, same-pages}
use Rattle.page.proofs.Verdicts.{page-length, size-right}
use Rattle.doublewrite.specs.Repair.{copy_of, is_torn, is_taken, repaired, repair_verdict, pages_after}
use Rattle.doublewrite.specs.Write.{rises}
use Rattle.doublewrite.proofs.Repairing.{copy-good, good-whole, good-taken, whole-stays, page-kept, page-restored}
use Rattle.doublewrite.proofs.Listed.{rise-each}
use Rattle.doublewrite.proofs.ReadBack.{written_read, file-bytes}
use Rattle.doublewrite.proofs.Laws.{pagewise, length-repaired, written-copy, after-repair}
use Rattle.rules.specs.Lent.{lent}
use Rattle.rules.specs.Recover.{recover_of}
use Rattle.history.specs.Demand3.{HasFelt}
use Rattle.wal.specs.Entry.{encoded, encoded_all, unsealed, header, sizes_of}
use Rattle.wal.specs.Walk.{entries}
use Rattle.history.specs.History.{ledger}
use Rattle.cases.specs.Build.{magic, page}
use Rattle.cases.specs.Starred.{a, c, no_record}
use Rattle.cases.specs.Example.{before, whole, roomy, completed, moment, stood}
use Rattle.cases.proofs.Area.{pages-in, area-whole, page-at, good_of, type-of}
use Rattle.cases.proofs.Example.{example, stood_ok, stands, felt-earlier, ok-completed, bytes-example}
use Rattle.cases.proofs.ThreeRuns.{bytes-stood}
use Rattle.repaired.specs.Demand3Repaired.{StandsAt, StandsRepaired}
use Rattle.repaired.specs.Example.{other, tear, torn_pages, both, copies}
use Rattle.repaired.proofs.Demand3Repaired.{demand3-repaired}

-- ---- a page with another checksum is torn

module _ (p : List ℕ) (long : length p ≡ page_bytes) where
  pub length-tear : length (tear p) ≡ page_bytes
  unfolding tear
  length-tear = let n : ℕ = other (crc32c (body_of p)) in length-paste p 12 (bytes_of 4 n) 4 (omega arith) (omega (arith, length-bytes_of 4 n)) ∙ long

  tear-crc : crc_of (tear p) ≡ other (crc32c (body_of p))
  unfolding tear
  tear-crc = number-stored 4 12 (other (crc32c (body_of p))) p (omega arith) (low (eqb (crc32c (body_of p)) 0))
    where
      low : (b : Bool) → pick b 1 0 < 256 ^ 4
      low true = lit< tt
      low false = lit< tt

  tear-body : body_of (tear p) ≡ body_of p
  unfolding tear
  tear-body =
      let n : ℕ = other (crc32c (body_of p)) in
      sym (drop-drop 48 16 (paste p 12 (bytes_of 4 n) 4)) ∙ ap (drop 48) (drop-paste p 12 (bytes_of 4 n) 4 (omega arith) (omega (arith, length-bytes_of 4 n))) ∙ drop-drop 48 16 p

  pub tear-torn : is_torn (tear p) ≡ true
  unfolding is_torn
  tear-torn = rw (tear-crc, tear-body, ne_eqb (other (crc32c (body_of p))) (crc32c (body_of p)) (differs (crc32c (body_of p))))
    where
      differs : (n : ℕ) → other n ≡ n → ⊥
      differs zero e = omega arith
      differs (suc n) e = omega (arith, ap {B = ℕ} (λ (b : Bool). pick b 1 0) (ne_eqb (suc n) 0 (λ z. omega arith)))

-- ---- the pages

two : pages_in stood ≡ 2
two = pages-in (page 7 (c ∷ []) ∷ page 5 (a ∷ []) ∷ []) stood_ok

size-0 : length (page_at 0 stood) ≡ page_bytes
size-0 = page-length stood 0 (omega (arith, two))

size-1 : length (page_at 1 stood) ≡ page_bytes
size-1 = page-length stood 1 (omega (arith, two))

good-0 : Good magic 0 (page_at 0 stood)
good-0 = rw (page-at (page 7 (c ∷ []) ∷ page 5 (a ∷ []) ∷ []) stood_ok 0 (lit< tt)) (good_of 0 _ stood_ok.0 (lit< tt))

good-1 : Good magic 1 (page_at 1 stood)
good-1 = rw (page-at (page 7 (c ∷ []) ∷ page 5 (a ∷ []) ∷ []) stood_ok 1 (lit< tt)) (good_of 1 _ stood_ok.1.0 (lit< tt))

lent-long : length torn_pages ≡ 2 * page_bytes
unfolding torn_pages
lent-long = length-append (page_at 0 stood) (tear (page_at 1 stood)) ∙ omega (arith, size-0, length-tear (page_at 1 stood) size-1)

lent_two : pages_in torn_pages ≡ 2
lent_two = omega (arith, lent-long)

lent-0 : page_at 0 torn_pages ≡ page_at 0 stood
unfolding torn_pages
lent-0 = page-first (page_at 0 stood) (tear (page_at 1 stood)) size-0

lent-1 : page_at 1 torn_pages ≡ tear (page_at 1 stood)
unfolding torn_pages
lent-1 = page-later 0 (page_at 0 stood) (tear (page_at 1 stood)) size-0 ∙ take_all page_bytes (tear (page_at 1 stood)) (omega (arith, length-tear (page_at 1 stood) size-1))

-- ---- the double-write file

rising : rises 0 (pages_in stood) both ≡ true
unfolding rises
rising = rw two

-- the repair is accepted
pub repairs : (repair_verdict torn_pages copies).number ≡ 0
unfolding repair_verdict
repairs =
    let s : size_wrong torn_pages ≡ false = size-right torn_pages (omega (arith, lent-long)) (omega (arith, lent_two)) in
    rw (s, lent_two, ← two, written_read stood both (omega (arith, two)) rising bytes-stood)

copy-1 : copy_of copies 1 ≡ page_at 1 stood
copy-1 = written-copy stood both (omega (arith, two)) rising 1 (lit< tt)

-- page 0 is kept, and page 1 taken from its copy
kept : is_taken magic 0 (copy_of copies 0) (page_at 0 torn_pages) ≡ false
kept = whole-stays magic 0 (copy_of copies 0) (page_at 0 torn_pages) (ap is_torn lent-0 ∙ good-whole magic 0 (page_at 0 stood) good-0)

taken : is_taken magic 1 (copy_of copies 1) (page_at 1 torn_pages) ≡ true
taken =
    good-taken magic 1 (copy_of copies 1) (page_at 1 torn_pages) (ap is_torn lent-1 ∙ tear-torn (page_at 1 stood) size-1)
    (copy-good magic 1 (copy_of copies 1) (rw copy-1 good-1))

-- so the pages are as they stood
mended-stood : repaired magic copies torn_pages ≡ stood
mended-stood =
    same-pages 2 (repaired magic copies torn_pages) stood (length-repaired magic copies torn_pages ∙ ap (λ (n : ℕ). n * page_bytes) lent_two) (area-whole (page 7 (c ∷ []) ∷ page 5 (a ∷ []) ∷ []) stood_ok) each
  where
    each : (i : ℕ) → i < 2 → page_at i (repaired magic copies torn_pages) ≡ page_at i stood
    each zero l = pagewise magic copies torn_pages 0 (omega (arith, lent_two)) ∙ page-kept magic 0 (copy_of copies 0) (page_at 0 torn_pages) kept ∙ lent-0
    each (suc zero) l = pagewise magic copies torn_pages 1 (omega (arith, lent_two)) ∙ page-restored magic 1 (copy_of copies 1) (page_at 1 torn_pages) taken ∙ copy-1
    each (suc (suc i)) l = absurd (omega arith)

after : pages_after magic torn_pages copies ≡ stood
after = after-repair torn_pages copies repairs magic ∙ mended-stood

-- ---- the hypotheses

stands_at : (i : ℕ) → i < 2 → StandsAt example (moment i) i (page_at i stood)
stands_at i l =
    let b : i < pages_in stood = omega (arith, two) in
    record { type = λ d. stands.type i b d; slots = λ d k. stands.slots i k b d }

pub stands-repaired : StandsRepaired example moment magic torn_pages copies
stands-repaired = record { copy = λ i l. copy i (omega (arith, lent_two)); own = λ i l. own i (omega (arith, lent_two)) }
  where
    copy : (i : ℕ) → i < 2 → is_taken magic i (copy_of copies i) (page_at i torn_pages) ≡ true → StandsAt example (moment i) i (copy_of copies i)
    copy zero l t = absurd (omega (arith, ap {B = ℕ} (λ (b : Bool). pick b 1 0) (sym kept ∙ t)))
    copy (suc zero) l t = rw copy-1 (stands_at 1 l)
    copy (suc (suc i)) l t = absurd (omega arith)

    own : (i : ℕ) → i < 2 → is_taken magic i (copy_of copies i) (page_at i torn_pages) ≡ false → StandsAt example (moment i) i (page_at i torn_pages)
    own zero l t = rw lent-0 (stands_at 0 l)
    own (suc zero) l t = absurd (omega (arith, ap {B = ℕ} (λ (b : Bool). pick b 1 0) (sym t ∙ taken)))
    own (suc (suc i)) l t = absurd (omega arith)

pub felt-repaired : HasFelt example moment (pages_after magic torn_pages copies) completed
felt-repaired = rw after felt-earlier

pub ok-repaired : (recover_of (lent magic 7 (pages_after magic torn_pages copies) completed) (replicate 8 no_record)).answer.number ≡ 0
ok-repaired = rw after ok-completed

-- pages and double-write file are bytes, as the second half asks
pub pages-bytes : Bytes torn_pages
unfolding torn_pages tear
pages-bytes =
    let b : Bytes (page_at 1 stood) = bytes_take page_bytes (bytes_drop (1 * page_bytes) bytes-stood) in
    bytes-append (bytes_take page_bytes (bytes_drop (0 * page_bytes) bytes-stood)) (bytes-append (bytes-append (bytes_take 12 b) (bytes_take 4 (bytes-of 4 (other (crc32c (body_of (page_at 1 stood))))))) (bytes_drop 16 b))

doublewrite-bytes : Bytes copies
doublewrite-bytes = file-bytes stood both (λ k h. (rise-each 0 (pages_in stood) both rising k h).1) (lit< tt) bytes-stood

-- ---- the theorem, of the example

-- slot 0 of page 1, which is torn: what the ledger says
pub exact-here : slot_at (page_at 1 (recover_of (lent magic 7 (pages_after magic torn_pages copies) completed) (replicate 8 no_record)).pages) 0 ≡ ledger before (entries completed) 1 0
unfolding example
exact-here =
    (demand3-repaired example).exact magic 7 moment torn_pages copies (32 + sizes_of whole + 130) 7 (replicate 8 no_record) repairs stands-repaired felt-repaired ok-repaired 1 0 (omega (arith, lent_two))
    (ap (λ (s : List ℕ). type_of (page_at 1 s)) after ∙ ap type_of (page-at (page 7 (c ∷ []) ∷ page 5 (a ∷ []) ∷ []) stood_ok 1 (lit< tt)) ∙ type-of 1 _ stood_ok.1.0)

-- the second file is the longer one
longer : length roomy ≤ length completed
unfolding encoded_all encoded unsealed header bytes_of
longer = lit≤ tt

-- stopped behind the repair, or in a recovery from the first file, which had not changed a page yet, and begun again from the second: the same bytes
pub repeats-here : (recover_of (lent magic 7 (pages_after magic stood copies) completed) (replicate 8 no_record)).pages
    ≡ (recover_of (lent magic 7 (pages_after magic torn_pages copies) completed) (replicate 8 no_record)).pages
unfolding example
repeats-here =
    ((demand3-repaired example).repeats magic 7 7 torn_pages copies (32 + sizes_of whole) 16 (32 + sizes_of whole + 130) 7 (replicate 8 no_record) (replicate 8 no_record) (replicate 8 no_record)
    pages-bytes doublewrite-bytes bytes-example (omega arith) longer refl refl repairs ok-repaired stood
    (record { size = area-whole (page 7 (c ∷ []) ∷ page 5 (a ∷ []) ∷ []) stood_ok ∙ sym lent-long; each = λ i l. inr (inl (ap (page_at i) (sym after))) })).2
