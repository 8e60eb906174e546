-- Recovery again: from pages of which each is as it was or as an earlier run left it, the run from a log that begins with the earlier log's entries is
-- accepted as it was, and ends in the same bytes. Of any pages and any two logs.
-- Assumes nothing.
use mathlib.Core.Path.{◌≡◌, refl, sym, ap, ◌∙◌, subst}
use mathlib.Core.Logic.{◌⊎◌, inl, inr, ⊎_elim}
use mathlib.Core.Bool.{Bool, true, false}
use Prim.Native.Nat.{ℕ, ◌*◌, ◌/◌, ◌^◌, ◌≤◌, ◌<◌}
use native.Mathlib.Omega.{arith}
use native.Mathlib.Nat.{zero-add}
use mathlib.Core.List.{List, [], ◌++◌, append-nil}
use lib.ListN.{length}
use lib.Dec.{eqb}
use borrow.Author.Tests.{eq-eqb, eqb-true}
use Rattle.endian.specs.Numbers.{Bytes}
use Rattle.endian.proofs.Bytes.{bytes_take, bytes_drop}
use Rattle.wal.specs.Entry.{Entry}
use Rattle.wal.specs.Read.{header_fault, read_at, first}
use Rattle.wal.specs.Walk.{entries, end_of, ending_of, ending_number}
use Rattle.page.specs.Layout.{page_bytes, pages_in, page_at, slot_at}
use Rattle.page.specs.Good.{TupleGood}
use Rattle.refusals.specs.Verdict.{verdict}
use Rattle.page.specs.Fault.{size_wrong}
use Rattle.refusals.specs.declared.Verdict.{Verdict}
use Rattle.page.proofs.FaultLaws.{sound-good, good-sound}
use Rattle.page.proofs.Verdicts.{page-length}
use Rattle.rules.specs.Shape.{is_change, before_of, after_of}
use Rattle.rules.specs.Order.{last_lsn, full_at, order_from, end_verdict, log_verdict}
use Rattle.rules.specs.Mend.{committed, changes, last_on, decided, mend_by, mend, Accepts}
use Rattle.rules.specs.Recover.{recover_verdict, mended_from, done, refused, recover_by, recover_of, Recovered}
use Rattle.rules.specs.declared.Record.{Record}
use Rattle.rules.proofs.Slots.{Images, last-append}
use Rattle.rules.proofs.Mended.{slot-mended, length-mended, mend-again}
use Rattle.rules.proofs.Accepted.{mend-accepted}
use Rattle.rules.proofs.OrderLaws.{every_map, InTurn, in-turn, last-bounds, last-small}
use Rattle.rules.proofs.ImageLaws.{InRange, images-bytes, images-of, tuple-images}
use Rattle.rules.proofs.Range.{in-range}
use Rattle.rules.proofs.Verdicts.{Accepted, is-accepted, accepted-is}
use Rattle.refusals.proofs.Then.{then-zero}
use Rattle.rules.proofs.Area.{page-mended, mended-alike}
use Rattle.rules.specs.Lent.{lent}

-- an answer of 0 comes from no refusal
pub answer-zero : (v : Verdict) (pages log : List ℕ) (table : List Record) → (recover_by v pages log table).answer.number ≡ 0 → v.number ≡ 0
answer-zero v pages log table h = go (eqb v.number 0) refl h
  where
    go : (b : Bool) → eqb v.number 0 ≡ b → (recover_by v pages log table).answer.number ≡ 0 → v.number ≡ 0
    go true e k = eqb-true v.number 0 e
    go false e k = rw e at k

-- the two ways of recovery
module _ (magic floor : ℕ) (pages log : List ℕ) (table : List Record) where
  pub recover-done : (recover_verdict (full_at (length table)) (lent magic floor pages log)).number ≡ 0
      → ((recover_of (lent magic floor pages log) table).answer ≡ done (entries log) (end_of log) (ending_number (ending_of log)) (pages_in pages))
      × ((recover_of (lent magic floor pages log) table).pages ≡ mended_from (entries log) pages (pages_in pages) 0)
  unfolding recover_of
  recover-done h = rw (eq-eqb _ _ h) (refl, refl)

  -- a refusal leaves every buffer as it was
  pub recover-refused : eqb (recover_verdict (full_at (length table)) (lent magic floor pages log)).number 0 ≡ false
      → recover_of (lent magic floor pages log) table
      ≡ record { answer = refused (recover_verdict (full_at (length table)) (lent magic floor pages log)); pages = pages; table = table }
  unfolding recover_of
  recover-refused h = rw h

  pub recover-zero : (recover_of (lent magic floor pages log) table).answer.number ≡ 0 → (recover_verdict (full_at (length table)) (lent magic floor pages log)).number ≡ 0
  unfolding recover_of
  recover-zero h = answer-zero (recover_verdict (full_at (length table)) (lent magic floor pages log)) pages log table h

  pub zero-accepted : (recover_of (lent magic floor pages log) table).answer.number ≡ 0 → Accepted (full_at (length table)) magic floor pages log
  zero-accepted h = is-accepted (full_at (length table)) magic floor pages log (recover-zero h)

  -- each page is mended, and each of its slots decided
  module _ (a : Accepted (full_at (length table)) magic floor pages log) (i : ℕ) (l : i < pages_in pages) where
    abbrev E : List Entry
    E = entries log

    pub page-after : page_at i (recover_of (lent magic floor pages log) table).pages ≡ mend E i (page_at i pages)
    unfolding mend
    page-after =
        ap (page_at i) (recover-done (accepted-is (full_at (length table)) magic floor pages log a)).1
        ∙ page-mended E pages (pages_in pages) 0 i (λ k x y. length-mended (committed E) E k (page_at k pages) (page-length pages k (omega arith)) (a.roomy k (omega arith))) l
        ∙ ap (λ (k : ℕ). mend E k (page_at k pages)) (zero-add i)

    pub slot-after : (k : ℕ) → slot_at (page_at i (recover_of (lent magic floor pages log) table).pages) k ≡ decided (committed E) E i k (slot_at (page_at i pages) k)
    unfolding mend
    slot-after k = ap (λ (p : List ℕ). slot_at p k) page-after ∙ slot-mended (committed E) E i (page_at i pages) (page-length pages i l) (a.roomy i l) k

-- what an accepted log tells
log-in-turn : (full : ℕ → Bool) (s : List ℕ) → (log_verdict full s).number ≡ 0 → InTurn full [] (entries s)
unfolding log_verdict
log-in-turn full s h =
    let a = then-zero (verdict (header_fault s) 0) _ h in
    let b = then-zero (order_from full [] (entries s) first) (end_verdict (read_at s (end_of s)) (end_of s)) a.1 in
    in-turn full [] (entries s) first b.0

page-accepts : (full : ℕ → Bool) (magic floor : ℕ) (pages log : List ℕ) → Accepted full magic floor pages log → (i : ℕ) → i < pages_in pages
    → Accepts (committed (entries log)) magic floor (last_lsn (entries log)) (entries log) i (page_at i pages)
page-accepts full magic floor pages log a i l =
    record {
      good = sound-good magic i (page_at i pages) (page-length pages i l) (a.sane i l).sound;
      lsn_known = (a.sane i l).lsn_known;
      is_data = λ t. (a.on_data i t).is_data;
      has_room = a.roomy i l;
    }

module _ (full : ℕ → Bool) (magic floor₁ floor : ℕ) (P L₁ L₂ : List ℕ) (b_p : Bytes P) (b₁ : Bytes L₁) (b₂ : Bytes L₂) (longer : (fs : List Entry) × (entries L₁ ++ fs ≡ entries L₂))
    (A₁ : Accepted full magic floor₁ P L₁) (A₂ : Accepted full magic floor P L₂) where
  abbrev E₁ : List Entry
  E₁ = entries L₁

  abbrev E₂ : List Entry
  E₂ = entries L₂

  tuples : (i k : ℕ) → Images TupleGood (changes i k E₁)
  tuples = tuple-images full E₁ (log-in-turn full L₁ A₁.log_ok)

  bytes : (i k : ℕ) → Images Bytes (changes i k E₁)
  bytes i k = images-of Bytes i k E₁ (every_map InRange (λ e. is_change e ≡ true → Bytes (before_of e) × Bytes (after_of e)) (λ e r c. images-bytes e r) E₁ (in-range L₁ b₁))

  lsns : (i : ℕ) → last_on i E₂ ≤ last_lsn E₂
  lsns i = (last-bounds full i [] E₂ (log-in-turn full L₂ A₂.log_ok)).1

  small : last_lsn E₂ < 2 ^ 64
  small = last-small (2 ^ 64) E₂ (omega arith) (every_map InRange (λ e. e.lsn < 2 ^ 64) (λ e r. r.lsn) E₂ (in-range L₂ b₂))

  -- a page mended by the shorter cut is accepted by the longer, which mends it as it mends the page itself
  one-page : (i : ℕ) → i < pages_in P
      → Accepts (committed E₂) magic floor (last_lsn E₂) E₂ i (mend E₁ i (page_at i P)) × (mend E₂ i (mend E₁ i (page_at i P)) ≡ mend E₂ i (page_at i P))
  unfolding mend
  one-page i l = go E₂ longer.1 (page-accepts full magic floor P L₂ A₂ i l) (lsns i) small
    where
      a₁ : Accepts (committed E₁) magic floor₁ (last_lsn E₁) E₁ i (page_at i P)
      a₁ = page-accepts full magic floor₁ P L₁ A₁ i l

      b : Bytes (page_at i P)
      b = bytes_take page_bytes (bytes_drop (i * page_bytes) b_p)

      go : (E : List Entry) → E₁ ++ longer.0 ≡ E → Accepts (committed E) magic floor (last_lsn E) E i (page_at i P) → last_on i E ≤ last_lsn E → last_lsn E < 2 ^ 64
          → Accepts (committed E) magic floor (last_lsn E) E i (mend_by (committed E₁) E₁ i (page_at i P))
          × (mend_by (committed E) E i (mend_by (committed E₁) E₁ i (page_at i P)) ≡ mend_by (committed E) E i (page_at i P))
      go E e a₂ m s =
          let e' : E ≡ E₁ ++ longer.0 = sym e in
          let a : Accepts (committed E) magic floor (last_lsn E) (E₁ ++ longer.0) i (page_at i P) = subst (λ (X : List Entry). Accepts (committed E) magic floor (last_lsn E) X i (page_at i P)) e' a₂ in
          let n : last_on i (E₁ ++ longer.0) ≤ last_lsn E = rw e m in
          let x = (mend-accepted (committed E₁) (committed E) magic floor₁ floor (last_lsn E₁) (last_lsn E) E₁ longer.0 i (page_at i P) a₁ a b n s (tuples i) (bytes i)).0 in
          let y = mend-again (committed E₁) (committed E) E₁ longer.0 i (page_at i P) a₁.good.size b (omega (arith, last-append i E₁ longer.0)) a₁.has_room in (
            subst (λ (X : List Entry). Accepts (committed E) magic floor (last_lsn E) X i (mend_by (committed E₁) E₁ i (page_at i P))) e x,
            subst (λ (X : List Entry). mend_by (committed E) X i (mend_by (committed E₁) E₁ i (page_at i P)) ≡ mend_by (committed E) X i (page_at i P)) e y,
          )

  -- pages of which each is as it was, or as the shorter cut mends it
  module _ (Q : List ℕ) (same : length Q ≡ length P)
      (each : (i : ℕ) → i < pages_in P → (page_at i Q ≡ page_at i P) ⊎ (page_at i Q ≡ mend E₁ i (page_at i P))) where
    count_same : pages_in Q ≡ pages_in P
    count_same = ap (λ (n : ℕ). n / page_bytes) same

    page-q : (i : ℕ) → i < pages_in P → Accepts (committed E₂) magic floor (last_lsn E₂) E₂ i (page_at i Q)
    page-q i l = go (each i l)
      where
        go : (page_at i Q ≡ page_at i P) ⊎ (page_at i Q ≡ mend E₁ i (page_at i P)) → Accepts (committed E₂) magic floor (last_lsn E₂) E₂ i (page_at i Q)
        go (inl e) = subst (λ (q : List ℕ). Accepts (committed E₂) magic floor (last_lsn E₂) E₂ i q) (sym e) (page-accepts full magic floor P L₂ A₂ i l)
        go (inr e) = subst (λ (q : List ℕ). Accepts (committed E₂) magic floor (last_lsn E₂) E₂ i q) (sym e) (one-page i l).0

    mend-q : (i : ℕ) → i < pages_in P → mend E₂ i (page_at i Q) ≡ mend E₂ i (page_at i P)
    mend-q i l = go (each i l)
      where
        go : (page_at i Q ≡ page_at i P) ⊎ (page_at i Q ≡ mend E₁ i (page_at i P)) → mend E₂ i (page_at i Q) ≡ mend E₂ i (page_at i P)
        go (inl e) = ap (mend E₂ i) e
        go (inr e) = ap (mend E₂ i) e ∙ (one-page i l).1

    again-accepted : Accepted full magic floor Q L₂
    unfolding size_wrong
    again-accepted =
        record {
          size = rw same A₂.size;
          log_ok = A₂.log_ok;
          sane = λ i l.
              let a = page-q i (omega (arith, count_same)) in
              record { sound = good-sound magic i (page_at i Q) a.good; lsn_known = a.lsn_known };
          on_data = λ i t.
              let b = A₂.on_data i t in
              record { within = omega (arith, count_same, b.within); is_data = (page-q i b.within).is_data t };
          roomy = λ i l. (page-q i (omega (arith, count_same))).has_room;
        }

    again-pages : mended_from E₂ Q (pages_in Q) 0 ≡ mended_from E₂ P (pages_in P) 0
    again-pages = ap (λ (n : ℕ). mended_from E₂ Q n 0) count_same ∙ mended-alike E₂ Q P (pages_in P) 0 (λ k a b. mend-q k (omega arith))

-- the theorem, of any pages and any two logs of which one begins with the other's entries
module _ (magic floor₁ floor : ℕ) (P L₁ L₂ : List ℕ) (b_p : Bytes P) (b₁ : Bytes L₁) (b₂ : Bytes L₂) (longer : (fs : List Entry) × (entries L₁ ++ fs ≡ entries L₂)) (T₁ T₂ T₃ : List Record)
    (t₁ : length T₁ ≡ length T₂) (t₃ : length T₃ ≡ length T₂) (ok : (recover_of (lent magic floor P L₂) T₂).answer.number ≡ 0)
    (Q : List ℕ) (same : length Q ≡ length P)
    (each : (i : ℕ) → i < pages_in P → (page_at i Q ≡ page_at i P) ⊎ (page_at i Q ≡ page_at i (recover_of (lent magic floor₁ P L₁) T₁).pages)) where
  A : Accepted (full_at (length T₂)) magic floor P L₂
  A = zero-accepted magic floor P L₂ T₂ ok

  abbrev Ends : Type 0
  Ends = ((recover_of (lent magic floor Q L₂) T₃).answer ≡ (recover_of (lent magic floor P L₂) T₂).answer)
      × ((recover_of (lent magic floor Q L₂) T₃).pages ≡ (recover_of (lent magic floor P L₂) T₂).pages)

  -- from an accepted first run; a refused one left every page as it was, so the longer log itself serves as the shorter
  ends : (L : List ℕ) (f : ℕ) → Bytes L → (fs : List Entry) × (entries L ++ fs ≡ entries L₂) → Accepted (full_at (length T₂)) magic f P L
      → ((i : ℕ) → i < pages_in P → (page_at i Q ≡ page_at i P) ⊎ (page_at i Q ≡ mend (entries L) i (page_at i P))) → Ends
  ends L f b l a h =
      let n : pages_in Q ≡ pages_in P = ap (λ (n : ℕ). n / page_bytes) same in
      let acc = again-accepted (full_at (length T₂)) magic f floor P L L₂ b_p b b₂ l a A Q same h in
      let v : (recover_verdict (full_at (length T₃)) (lent magic floor Q L₂)).number ≡ 0 = rw t₃ (accepted-is (full_at (length T₂)) magic floor Q L₂ acc) in
      let d = recover-done magic floor Q L₂ T₃ v in
      let e = recover-done magic floor P L₂ T₂ (recover-zero magic floor P L₂ T₂ ok) in (
        d.0 ∙ ap (done (entries L₂) (end_of L₂) (ending_number (ending_of L₂))) n ∙ sym e.0,
        d.1 ∙ again-pages (full_at (length T₂)) magic f floor P L L₂ b_p b b₂ l a A Q same h ∙ sym e.1,
      )

  pub again : Ends
  again = go (eqb (recover_verdict (full_at (length T₁)) (lent magic floor₁ P L₁)).number 0) refl
    where
      go : (b : Bool) → eqb (recover_verdict (full_at (length T₁)) (lent magic floor₁ P L₁)).number 0 ≡ b → Ends
      go true e =
          let v : (recover_verdict (full_at (length T₁)) (lent magic floor₁ P L₁)).number ≡ 0 = eqb-true _ _ e in
          let a : Accepted (full_at (length T₁)) magic floor₁ P L₁ = is-accepted (full_at (length T₁)) magic floor₁ P L₁ v in
          ends L₁ floor₁ b₁ longer (rw t₁ at a) (λ i l. ⊎_elim {C = (page_at i Q ≡ page_at i P) ⊎ (page_at i Q ≡ mend (entries L₁) i (page_at i P))} (λ h. inl h) (λ h. inr (h ∙ page-after magic floor₁ P L₁ T₁ a i l)) (each i l))
      go false e =
          let p : (recover_of (lent magic floor₁ P L₁) T₁).pages ≡ P = ap (λ (r : Recovered). r.pages) (recover-refused magic floor₁ P L₁ T₁ e) in
          ends L₂ floor b₂ ([], append-nil (entries L₂)) A (λ i l. inl (⊎_elim {C = page_at i Q ≡ page_at i P} (λ h. h) (λ h. h ∙ ap (page_at i) p) (each i l)))
