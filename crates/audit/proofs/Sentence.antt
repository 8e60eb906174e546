-- The theorems of W10: yes exactly when paper 02's sentence holds, and a no names the lowest page that is not right and its lowest slot that differs.
-- Assumes nothing.
use Prim.Native.Nat.{ℕ, zero, suc, ◌+◌, ◌-◌, ◌≤◌, ◌<◌}
use mathlib.Core.Path.{◌≡◌, refl, sym, ap, ◌∙◌}
use mathlib.Core.Bool.{Bool, true, false}
use mathlib.Core.List.{List}
use native.Mathlib.Decide.{dec_le}
use native.Mathlib.Nat.{zero-add}
use native.Mathlib.Omega.{arith}
use lib.ListN.{length}
use lib.Dec.{eqb}
use borrow.Author.Tests.{eq-eqb, ne_eqb, eqb-true, eqb-false}
use Rattle.endian.specs.Pick.{pick}
use Rattle.wal.specs.Entry.{Entry}
use Rattle.wal.specs.Walk.{entries}
use Rattle.page.specs.Layout.{pages_in, page_at, slot_at}
use Rattle.page.specs.Fault.{never_late, first_bad, size_wrong, verdict_from}
use Rattle.page.proofs.Verdicts.{number_of, page-length, right-size, case-search, accepted-good, good-accepted}
use Rattle.refusals.specs.Verdict.{verdict, accepted}
use Rattle.refusals.proofs.Then.{then-zero, zero-then}
use Rattle.rules.specs.Order.{never_full}
use Rattle.rules.specs.Mend.{committed, decided, mend}
use Rattle.rules.specs.Lent.{lent}
use Rattle.rules.specs.Recover.{recover_verdict, recover_of}
use Rattle.rules.specs.declared.Record.{Record}
use Rattle.rules.proofs.Again.{recover-zero, recover-done}
use Rattle.rules.proofs.Area.{page-mended}
use Rattle.rules.proofs.Mended.{slot-mended, length-mended}
use Rattle.rules.proofs.Tests.{false-true}
use Rattle.rules.proofs.Verdicts.{Accepted, is-accepted}
use Rattle.audit.specs.declared.Finding.{Finding}
use Rattle.audit.specs.Judge.{length_verdict, judge_verdict, alike, apart, refused_by, page_finding, or_else, finding_from, judge_from}
use Rattle.audit.specs.Right.{PageRight, SlotNamed, ours, Lendable, Right, Wrong}
use Rattle.audit.proofs.Pagewise.{else-true, else-false}
use Rattle.audit.proofs.RightPages.{differs-of, page-right, right-page, page-names}

-- ---- page by page

module _ (es : List Entry) (before after our : List ℕ) (n : ℕ)
    (each : (i : ℕ) → i < n → (k : ℕ) → slot_at (page_at i our) k ≡ decided (committed es) es i k (slot_at (page_at i before) k)) where
  abbrev At : ℕ → Type 0
  At j = PageRight es j (page_at j before) (page_at j our) (page_at j after)

  abbrev found : ℕ → Finding
  found i = page_finding es i (page_at i before) (page_at i after)

  here-right : (i : ℕ) → i < n → (found i).differs ≡ false → At i
  here-right i l h = page-right es i (page_at i before) (page_at i our) (page_at i after) (each i l) h

  here-alike : (i : ℕ) → i < n → At i → found i ≡ alike
  here-alike i l h = right-page es i (page_at i before) (page_at i our) (page_at i after) (each i l) h

  upon : (i j : ℕ) → At i → (suc i ≤ j → At j) → i ≤ j → At j
  upon i j x f l = elim (dec_le (suc i) j) as (λ _. At j) [ yes k ↦ f k | no k ↦ let z : j ≡ i = omega arith in rw z x ]

  all_right : (m i : ℕ) → i + m ≤ n → (finding_from es before after m i).differs ≡ false → (j : ℕ) → i ≤ j → j < i + m → At j
  unfolding finding_from
  all_right zero i r h j a b = absurd (omega arith)
  all_right (suc m) i r h j a b = go (found i).differs refl (λ e x. all_right m (suc i) (omega arith) e j x (omega arith))
    where
      go : (t : Bool) → (found i).differs ≡ t → ((finding_from es before after m (suc i)).differs ≡ false → suc i ≤ j → At j) → At j
      go true e f = false-true (sym (sym (ap differs-of (else-true (found i) (finding_from es before after m (suc i)) e) ∙ e) ∙ h))
      go false e f =
          upon i j (here-right i (omega arith) e) (f (sym (ap differs-of (else-false (found i) (finding_from es before after m (suc i)) e)) ∙ h)) a

  right-all : (m i : ℕ) → i + m ≤ n → ((j : ℕ) → i ≤ j → j < i + m → At j) → finding_from es before after m i ≡ alike
  unfolding finding_from
  right-all zero i r h = refl
  right-all (suc m) i r h =
      let e = here-alike i (omega arith) (h i (omega arith) (omega arith)) in
      else-false (found i) (finding_from es before after m (suc i)) (ap differs-of e) ∙ right-all m (suc i) (omega arith) (λ j a b. h j (omega arith) (omega arith))

  -- the lowest page that is not right
  record Names (i : ℕ) (f : Finding) : Type 0 where
    page : ℕ
    slot : ℕ
    is : f ≡ apart page slot
    from : i ≤ page
    within : page < n
    earlier : (j : ℕ) → i ≤ j → j < page → At j
    wrong : At page → ⊥
    named : SlotNamed es page (page_at page before) (page_at page our) (page_at page after) slot

  names : (m i : ℕ) → i + m ≤ n → (finding_from es before after m i).differs ≡ true → Names i (finding_from es before after m i)
  unfolding finding_from
  names zero i r h = false-true h
  names (suc m) i r h = go (found i).differs refl (names m (suc i) (omega arith))
    where
      go : (t : Bool) → (found i).differs ≡ t → ((finding_from es before after m (suc i)).differs ≡ true → Names (suc i) (finding_from es before after m (suc i)))
          → Names i (or_else (found i) (finding_from es before after m (suc i)))
      go true e f =
          let s = page-names es i (page_at i before) (page_at i our) (page_at i after) (each i (omega arith)) e in
          record {
            page = i;
            slot = s.0;
            is = else-true (found i) (finding_from es before after m (suc i)) e ∙ s.1;
            from = omega arith;
            within = omega arith;
            earlier = λ j a b. absurd (omega arith);
            wrong = λ w. false-true (sym (ap differs-of (here-alike i (omega arith) w)) ∙ e);
            named = s.2;
          }
      go false e f =
          let q = else-false (found i) (finding_from es before after m (suc i)) e in
          let l = f (sym (ap differs-of q) ∙ h) in
          record {
            page = l.page;
            slot = l.slot;
            is = q ∙ l.is;
            from = omega (arith, l.from);
            within = l.within;
            earlier = λ j a b. upon i j (here-right i (omega arith) e) (λ x. l.earlier j x b) a;
            wrong = l.wrong;
            named = l.named;
          }

-- ---- what recovery leaves

module _ (magic floor : ℕ) (before log : List ℕ) where
  -- with every table with which it is done
  pub ours-recovered : (table : List Record) → (recover_of (lent magic floor before log) table).answer.number ≡ 0 → (recover_of (lent magic floor before log) table).pages ≡ ours (lent magic floor before log)
  ours-recovered table ok = (recover-done magic floor before log table (recover-zero magic floor before log table ok)).1

  module _ (full : ℕ → Bool) (a : Accepted full magic floor before log) (i : ℕ) (l : i < pages_in before) where
    pub ours-page : page_at i (ours (lent magic floor before log)) ≡ mend (entries log) i (page_at i before)
    unfolding mend
    ours-page =
        page-mended (entries log) before (pages_in before) 0 i (λ k x y. length-mended (committed (entries log)) (entries log) k (page_at k before) (page-length before k (omega arith)) (a.roomy k (omega arith))) l
        ∙ ap (λ (k : ℕ). mend (entries log) k (page_at k before)) (zero-add i)

    pub ours-slot : (k : ℕ) → slot_at (page_at i (ours (lent magic floor before log))) k ≡ decided (committed (entries log)) (entries log) i k (slot_at (page_at i before) k)
    unfolding mend
    ours-slot k = ap (λ (p : List ℕ). slot_at p k) ours-page ∙ slot-mended (committed (entries log)) (entries log) i (page_at i before) (page-length before i l) (a.roomy i l) k

-- ---- the verdict

size_same : (a b : List ℕ) → length a ≡ length b → size_wrong a ≡ false → size_wrong b ≡ false
unfolding size_wrong
size_same a b e h = rw e at h

module _ (magic floor : ℕ) (before log after : List ℕ) where
  lengths-zero : (length_verdict before after).number ≡ 0 → length before ≡ length after
  unfolding length_verdict
  lengths-zero = go (eqb (length before) (length after)) refl
    where
      go : (b : Bool) → eqb (length before) (length after) ≡ b → (pick b accepted (verdict 39 0)).number ≡ 0 → length before ≡ length after
      go true e h = eqb-true _ _ e
      go false e h = absurd (omega arith)

  zero-lengths : length before ≡ length after → (length_verdict before after).number ≡ 0
  unfolding length_verdict
  zero-lengths e = rw (eq-eqb (length before) (length after) e)

  search_is : size_wrong after ≡ false → first_bad never_late magic after (pages_in after) 0 ≡ verdict_from magic after 0
  search_is h = let z : pages_in after ≡ pages_in after - 0 = omega arith in ap (λ (n : ℕ). first_bad never_late magic after n 0) z ∙ case-search magic after 0 h

  pub zero-lendable : (judge_verdict (lent magic floor before log) after).number ≡ 0 → Lendable (lent magic floor before log) after
  unfolding judge_verdict
  zero-lendable h =
      let a = then-zero (recover_verdict never_full (lent magic floor before log)) _ h in
      let b = then-zero (length_verdict before after) (first_bad never_late magic after (pages_in after) 0) a.1 in
      let e = lengths-zero b.0 in
      let s = size_same before after e (is-accepted never_full magic floor before log a.0).size in
      record { accepts = a.0; lengths = e; good = λ i l. accepted-good magic after 0 (sym (ap number_of (search_is s)) ∙ b.1) i (omega arith) l }

  pub lendable-zero : Lendable (lent magic floor before log) after → (judge_verdict (lent magic floor before log) after).number ≡ 0
  unfolding judge_verdict
  lendable-zero l =
      let s = size_same before after l.lengths (is-accepted never_full magic floor before log l.accepts).size in
      let r = right-size after s in
      zero-then (recover_verdict never_full (lent magic floor before log)) _ l.accepts
      (zero-then (length_verdict before after) (first_bad never_late magic after (pages_in after) 0) (zero-lengths l.lengths)
      (ap number_of (search_is s ∙ good-accepted magic after 0 r.0 r.1 (λ i f k. l.good i k))))

  module _ (first : ℕ) where
    abbrev Searched : Finding
    Searched = finding_from (entries log) before after (pages_in before - first) first

    judge-found : (judge_verdict (lent magic floor before log) after).number ≡ 0 → judge_from (lent magic floor before log) after first ≡ Searched
    unfolding judge_from
    judge-found h = rw (eq-eqb _ 0 h)

    judge-refused : ((judge_verdict (lent magic floor before log) after).number ≡ 0 → ⊥) → judge_from (lent magic floor before log) after first ≡ refused_by (judge_verdict (lent magic floor before log) after)
    unfolding judge_from
    judge-refused h = rw (ne_eqb _ 0 h)

    none : pages_in before ≤ first → Searched ≡ alike
    unfolding finding_from
    none f = let z : pages_in before - first ≡ 0 = omega arith in rw z

    -- an answer that is no refusal
    answered : {A : Type 0} → ((judge_verdict (lent magic floor before log) after).number ≡ 0 → A) → (judge_from (lent magic floor before log) after first ≡ refused_by (judge_verdict (lent magic floor before log) after) → ((judge_verdict (lent magic floor before log) after).number ≡ 0 → ⊥) → A) → A
    answered {A} f g = go (eqb (judge_verdict (lent magic floor before log) after).number 0) refl
      where
        go : (b : Bool) → eqb (judge_verdict (lent magic floor before log) after).number 0 ≡ b → A
        go true e = f (eqb-true _ 0 e)
        go false e = let n = eqb-false _ 0 e in g (judge-refused n) n

    each : (recover_verdict never_full (lent magic floor before log)).number ≡ 0 → (i : ℕ) → i < pages_in before → (k : ℕ)
        → slot_at (page_at i (ours (lent magic floor before log))) k ≡ decided (committed (entries log)) (entries log) i k (slot_at (page_at i before) k)
    each h i l k = ours-slot magic floor before log never_full (is-accepted never_full magic floor before log h) i l k

    -- yes exactly when the sentence holds
    pub yes-right : judge_from (lent magic floor before log) after first ≡ alike → Right (lent magic floor before log) after first
    yes-right y =
        answered
        (λ h.
        let l = zero-lendable h in
        let q : Searched.differs ≡ false = ap differs-of (sym (judge-found h) ∙ y) in
        record {
          lendable = l;
          pages = λ i f w. all_right (entries log) before after (ours (lent magic floor before log)) (pages_in before) (each l.accepts) (pages_in before - first) first (omega arith) q i f (omega arith);
        })
        (λ e n. absurd (n (ap (λ (f : Finding). f.verdict.number) (sym e ∙ y))))

    pub right-yes : Right (lent magic floor before log) after first → judge_from (lent magic floor before log) after first ≡ alike
    right-yes r =
        elim (dec_le first (pages_in before)) [
          | yes f ↦ judge-found (lendable-zero r.lendable)
              ∙ right-all (entries log) before after (ours (lent magic floor before log)) (pages_in before) (each r.lendable.accepts) (pages_in before - first) first (omega arith) (λ i a w. r.pages i a (omega arith))
          | no f ↦ judge-found (lendable-zero r.lendable) ∙ none (omega arith)
        ]

    -- a no names the lowest page that is not right, and its slot
    pub no_names : (judge_from (lent magic floor before log) after first).differs ≡ true
        → (i : ℕ) × (k : ℕ) × (judge_from (lent magic floor before log) after first ≡ apart i k) × Wrong (lent magic floor before log) after first i k
    no_names d =
        answered
        (λ h.
        let l = zero-lendable h in
        let e = judge-found h in
        let q : Searched.differs ≡ true = sym (ap differs-of e) ∙ d in
        elim (dec_le first (pages_in before)) [
          | yes f ↦ let w = names (entries log) before after (ours (lent magic floor before log)) (pages_in before) (each l.accepts) (pages_in before - first) first (omega arith) q in (
            w.page,
            w.slot,
            e ∙ w.is,
            record { lendable = l; from = w.from; within = w.within; before = w.earlier; here = w.wrong; slot = w.named },
          )
          | no f ↦ false-true (sym (ap differs-of (none (omega arith))) ∙ q)
        ])
        (λ e n. false-true (sym (ap differs-of e) ∙ d))
