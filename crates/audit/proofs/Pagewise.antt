-- Page by page: the first refusal of the pages after, and the lowest page that differs. Assumes nothing.
use Prim.Native.Nat.{ℕ, zero, suc, ◌+◌, ◌-◌, ◌≤◌, ◌<◌, max}
use mathlib.Core.Path.{◌≡◌, refl, sym, ap, ◌∙◌, subst}
use mathlib.Core.Bool.{Bool, true, false}
use mathlib.Core.List.{List}
use native.Mathlib.Decide.{dec_le}
use native.Mathlib.Numerals.{add-one}
use native.Mathlib.Omega.{arith}
use lib.ListN.{length}
use lib.Dec.{ltb}
use borrow.Author.Tests.{eq-eqb, ne_eqb, lt-ltb, le-ltb}
use Rattle.endian.specs.Pick.{pick}
use Rattle.wal.specs.Entry.{Entry}
use Rattle.wal.specs.Walk.{entries}
use Rattle.page.specs.Layout.{pages_in, page_at}
use Rattle.page.specs.Fault.{fault_of, never_late, page_verdict, first_bad}
use Rattle.std.specs.Prelude.{None}
use Rattle.page.proofs.Verdicts.{number_of, page-fine, fine-page, bad-next, bad-here, bad-end}
use Rattle.refusals.specs.Refusal.{page_areas_differ}
use Rattle.refusals.specs.Verdict.{verdict, accepted, ◌then◌}
use Rattle.refusals.specs.declared.Verdict.{Verdict}
use Rattle.refusals.proofs.Then.{then-refused, then-accepted}
use Rattle.rules.specs.Lent.{lent}
use Rattle.rules.specs.Order.{never_full}
use Rattle.rules.specs.Shape.{same}
use Rattle.rules.specs.Recover.{is_touched, recover_verdict}
use Rattle.rules.proofs.Tests.{false-true}
use Rattle.rules.proofs.Verdicts.{is-accepted}
use Rattle.audit.specs.declared.Finding.{Finding}
use Rattle.audit.specs.Judge.{length_verdict, judge_verdict, alike, apart, refused_by, found_by, slot_agrees, slots_in, head_agrees, slots_from, page_finding, or_else, finding_from, judge_from}
use Rattle.audit.specs.Known.{Faultless, compared_from}

-- ---- what says that nothing differs says nothing else

abbrev pub Plain : Finding → Type 0
Plain f = f.differs ≡ false → f ≡ alike

slots-plain : (agrees : ℕ → Bool) (i n k : ℕ) → Plain (slots_from agrees i n k)
unfolding slots_from
slots-plain agrees i zero k = λ _. refl
slots-plain agrees i (suc n) k = go (agrees k) (slots-plain agrees i n (suc k))
  where
    go : (b : Bool) → Plain (slots_from agrees i n (suc k)) → Plain (pick b (slots_from agrees i n (suc k)) (apart i k))
    go true h = h
    go false h = λ e. false-true (sym e)

pub page-plain : (es : List Entry) (i : ℕ) (p q : List ℕ) → Plain (page_finding es i p q)
unfolding page_finding
page-plain es i p q = go (is_touched es i) (head_agrees p q) (same_or (same p q))
  where
    go : (a b : Bool) {f : Finding} → Plain f → Plain (pick a (pick b (slots_from (slot_agrees es i p q) i (slots_in es i p q) 0) (apart i 0)) f)
    go true true h = slots-plain (slot_agrees es i p q) i (slots_in es i p q) 0
    go true false h = λ e. false-true (sym e)
    go false b h = h

    same_or : (b : Bool) → Plain (pick b alike (apart i 0))
    same_or true = λ _. refl
    same_or false = λ e. false-true (sym e)

-- ---- a difference, else a later one

pub else-true : (f g : Finding) → f.differs ≡ true → or_else f g ≡ f
else-true f g e = ap (λ (b : Bool). pick b f g) e

pub else-false : (f g : Finding) → f.differs ≡ false → or_else f g ≡ g
else-false f g e = ap (λ (b : Bool). pick b f g) e

pub later : (first i : ℕ) (f g : Finding) → first ≤ i → pick (ltb i first) f (or_else f g) ≡ or_else f g
later first i f g h = rw (le-ltb i first h)

else-later : (f g h : Finding) → or_else f (or_else g h) ≡ or_else (or_else f g) h
else-later f g h = go f.differs refl
  where
    go : (b : Bool) → f.differs ≡ b → or_else f (or_else g h) ≡ or_else (or_else f g) h
    go true e = else-true f (or_else g h) e ∙ sym (else-true f h e) ∙ sym (ap (λ (x : Finding). or_else x h) (else-true f g e))
    go false e = else-false f (or_else g h) e ∙ sym (ap (λ (x : Finding). or_else x h) (else-false f g e))

plain-else : (f g : Finding) → Plain f → Plain g → Plain (or_else f g)
plain-else f g a b = go f.differs refl
  where
    go : (x : Bool) → f.differs ≡ x → Plain (or_else f g)
    go true e = subst Plain (sym (else-true f g e)) a
    go false e = subst Plain (sym (else-false f g e)) b

-- one page more
findings-next : (es : List Entry) (before after : List ℕ) (n i : ℕ) → i < n
    → finding_from es before after (n - i) i ≡ or_else (page_finding es i (page_at i before) (page_at i after)) (finding_from es before after (n - (i + 1)) (i + 1))
unfolding finding_from
findings-next es before after n i l = let z : n - i ≡ suc (n - (i + 1)) = omega arith in rw (z, add-one i)

module _ (es : List Entry) (before after : List ℕ) where
  -- what is still to come once the pages before i were looked at, of which those from `first` on count
  unfoldable pub rest : ℕ → ℕ → ℕ → Finding
  rest n first i = finding_from es before after (n - max i first) (max i first)

  -- f is what was found of the pages before i
  pub record Found (n first i : ℕ) (f : Finding) : Type 0 where
    pub plain : Plain f
    pub is : or_else f (rest n first i) ≡ finding_from es before after (n - first) first

  pub found_none : (n first : ℕ) → Found n first 0 alike
  unfolding rest
  found_none n first = record { plain = λ _. refl; is = let z : max 0 first ≡ first = omega arith in rw z }

  module _ {n first i : ℕ} {f : Finding} (h : Found n first i f) where
    pub found-next : i < n → {g r : Finding} → g ≡ page_finding es i (page_at i before) (page_at i after) → r ≡ pick (ltb i first) f (or_else f g) → Found n first (i + 1) r
    unfolding rest
    found-next l {g} {r} e q =
        elim (dec_le first i) [
          | yes k ↦ let a : r ≡ or_else f g = q ∙ rw (le-ltb i first k) in
              let x : max i first ≡ i = omega arith in
              let y : max (i + 1) first ≡ i + 1 = omega arith in
              record {
                plain = rw (a, e) (plain-else f (page_finding es i (page_at i before) (page_at i after)) h.plain (page-plain es i (page_at i before) (page_at i after)));
                is = rw (a, y) (sym (else-later f g (finding_from es before after (n - (i + 1)) (i + 1)))
                    ∙ ap (λ (w : Finding). or_else f (or_else w (finding_from es before after (n - (i + 1)) (i + 1)))) e
                    ∙ ap (or_else f) (sym (findings-next es before after n i l)) ∙ (rw x at h.is));
              }
          | no k ↦ let a : r ≡ f = q ∙ rw (lt-ltb i first (omega arith)) in
              let x : max i first ≡ first = omega arith in
              let y : max (i + 1) first ≡ first = omega arith in
              record { plain = rw a h.plain; is = rw (a, y) (rw x at h.is) }
        ]

    pub found_all : n ≤ i → f ≡ finding_from es before after (n - first) first
    unfolding rest finding_from
    found_all l = let z : n - max i first ≡ 0 = omega arith in last f.differs refl ∙ (rw z at h.is)
      where
        last : (b : Bool) → f.differs ≡ b → f ≡ or_else f alike
        last true e = sym (else-true f alike e)
        last false e = h.plain e ∙ sym (else-false f alike e)

-- ---- the pages after

module _ (magic : ℕ) (s : List ℕ) where
  pub after_next : (n i : ℕ) → i < n → fault_of magic i (page_at i s) ≡ None → first_bad never_late magic s (n - i) i ≡ first_bad never_late magic s (n - (i + 1)) (i + 1)
  after_next n i l e = bad-next never_late magic s n i l (ap number_of (fine-page never_late magic i (page_at i s) e refl))

  pub after-end : (n i : ℕ) → n ≤ i → first_bad never_late magic s (n - i) i ≡ accepted
  after-end n i l = bad-end never_late magic s n i l

  pub after-start : (before : List ℕ) → length before ≡ length s → first_bad never_late magic s (pages_in s) 0 ≡ first_bad never_late magic s (pages_in before - 0) 0
  after-start before e = let z : pages_in before - 0 ≡ pages_in s = omega arith in rw z

  -- a page with a fault is refused
  pub after-bad : (n i : ℕ) → i < n → (fault_of magic i (page_at i s) ≡ None → ⊥) → (first_bad never_late magic s (n - i) i).number ≡ 0 → ⊥
  after-bad n i l h z =
      let x : (page_verdict never_late magic i (page_at i s)).number ≡ 0 → ⊥ = λ q. h (page-fine never_late magic i (page_at i s) q).0 in
      x (sym (ap number_of (bad-here never_late magic s n i l x)) ∙ z)

-- ---- verdicts, as code goes through them

pub found-refused : (v : Verdict) (f : Finding) → (v.number ≡ 0 → ⊥) → refused_by v ≡ found_by v f
found-refused v f h = sym (rw (ne_eqb v.number 0 h))

pub found-accepted : (v : Verdict) (f : Finding) → v.number ≡ 0 → f ≡ found_by v f
found-accepted v f h = sym (rw (eq-eqb v.number 0 h))

module _ (magic : ℕ) (es : List Entry) (before after : List ℕ) (first : ℕ) where
  pub compared-refused : (v : Verdict) → first_bad never_late magic after (pages_in after) 0 ≡ v → (v.number ≡ 0 → ⊥) → refused_by v ≡ compared_from magic es before after first
  unfolding compared_from
  compared-refused v e h = rw e (found-refused v _ h)

  pub compared-found : {f : Finding} → first_bad never_late magic after (pages_in after) 0 ≡ accepted → f ≡ finding_from es before after (pages_in before - first) first → f ≡ compared_from magic es before after first
  unfolding compared_from
  compared-found e q = rw e q

module _ (magic floor : ℕ) (before log after : List ℕ) (first : ℕ) where
  pub judge-refused : (v : Verdict) → v ≡ recover_verdict never_full (lent magic floor before log) → (v.number ≡ 0 → ⊥) → refused_by v ≡ judge_from (lent magic floor before log) after first
  unfolding judge_from judge_verdict
  judge-refused v e h = sym (rw (← e, then-refused v (length_verdict before after then first_bad never_late magic after (pages_in after) 0) h) (sym (found-refused v _ h)))

  module _ (ok : (recover_verdict never_full (lent magic floor before log)).number ≡ 0) where
    pub judge-lengths : (length before ≡ length after → ⊥) → refused_by (verdict page_areas_differ 0) ≡ judge_from (lent magic floor before log) after first
    unfolding judge_from judge_verdict length_verdict
    judge-lengths n = sym (rw (then-accepted (recover_verdict never_full (lent magic floor before log)) _ ok, ne_eqb (length before) (length after) n))

    pub judge-compared : length before ≡ length after → compared_from magic (entries log) before after first ≡ judge_from (lent magic floor before log) after first
    unfolding judge_from judge_verdict length_verdict compared_from
    judge-compared e = sym (rw (then-accepted (recover_verdict never_full (lent magic floor before log)) _ ok, eq-eqb (length before) (length after) e))

    pub faultless : Faultless magic before
    faultless = record { at = λ i l. ((is-accepted never_full magic floor before log ok).sane i l).sound }
