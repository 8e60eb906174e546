-- One page: nothing is found exactly when it is right, and else its lowest slot that differs. Assumes nothing.
use Prim.Native.Nat.{ℕ, zero, suc, ◌+◌, ◌≤◌, ◌<◌}
use mathlib.Core.Path.{◌≡◌, refl, sym, ap, ◌∙◌}
use mathlib.Core.Bool.{Bool, true, false}
use mathlib.Core.Logic.{inl, inr}
use mathlib.Core.List.{List}
use native.Mathlib.Decide.{dec_le}
use native.Mathlib.Omega.{arith}
use borrow.Author.Tests.{eq-eqb}
use Rattle.endian.specs.Pick.{pick}
use Rattle.wal.specs.Entry.{Entry}
use Rattle.page.specs.Layout.{magic_of, type_of, id_of, slot_at}
use Rattle.page.proofs.Slots.{slot-past}
use Rattle.rules.specs.Shape.{same}
use Rattle.rules.specs.Mend.{committed, top_of, decided}
use Rattle.rules.proofs.Slots.{decided-untouched}
use Rattle.rules.proofs.Tests.{false-true}
use Rattle.audit.specs.declared.Finding.{Finding}
use Rattle.audit.specs.Judge.{alike, apart, slot_agrees, head_agrees, slots_in, slots_from, page_finding}
use Rattle.audit.specs.Right.{SameHead, PageRight, SlotNamed}
use Rattle.change.proofs.Shapes.{same_refl, same_true}
use Rattle.audit.proofs.Slotwise.{page-same, page-other, page-head, page-slots}
use Rattle.audit.proofs.Telling.{head-same}

abbrev pub differs-of : Finding → Bool
differs-of f = f.differs

-- ---- slots by a test

module _ (agrees : ℕ → Bool) (i : ℕ) where
  slots-all : (n k : ℕ) → (slots_from agrees i n k).differs ≡ false → (j : ℕ) → k ≤ j → j < k + n → agrees j ≡ true
  unfolding slots_from
  slots-all zero k h j a b = absurd (omega arith)
  slots-all (suc n) k h j a b = go (agrees k) refl h (λ e x y. slots-all n (suc k) e j x y)
    where
      go : (t : Bool) → agrees k ≡ t → (pick t (slots_from agrees i n (suc k)) (apart i k)).differs ≡ false
          → ((slots_from agrees i n (suc k)).differs ≡ false → suc k ≤ j → j < suc k + n → agrees j ≡ true) → agrees j ≡ true
      go true e w f = elim (dec_le (suc k) j) [ yes l ↦ f w l (omega arith) | no l ↦ let z : j ≡ k = omega arith in rw z e ]
      go false e w f = false-true (sym w)

  all_slots : (n k : ℕ) → ((j : ℕ) → k ≤ j → j < k + n → agrees j ≡ true) → slots_from agrees i n k ≡ alike
  unfolding slots_from
  all_slots zero k h = refl
  all_slots (suc n) k h = rw (h k (omega arith) (omega arith)) (all_slots n (suc k) (λ j a b. h j (omega arith) (omega arith)))

  -- the lowest from k on that does not agree
  record Lowest (k : ℕ) (f : Finding) : Type 0 where
    at : ℕ
    is : f ≡ apart i at
    from : k ≤ at
    here : agrees at ≡ false
    before : (j : ℕ) → k ≤ j → j < at → agrees j ≡ true

  slots-first : (n k : ℕ) → (slots_from agrees i n k).differs ≡ true → Lowest k (slots_from agrees i n k)
  unfolding slots_from
  slots-first zero k h = false-true h
  slots-first (suc n) k h = go (agrees k) refl h (slots-first n (suc k))
    where
      go : (t : Bool) → agrees k ≡ t → (pick t (slots_from agrees i n (suc k)) (apart i k)).differs ≡ true
          → ((slots_from agrees i n (suc k)).differs ≡ true → Lowest (suc k) (slots_from agrees i n (suc k))) → Lowest k (pick t (slots_from agrees i n (suc k)) (apart i k))
      go true e w f =
          let l = f w in
          record {
            at = l.at;
            is = l.is;
            from = omega (arith, l.from);
            here = l.here;
            before = λ j a b. elim (dec_le (suc k) j) [ yes x ↦ l.before j x b | no x ↦ let z : j ≡ k = omega arith in rw z e ];
          }
      go false e w f = record { at = k; is = refl; from = omega arith; here = e; before = λ j a b. absurd (omega arith) }

-- ---- a page

same_of : {a b : List ℕ} → a ≡ b → same a b ≡ true
same_of {a} e = ap (same a) (sym e) ∙ same_refl a

head_of : (p q : List ℕ) → SameHead p q → head_agrees p q ≡ true
unfolding head_agrees
head_of p q h =
    rw (eq-eqb (magic_of p) (magic_of q) h.magic, eq-eqb (type_of p) (type_of q) h.type, eq-eqb (id_of p) (id_of q) h.id) (same_of h.reserved)

module _ (es : List Entry) (i : ℕ) (p r q : List ℕ) (our : (k : ℕ) → slot_at r k ≡ decided (committed es) es i k (slot_at p k)) where
  agree_same : (k : ℕ) → slot_agrees es i p q k ≡ true → slot_at r k ≡ slot_at q k
  unfolding slot_agrees
  agree_same k h = our k ∙ same_true _ _ h

  same-agree : (k : ℕ) → slot_at r k ≡ slot_at q k → slot_agrees es i p q k ≡ true
  unfolding slot_agrees
  same-agree k e = same_of (sym (our k) ∙ e)

  past : (k : ℕ) → slots_in es i p q ≤ k → slot_at r k ≡ slot_at q k
  past k l = our k ∙ decided-untouched i (committed es) es k (slot_at p k) (omega arith) ∙ slot-past p k (omega arith) ∙ sym (slot-past q k (omega arith))

  module _ (h : (page_finding es i p q).differs ≡ false) where
    bytes-right : top_of i es ≡ 0 → p ≡ q
    bytes-right z = same_true p q (go (same p q) refl)
      where
        go : (b : Bool) → same p q ≡ b → b ≡ true
        go true e = refl
        go false e = false-true (sym h ∙ sym (ap differs-of (page-other es i p q z e)))

    head-right : 0 < top_of i es → head_agrees p q ≡ true
    head-right t = go (head_agrees p q) refl
      where
        go : (b : Bool) → head_agrees p q ≡ b → b ≡ true
        go true e = refl
        go false e = false-true (sym h ∙ sym (ap differs-of (page-head es i p q t e)))

    pub page-right : PageRight es i p r q
    page-right =
        record {
          untouched = bytes-right;
          head = λ t. head-same p q (head-right t);
          slots = λ t k.
              elim (dec_le (suc k) (slots_in es i p q)) [
                | yes l ↦ agree_same k (slots-all (slot_agrees es i p q) i (slots_in es i p q) 0 (ap differs-of (page-slots es i p q t (head-right t)) ∙ h) k (omega arith) (omega arith))
                | no l ↦ past k (omega arith)
              ];
        }

  pub right-page : PageRight es i p r q → page_finding es i p q ≡ alike
  right-page h =
      elim (dec_le 1 (top_of i es)) [
        | yes t ↦ sym (page-slots es i p q t (head_of p q (h.head t))) ∙ all_slots (slot_agrees es i p q) i (slots_in es i p q) 0 (λ j a b. same-agree j (h.slots t j))
        | no t ↦ let z : top_of i es ≡ 0 = omega arith in sym (page-same es i p q z (same_of (h.untouched z)))
      ]

  pub page-names : (page_finding es i p q).differs ≡ true → (k : ℕ) × (page_finding es i p q ≡ apart i k) × SlotNamed es i p r q k
  page-names h = elim (dec_le 1 (top_of i es)) [ yes t ↦ touched t (head_agrees p q) refl | no t ↦ let z : top_of i es ≡ 0 = omega arith in untouched z (same p q) refl ]
    where
      untouched : top_of i es ≡ 0 → (b : Bool) → same p q ≡ b → (k : ℕ) × (page_finding es i p q ≡ apart i k) × SlotNamed es i p r q k
      untouched z true e = false-true (ap differs-of (page-same es i p q z e) ∙ h)
      untouched z false e = (0, sym (page-other es i p q z e), record { before = λ j l. absurd (omega arith); here = inl (refl, z, λ w. false-true (sym e ∙ same_of w)) })

      touched : 0 < top_of i es → (b : Bool) → head_agrees p q ≡ b → (k : ℕ) × (page_finding es i p q ≡ apart i k) × SlotNamed es i p r q k
      touched t true e =
          let s = page-slots es i p q t e in
          let l = slots-first (slot_agrees es i p q) i (slots_in es i p q) 0 (ap differs-of s ∙ h) in (
            l.at,
            sym s ∙ l.is,
            record { before = λ j b. agree_same j (l.before j (omega arith) b); here = inr (inr (t, head-same p q e, λ w. false-true (sym l.here ∙ same-agree l.at w))) },
          )
      touched t false e = (0, sym (page-head es i p q t e), record { before = λ j l. absurd (omega arith); here = inr (inl (refl, t, λ w. false-true (sym e ∙ head_of p q w))) })
