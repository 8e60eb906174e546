-- Recovery accepts exactly if the log is accepted, every touched page is lent, and each page is accepted.
-- Assumes nothing.
use mathlib.Core.Path.{◌≡◌, refl}
use mathlib.Core.Bool.{Bool, true, false, not}
use Prim.Native.Nat.{ℕ, zero, suc, ◌+◌, ◌≤◌, ◌<◌, max}
use native.Mathlib.Omega.{arith}
use native.Mathlib.Decide.{dec_le}
use mathlib.Core.List.{List, [], ◌∷◌}
use lib.Dec.{leb, eqb}
use borrow.Author.Tests.{not-false, ltb-false, leb-false, eqb-true, lt-ltb, le-ltb, lt-leb, eq-eqb}
use Rattle.endian.specs.Pick.{pick}
use Rattle.wal.specs.Entry.{Entry, size_of}
use Rattle.wal.specs.Read.{header_fault, first}
use Rattle.wal.specs.Walk.{entries, end_of, ending_of}
use Rattle.wal.specs.declared.Reading.TheVariants.{Damage}
use Rattle.page.specs.Layout.{body_bytes, data_type, pages_in, page_at, type_of, lsn_of}
use Rattle.page.specs.Packed.{room_for}
use Rattle.refusals.specs.Verdict.{verdict, accepted}
use Rattle.page.specs.Fault.{fault_of, late_at, page_verdict, first_bad, size_wrong}
use Rattle.refusals.specs.declared.Verdict.{Verdict}
use Rattle.std.specs.Prelude.{None}
use Rattle.page.proofs.Verdicts.{page-fine, fine-page}
use Rattle.refusals.proofs.Then.{then-zero, zero-then}
use Rattle.rules.specs.Shape.{both, either, is_change, page_of, slot_of, is_on, top_on}
use Rattle.rules.specs.Order.{last_lsn, order_from, end_verdict, log_verdict}
use Rattle.rules.specs.Mend.{committed, top_of, slots_for}
use Rattle.rules.specs.Recover.{pages_from, is_stray, stray_from, is_tight, tight_from, recover_verdict}
use Rattle.rules.proofs.Tests.{either-false}
use Rattle.rules.proofs.OrderLaws.{Every}
use Rattle.rules.specs.Lent.{lent}

-- a test that refuses did not hold
unrefused : (b : Bool) (v w : Verdict) → (v.number ≡ 0 → ⊥) → (pick b v w).number ≡ 0 → (b ≡ false) × (w.number ≡ 0)
unrefused true v w n h = absurd (n h)
unrefused false v w n h = (refl, h)

-- ---- the log

-- an accepted one does not end in damage
pub log-undamaged : (full : ℕ → Bool) (s : List ℕ) → (log_verdict full s).number ≡ 0 → ending_of s ≡ Damage → ⊥
unfolding log_verdict
log-undamaged full s h d =
    let a = then-zero (verdict (header_fault s) 0) _ h in
    let b = then-zero (order_from full [] (entries s) first) (end_verdict (ending_of s) (end_of s)) a.1 in
    let n : (end_verdict (ending_of s) (end_of s)).number ≡ 4 = rw d in
    omega (arith, b.1)

-- ---- pages

-- page i has no fault and passes 12
pub record Sane (magic floor last : ℕ) (s : List ℕ) (i : ℕ) : Type 0 where
  pub sound : fault_of magic i (page_at i s) ≡ None
  pub lsn_known : lsn_of (page_at i s) ≤ max floor last

module _ (magic floor last : ℕ) (s : List ℕ) where
  pub pages-sane : (n i : ℕ) → (pages_from magic floor last s n i).number ≡ 0 → (j : ℕ) → i ≤ j → j < i + n → Sane magic floor last s j
  unfolding first_bad
  pages-sane zero i h j a b = absurd (omega arith)
  pages-sane (suc n) i h j a b =
      let y = then-zero (page_verdict (late_at (max floor last)) magic i (page_at i s)) _ h in
      let z = page-fine (late_at (max floor last)) magic i (page_at i s) y.0 in
      let here : Sane magic floor last s i = record { sound = z.0; lsn_known = ltb-false _ _ z.1 } in
      elim (dec_le (suc i) j) [
        | yes l ↦ pages-sane n (suc i) y.1 j l (omega arith)
        | no l ↦ let e : j ≡ i = omega arith in rw e here
      ]

  sane-pages : (n i : ℕ) → ((j : ℕ) → i ≤ j → j < i + n → Sane magic floor last s j) → (pages_from magic floor last s n i).number ≡ 0
  unfolding first_bad
  sane-pages zero i h = refl
  sane-pages (suc n) i h =
      let x = h i (omega arith) (omega arith) in
      rw (fine-page (late_at (max floor last)) magic i (page_at i s) x.sound (le-ltb _ _ x.lsn_known)) (sane-pages n (suc i) (λ j a b. h j (omega arith) (omega arith)))

-- ---- changes

pub stray-none : (s : List ℕ) (es : List Entry) (at : ℕ) → (stray_from s es at).number ≡ 0 → Every (λ e. is_stray s e ≡ false) es
unfolding stray_from
stray-none s [] at h = tt
stray-none s (e ∷ es) at h =
    let y = unrefused (is_stray s e) (verdict 13 at) _ (λ k. omega arith) h in
    (y.0, stray-none s es (at + size_of e) y.1)

pub none-stray : (s : List ℕ) (es : List Entry) (at : ℕ) → Every (λ e. is_stray s e ≡ false) es → (stray_from s es at).number ≡ 0
unfolding stray_from
none-stray s [] at h = refl
none-stray s (e ∷ es) at h = rw h.0 (none-stray s es (at + size_of e) h.1)

-- a touched page is lent, and a Data page
pub record OnData (s : List ℕ) (i : ℕ) : Type 0 where
  pub within : i < pages_in s
  pub is_data : type_of (page_at i s) ≡ data_type

lent_one : (s : List ℕ) (i : ℕ) (e : Entry) → is_stray s e ≡ false → 0 < top_on i e → OnData s i
unfolding is_stray top_on is_on
lent_one s i e = go (is_change e) (eqb (page_of e) i) refl
  where
    at : (eqb (page_of e) i ≡ true) → either (leb (pages_in s) (page_of e)) (not (eqb (type_of (page_at (page_of e) s)) data_type)) ≡ false → OnData s i
    at q h =
        let z : page_of e ≡ i = eqb-true _ _ q in
        let r = either-false (leb (pages_in s) (page_of e)) _ h in
        rw (← z) (record { within = leb-false _ _ r.0; is_data = eqb-true _ _ (not-false _ r.1) })

    go : (a b : Bool) → eqb (page_of e) i ≡ b
        → both a (either (leb (pages_in s) (page_of e)) (not (eqb (type_of (page_at (page_of e) s)) data_type))) ≡ false
        → 0 < pick (both a b) (suc (slot_of e)) 0 → OnData s i
    go true true q h t = at q h
    go true false q h t = absurd (omega arith)
    go false b q h t = absurd (omega arith)

pub lent-all : (s : List ℕ) (i : ℕ) (es : List Entry) → Every (λ e. is_stray s e ≡ false) es → 0 < top_of i es → OnData s i
unfolding top_of
lent-all s i [] h t = absurd (omega arith)
lent-all s i (e ∷ es) h t =
    elim (dec_le 1 (top_on i e)) [
      | yes l ↦ lent_one s i e h.0 l
      | no l ↦ lent-all s i es h.1 (omega arith)
    ]

-- the other way
one_lent : (s : List ℕ) (e : Entry) → ((i : ℕ) → 0 < top_on i e → OnData s i) → is_stray s e ≡ false
unfolding is_stray top_on is_on
one_lent s e h = go (is_change e) refl
  where
    go : (a : Bool) → is_change e ≡ a → both a (either (leb (pages_in s) (page_of e)) (not (eqb (type_of (page_at (page_of e) s)) data_type))) ≡ false
    go true q =
        let t : 0 < pick (both (is_change e) (eqb (page_of e) (page_of e))) (suc (slot_of e)) 0 = rw (q, eq-eqb (page_of e) (page_of e) refl) (omega arith) in
        let l = h (page_of e) t in
        rw (lt-leb _ _ l.within, eq-eqb _ _ l.is_data)
    go false q = refl

pub all-lent : (s : List ℕ) (es : List Entry) → ((i : ℕ) → 0 < top_of i es → OnData s i) → Every (λ e. is_stray s e ≡ false) es
unfolding top_of
all-lent s [] h = tt
all-lent s (e ∷ es) h = (one_lent s e (λ i t. h i (omega arith)), all-lent s es (λ i t. h i (omega arith)))

-- ---- room

module _ (es : List Entry) (s : List ℕ) where
  abbrev pub Roomy : ℕ → Type 0
  Roomy i = 0 < top_of i es → room_for (slots_for (committed es) es i (page_at i s)) ≤ body_bytes

  roomy : (i : ℕ) → is_tight es s i ≡ false → Roomy i
  unfolding is_tight
  roomy i h t = ltb-false _ _ (rw (lt-ltb _ _ t) at h)

  not-tight : (i : ℕ) → Roomy i → is_tight es s i ≡ false
  unfolding is_tight
  not-tight i h =
      elim (dec_le 1 (top_of i es)) [
        | yes t ↦ rw (lt-ltb 0 (top_of i es) t) (le-ltb _ _ (h t))
        | no t ↦ rw (le-ltb 0 (top_of i es) (omega arith))
      ]

  tight-none : (n i : ℕ) → (tight_from es s n i).number ≡ 0 → (j : ℕ) → i ≤ j → j < i + n → Roomy j
  unfolding tight_from
  tight-none zero i h j a b = absurd (omega arith)
  tight-none (suc n) i h j a b =
      let y = unrefused (is_tight es s i) (verdict 14 i) _ (λ k. omega arith) h in
      let here : Roomy i = roomy i y.0 in
      elim (dec_le (suc i) j) [
        | yes l ↦ tight-none n (suc i) y.1 j l (omega arith)
        | no l ↦ let e : j ≡ i = omega arith in rw e here
      ]

  none-tight : (n i : ℕ) → ((j : ℕ) → i ≤ j → j < i + n → Roomy j) → (tight_from es s n i).number ≡ 0
  unfolding tight_from
  none-tight zero i h = refl
  none-tight (suc n) i h = rw (not-tight i (h i (omega arith) (omega arith))) (none-tight n (suc i) (λ j a b. h j (omega arith) (omega arith)))

-- ---- all of it

pub record Accepted (full : ℕ → Bool) (magic floor : ℕ) (pages log : List ℕ) : Type 0 where
  pub size : size_wrong pages ≡ false
  pub log_ok : (log_verdict full log).number ≡ 0
  pub sane : (i : ℕ) → i < pages_in pages → Sane magic floor (last_lsn (entries log)) pages i
  pub on_data : (i : ℕ) → 0 < top_of i (entries log) → OnData pages i
  pub roomy : (i : ℕ) → i < pages_in pages → Roomy (entries log) pages i

module _ (full : ℕ → Bool) (magic floor : ℕ) (pages log : List ℕ) where
  pub is-accepted : (recover_verdict full (lent magic floor pages log)).number ≡ 0 → Accepted full magic floor pages log
  unfolding recover_verdict
  is-accepted h =
      let a = then-zero (pick (size_wrong pages) (verdict 1 0) accepted) _ h in
      let z = unrefused (size_wrong pages) (verdict 1 0) accepted (λ k. omega arith) a.0 in
      let b = then-zero (log_verdict full log) _ a.1 in
      let c = then-zero (pages_from magic floor (last_lsn (entries log)) pages (pages_in pages) 0) _ b.1 in
      let d = then-zero (stray_from pages (entries log) first) (tight_from (entries log) pages (pages_in pages) 0) c.1 in
      record {
        size = z.0;
        log_ok = b.0;
        sane = λ i l. pages-sane magic floor (last_lsn (entries log)) pages (pages_in pages) 0 c.0 i (omega arith) (omega arith);
        on_data = λ i t. lent-all pages i (entries log) (stray-none pages (entries log) first d.0) t;
        roomy = λ i l. tight-none (entries log) pages (pages_in pages) 0 d.1 i (omega arith) (omega arith);
      }

  pub accepted-is : Accepted full magic floor pages log → (recover_verdict full (lent magic floor pages log)).number ≡ 0
  unfolding recover_verdict
  accepted-is a =
      zero-then (pick (size_wrong pages) (verdict 1 0) accepted) _ (rw a.size)
      (zero-then (log_verdict full log) _ a.log_ok
      (zero-then (pages_from magic floor (last_lsn (entries log)) pages (pages_in pages) 0) _
      (sane-pages magic floor (last_lsn (entries log)) pages (pages_in pages) 0 (λ j l k. a.sane j (omega arith)))
      (zero-then (stray_from pages (entries log) first) (tight_from (entries log) pages (pages_in pages) 0)
      (none-stray pages (entries log) first (all-lent pages (entries log) a.on_data))
      (none-tight (entries log) pages (pages_in pages) 0 (λ j l k. a.roomy j (omega arith))))))
