-- What the verdict on a page area says of its pages, and the search for the first bad page, page by page.
-- Assumes nothing.
use mathlib.Core.Path.{◌≡◌, refl, sym, ap, ◌∙◌}
use mathlib.Core.Logic.{◌⊎◌, inl, inr}
use mathlib.Core.Bool.{Bool, true, false}
use Prim.Native.Nat.{ℕ, zero, suc, ◌+◌, ◌-◌, ◌*◌, ◌%◌, ◌≤◌, ◌<◌}
use native.Mathlib.Decide.{dec_le}
use native.Mathlib.Numerals.{add-one}
use native.Mathlib.Omega.{arith}
use mathlib.Core.List.{List, []}
use lib.ListN.{length, take, drop, get_or, length-drop}
use lib.Seq.{length-take-le, take_all, drop-drop}
use Rattle.std.specs.Simd.{first_chunks}
use lib.Dec.{ltb}
use borrow.Author.Tests.{le-ltb, eq-eqb, ne_eqb, ltb-false, eqb-true}
use Rattle.endian.specs.Pick.{pick}
use Rattle.page.specs.Layout.{page_bytes, page_limit, pages_in, page_at, lsn_of}
use Rattle.page.specs.Good.{Good}
use Rattle.refusals.specs.Verdict.{verdict, accepted, ◌then◌, told_by, told}
use Rattle.refusals.specs.declared.Refused.{Refused}
use Rattle.refusals.proofs.Told.{refused-some, err-some, err-refused, ok-accepted}
use Rattle.refusals.proofs.Then.{then-refused, then-accepted, then-zero}
use Rattle.page.specs.Fault.{fault_of, is_sound, refusal_of, fault_verdict, never_late, page_verdict, first_bad, size_wrong, verdict_from}
use Rattle.std.specs.Prelude.{Option, Some, None, Result, Ok, Err}
use Rattle.page.specs.declared.Fault.{Fault}
use Rattle.page.specs.declared.Fault.TheVariants.{MagicOrType, Id, Checksum, Count, FreeStart, FreeEnd, Slot}
use Rattle.refusals.specs.declared.Verdict.{Verdict}
use Rattle.page.proofs.Picks.{never, cleared}
use Rattle.page.proofs.FaultLaws.{sound-good, good-sound}

-- ---- page i of an area

pub page-length : (s : List ℕ) (i : ℕ) → i < pages_in s → length (page_at i s) ≡ page_bytes
page-length s i h = length-take-le page_bytes (drop (i * page_bytes) s) (simp length-drop (omega arith))

-- `&pages[a..e]`
pub page-part : (s : List ℕ) (i : ℕ) → take (i * 16384 + 16384 - i * 16384) (drop (i * 16384) s) ≡ page_at i s
page-part s i = let e : i * 16384 + 16384 - i * 16384 ≡ 16384 = omega arith in rw e

-- `pages.as_chunks().0[i]`
pub chunk-at : (k i : ℕ) (s : List ℕ) → i < k → get_or (first_chunks page_bytes k s) i [] ≡ page_at i s
chunk-at zero i s l = absurd (omega arith)
chunk-at (suc k) zero s l = refl
chunk-at (suc k) (suc i) s l =
    let e : page_bytes + i * page_bytes ≡ suc i * page_bytes = omega arith in
    chunk-at k i (drop page_bytes s) (omega arith) ∙ ap (take page_bytes) (drop-drop (i * page_bytes) page_bytes s) ∙ ap (λ (n : ℕ). take page_bytes (drop n s)) e

-- the one page of as many bytes as a page has
pub one_page : (s : List ℕ) → length s ≡ page_bytes → page_at 0 s ≡ s
one_page s l = take_all page_bytes s (omega arith)

-- ---- one fault

-- only a sound page is not refused
judge : (f : Option Fault) (i : ℕ) → ((f ≡ None) × (fault_verdict f i ≡ accepted)) ⊎ ((f ≡ None → ⊥) × ((fault_verdict f i).number ≡ 0 → ⊥))
judge None i = inl (refl, refl)
judge (Some MagicOrType) i = inr (λ e. never (ap is_sound e), λ z. omega arith)
judge (Some Id) i = inr (λ e. never (ap is_sound e), λ z. omega arith)
judge (Some Checksum) i = inr (λ e. never (ap is_sound e), λ z. omega arith)
judge (Some Count) i = inr (λ e. never (ap is_sound e), λ z. omega arith)
judge (Some FreeStart) i = inr (λ e. never (ap is_sound e), λ z. omega arith)
judge (Some FreeEnd) i = inr (λ e. never (ap is_sound e), λ z. omega arith)
judge (Some (Slot k)) i = inr (λ e. never (ap is_sound e), λ z. omega arith)

-- ---- one page

module _ (late : ℕ → Bool) (magic i : ℕ) (p : List ℕ) where
  pub page-fine : (page_verdict late magic i p).number ≡ 0 → (fault_of magic i p ≡ None) × (late (lsn_of p) ≡ false)
  unfolding page_verdict
  page-fine e =
      let z = then-zero (fault_verdict (fault_of magic i p) i) _ e in
      elim (judge (fault_of magic i p) i) [
        | inl q ↦ (q.0, by-lsn (late (lsn_of p)) z.1)
        | inr q ↦ absurd (q.1 z.0)
      ]
    where
      by-lsn : (b : Bool) → (pick b (verdict 12 i) accepted).number ≡ 0 → b ≡ false
      by-lsn true h = absurd (omega arith)
      by-lsn false h = refl

  pub fine-page : fault_of magic i p ≡ None → late (lsn_of p) ≡ false → page_verdict late magic i p ≡ accepted
  unfolding page_verdict
  fine-page e l = rw (e, l)

  -- a fault comes first
  first-fault : ((fault_verdict (fault_of magic i p) i).number ≡ 0 → ⊥) → fault_verdict (fault_of magic i p) i ≡ page_verdict late magic i p
  unfolding page_verdict
  first-fault h = sym (then-refused (fault_verdict (fault_of magic i p) i) _ h)

  -- as code goes through the cases
  pub page-fault : (f : Fault) (e : Refused) → fault_of magic i p ≡ Some f → told_by e ≡ refusal_of f i → told_by e ≡ page_verdict late magic i p
  page-fault f e is h =
      let g : told_by e ≡ fault_verdict (fault_of magic i p) i = rw is h in
      g ∙ first-fault (λ z. refused-some e (ap (λ (v : Verdict). v.number) g ∙ z))

  pub page-late : fault_of magic i p ≡ None → late (lsn_of p) ≡ true → verdict 12 i ≡ page_verdict late magic i p
  unfolding page_verdict
  page-late is h = rw (is, h)

-- ---- the search

module _ (late : ℕ → Bool) (magic : ℕ) (s : List ℕ) where
  turn : (n i : ℕ) → i < n → first_bad late magic s (n - i) i ≡ (page_verdict late magic i (page_at i s) then first_bad late magic s (n - (i + 1)) (i + 1))
  unfolding first_bad
  turn n i l = let z : n - i ≡ suc (n - (i + 1)) = omega arith in rw (z, add-one)

  pub bad-next : (n i : ℕ) → i < n → (page_verdict late magic i (page_at i s)).number ≡ 0 → first_bad late magic s (n - i) i ≡ first_bad late magic s (n - (i + 1)) (i + 1)
  bad-next n i l e = turn n i l ∙ then-accepted _ _ e

  pub bad-here : (n i : ℕ) → i < n → ((page_verdict late magic i (page_at i s)).number ≡ 0 → ⊥) → first_bad late magic s (n - i) i ≡ page_verdict late magic i (page_at i s)
  bad-here n i l h = turn n i l ∙ then-refused _ _ h

  -- what a result tells of page i
  module _ {T : Type 0} {r : Result T Refused} (n i : ℕ) (l : i < n) (is : told r ≡ page_verdict late magic i (page_at i s)) where
    pub bad-err : {e : Refused} → r ≡ Err e → told_by e ≡ first_bad late magic s (n - i) i
    bad-err q = err-refused is q ∙ sym (bad-here n i l (err-some is q))

    pub bad-ok : {x : T} → r ≡ Ok x → first_bad late magic s (n - (i + 1)) (i + 1) ≡ first_bad late magic s (n - i) i
    bad-ok q = sym (bad-next n i l (ok-accepted is q))

  pub bad-end : (n i : ℕ) → n ≤ i → first_bad late magic s (n - i) i ≡ accepted
  unfolding first_bad
  bad-end n i l = let z : n - i ≡ 0 = omega arith in rw z

-- ---- the size of an area

module _ (s : List ℕ) where
  pub size-right : length s % page_bytes ≡ 0 → pages_in s ≤ page_limit → size_wrong s ≡ false
  unfolding size_wrong
  size-right m l = simp (eq-eqb _ _ m, le-ltb _ _ l)

  pub right-size : size_wrong s ≡ false → (length s % page_bytes ≡ 0) × (pages_in s ≤ page_limit)
  unfolding size_wrong
  right-size e = let p = cleared _ _ e in (eqb-true _ _ p.0, ltb-false _ _ p.1)

  -- as code tests it
  pub size-rest : (length s % page_bytes ≡ 0 → ⊥) → true ≡ size_wrong s
  unfolding size_wrong
  size-rest h = sym (rw (ne_eqb _ 0 h))

  pub size-many : length s % page_bytes ≡ 0 → ltb page_limit (pages_in s) ≡ size_wrong s
  unfolding size_wrong
  size-many h = sym (rw (eq-eqb _ 0 h))

-- ---- what it finds, from a page on

abbrev pub GoodFrom : ℕ → List ℕ → ℕ → Type 0
GoodFrom magic s first = (i : ℕ) → first ≤ i → i < pages_in s → Good magic i (page_at i s)

-- page i is the first from `first` on that is not good
pub record Bad (magic : ℕ) (s : List ℕ) (first i : ℕ) : Type 0 where
  pub from : first ≤ i
  pub within : i < pages_in s
  pub before : (j : ℕ) → first ≤ j → j < i → Good magic j (page_at j s)
  pub here : Good magic i (page_at i s) → ⊥

abbrev pub number_of : Verdict → ℕ
number_of v = v.number

-- what page i is refused by
abbrev pub refusal : ℕ → List ℕ → ℕ → Verdict
refusal magic s i = fault_verdict (fault_of magic i (page_at i s)) i

-- a verdict of the search: accepted and all good, or the refusal of the first that is not
abbrev pub Found : ℕ → List ℕ → ℕ → Verdict → Type 0
Found magic s first v = ((v ≡ accepted) × GoodFrom magic s first) ⊎ ((i : ℕ) × (v ≡ refusal magic s i) × Bad magic s first i)

found-same : {magic : ℕ} {s : List ℕ} {first : ℕ} {v w : Verdict} → v ≡ w → Found magic s first w → Found magic s first v
found-same e (inl r) = inl (e ∙ r.0, r.1)
found-same e (inr r) = inr (r.0, e ∙ r.1, r.2)

module _ (magic : ℕ) (s : List ℕ) (first : ℕ) where
  -- the n pages from i on, of which those before are good
  found : (n i : ℕ) → n ≡ pages_in s - i → first ≤ i → ((j : ℕ) → first ≤ j → j < i → Good magic j (page_at j s)) → Found magic s first (first_bad never_late magic s n i)
  unfolding first_bad
  found zero i e f b = inl (refl, λ j m l. b j m (omega arith))
  found (suc n) i e f b =
      elim (judge (fault_of magic i (page_at i s)) i) [
        | inl p ↦ found-same (then-accepted _ _ (ap number_of (fine-page never_late magic i (page_at i s) p.0 refl))) (found n (suc i) (omega arith) (omega arith) (upto (sound-good magic i (page_at i s) (page-length s i (omega arith)) p.0)))
        | inr p ↦ inr (i, refused p.1, record { from = f; within = omega arith; before = b; here = λ g. p.0 (good-sound magic i (page_at i s) g) })
      ]
    where
      upto : Good magic i (page_at i s) → (j : ℕ) → first ≤ j → j < suc i → Good magic j (page_at j s)
      upto g j m l = elim (dec_le i j) [ yes k ↦ let z : j ≡ i = omega arith in rw z g | no k ↦ b j m (omega arith) ]

      refused : ((refusal magic s i).number ≡ 0 → ⊥) → (page_verdict never_late magic i (page_at i s) then first_bad never_late magic s n (suc i)) ≡ refusal magic s i
      refused h =
          let e : refusal magic s i ≡ page_verdict never_late magic i (page_at i s) = first-fault never_late magic i (page_at i s) h in
          rw (← e) (then-refused (refusal magic s i) _ h)

  -- refusal 1, or what the search finds
  pub verdict-cases : ((size_wrong s ≡ true) × (verdict_from magic s first ≡ verdict 1 0)) ⊎ ((size_wrong s ≡ false) × Found magic s first (verdict_from magic s first))
  unfolding verdict_from
  verdict-cases = by_size (size_wrong s) (found (pages_in s - first) first refl (omega arith) (λ j m l. absurd (omega arith)))
    where
      by_size : (t : Bool) {v : Verdict} → Found magic s first v → ((t ≡ true) × (pick t (verdict 1 0) v ≡ verdict 1 0)) ⊎ ((t ≡ false) × Found magic s first (pick t (verdict 1 0) v))
      by_size true f = inl (refl, refl)
      by_size false f = inr (refl, f)

  -- as code goes through the cases
  pub case-size : size_wrong s ≡ true → verdict 1 0 ≡ verdict_from magic s first
  unfolding verdict_from
  case-size e = sym (rw e)

  pub case-search : size_wrong s ≡ false → first_bad never_late magic s (pages_in s - first) first ≡ verdict_from magic s first
  unfolding verdict_from
  case-search e = sym (rw e)

  -- a page that is not good is refused
  refused : (i : ℕ) → Bad magic s first i → (refusal magic s i).number ≡ 0 → ⊥
  refused i b e =
      elim (judge (fault_of magic i (page_at i s)) i) [
        | inl p ↦ b.here (sound-good magic i (page_at i s) (page-length s i b.within) p.0)
        | inr p ↦ p.1 e
      ]

  -- accepted exactly if the size is right and all pages are good
  pub accepted-good : (verdict_from magic s first).number ≡ 0 → GoodFrom magic s first
  accepted-good e = elim verdict-cases [ inl p ↦ absurd (omega (arith, ap number_of p.1)) | inr p ↦ good p.1 ]
    where
      good : Found magic s first (verdict_from magic s first) → GoodFrom magic s first
      good (inl r) = r.1
      good (inr r) = absurd (refused r.0 r.2 (sym (ap number_of r.1) ∙ e))

  pub accepted-size : (verdict_from magic s first).number ≡ 0 → (length s % page_bytes ≡ 0) × (pages_in s ≤ page_limit)
  accepted-size e = elim verdict-cases [ inl p ↦ absurd (omega (arith, ap number_of p.1)) | inr p ↦ right-size s p.0 ]

  module _ (m : length s % page_bytes ≡ 0) (l : pages_in s ≤ page_limit) where
    searched : Found magic s first (verdict_from magic s first)
    searched = elim verdict-cases [ inl p ↦ never (sym (size-right s m l) ∙ p.0) | inr p ↦ p.1 ]

    pub good-accepted : GoodFrom magic s first → verdict_from magic s first ≡ accepted
    good-accepted g = elim searched [ inl r ↦ r.0 | inr r ↦ absurd (r.2.here (g r.0 r.2.from r.2.within)) ]

    -- the refusal of the first page that is not good
    pub bad-refused : (i : ℕ) → Bad magic s first i → verdict_from magic s first ≡ refusal magic s i
    bad-refused i b = elim searched [ inl r ↦ absurd (b.here (r.1 i b.from b.within)) | inr r ↦ same r.0 r.1 r.2 ]
      where
        same : (k : ℕ) → verdict_from magic s first ≡ refusal magic s k → Bad magic s first k → verdict_from magic s first ≡ refusal magic s i
        same k e d =
            elim (dec_le k i) [
              | yes p ↦ elim (dec_le i k) [
                | yes q ↦ let z : k ≡ i = omega arith in rw (← z) e
                | no q ↦ absurd (d.here (b.before k d.from (omega arith)))
              ]
              | no p ↦ absurd (b.here (d.before i b.from (omega arith)))
            ]
