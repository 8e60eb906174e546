-- A number at a place of a file: its last group, its value, whether it reads, and what a rule says of it.
-- Assumes nothing.
use mathlib.Core.Path.{◌≡◌, refl, sym, ap, ◌∙◌}
use mathlib.Core.Logic.{◌⊎◌, inl, inr}
use mathlib.Core.Bool.{Bool, true, false, cond}
use Prim.Native.Nat.{ℕ, zero, suc, ◌+◌, ◌*◌, ◌-◌, ◌%◌, ◌^◌, ◌≤◌, ◌<◌}
use native.Mathlib.Decide.{dec_le}
use native.Mathlib.Numerals.{add-one}
use native.Mathlib.Omega.{arith}
use mathlib.Core.List.{List, [], ◌∷◌}
use lib.ListN.{length, take, drop, get_or, length-drop}
use lib.Seq.{take_all, drop-cons, get_or-drop}
use lib.Dec.{ltb, leb, eqb}
use borrow.Author.Tests.{lt-ltb, le-ltb, le-leb, lt-leb, ne_eqb, eqb-true, leb-false}
use Rattle.endian.specs.Pick.{pick}
use Rattle.endian.specs.Numbers.{part, Bytes}
use Rattle.endian.proofs.Bytes.{bytes_drop}
use Rattle.endian.proofs.Places.{drop-part}
use Rattle.std.specs.Prelude.{Option, Some, None, Ok, Err}
use Rattle.std.specs.Option.{option_map}
use Rattle.std.specs.List.{position_or_len, slice_range}
use Rattle.std.proofs.lemmas.List.Recursion.{is_position_or_len}
use Rattle.refusals.specs.Refusal.{number_of}
use Rattle.refusals.specs.Verdict.{verdict, accepted, told_by}
use Rattle.refusals.specs.declared.Refused.{Refused}
use Rattle.refusals.specs.declared.Verdict.{Verdict}
use Rattle.summary.specs.Number.{continued, spelling, value_of, value_at, after_at, ends_early, misspelt, refusal_at, any_number}
use Rattle.summary.specs.Summary.{number_verdict}
use Rattle.summary.specs.declared.Number.{Number}
use Rattle.summary.specs.Inner.{end_of, Ends, number_at}
use Rattle.refusals.proofs.Told.{refused-at}
use Rattle.summary.proofs.Answered.{answered-ok, answered-err}
use Rattle.summary.proofs.Spelling.{top_of, Whole, last-here, goes_on, length-spelling, spelt-one, spelt-zero, spelt-nine, spelt-over, spelt-ten, well-spelt}

-- ---- the search for the last group

leb-suc : (a b : ℕ) → leb (suc a) (suc b) ≡ leb a b
leb-suc a b =
    elim (dec_le a b) [
      | yes l ↦ rw (le-leb a b l) (le-leb (suc a) (suc b) (omega arith))
      | no l ↦ rw (lt-leb a b (omega arith)) (lt-leb (suc a) (suc b) (omega arith))
    ]

-- where the first byte without the high bit stands
abbrev pub first-small : List ℕ → Option ℕ
first-small t = cond (ltb (position_or_len (λ b. ltb b 128) t) (length t)) (Some (position_or_len (λ b. ltb b 128) t)) None

small-continued : (t : List ℕ) → continued t ≡ position_or_len (λ b. ltb b 128) t
unfolding continued
small-continued t = is_position_or_len continued (λ b. ltb b 128) refl (λ b u. by-test (ltb b 128) (continued u)) t
  where
    by-test : (c : Bool) (n : ℕ) → pick c zero (suc n) ≡ cond c 0 (1 + n)
    by-test true n = refl
    by-test false n = omega arith

module _ (f : List ℕ) (p : ℕ) where
  pub end-here : p < length f → get_or f p 0 < 128 → end_of f p ≡ Some p
  unfolding ends_early
  end-here l h =
      let c : continued (drop p f) ≡ 0 = rw (drop-cons f p 0) (last-here (get_or f p 0) (drop (suc p) f) h) in
      let z : p + 0 ≡ p = omega arith in
      rw (c, length-drop p f, lt-leb (length f - p) 0 (omega arith), z)

  pub end-more : p < length f → 128 ≤ get_or f p 0 → end_of f p ≡ end_of f (p + 1)
  unfolding ends_early
  end-more l h =
      let c : continued (drop p f) ≡ suc (continued (drop (p + 1) f)) = rw (add-one, drop-cons f p 0) (goes_on (get_or f p 0) (drop (suc p) f) h) in
      let m : length (drop p f) ≡ suc (length (drop (p + 1) f)) = simp length-drop (omega arith) in
      let n : p + suc (continued (drop (p + 1) f)) ≡ p + 1 + continued (drop (p + 1) f) = omega arith in
      rw (c, m, n, leb-suc (length (drop (p + 1) f)) (continued (drop (p + 1) f)))

  pub end-none : length f ≤ p → end_of f p ≡ None
  unfolding ends_early
  end-none l = rw (le-leb (length (drop p f)) (continued (drop p f)) (simp length-drop (omega arith)))

  -- as a search for the first byte without the high bit finds it
  pub end-searched : (r : Option ℕ) → r ≡ first-small (drop p f) → option_map (λ k. p + k) r ≡ end_of f p
  unfolding ends_early
  end-searched r e =
      elim (dec_le (length (drop p f)) (continued (drop p f))) [
        | yes l ↦ rw (e, ← small-continued (drop p f), le-ltb (continued (drop p f)) (length (drop p f)) l, le-leb (length (drop p f)) (continued (drop p f)) l)
        | no l ↦ rw (e, ← small-continued (drop p f), lt-ltb (continued (drop p f)) (length (drop p f)) (omega arith), lt-leb (length (drop p f)) (continued (drop p f)) (omega arith))
      ]

  -- in the part of the file from the place on
  pub end-within : (t : List ℕ) → t ≡ slice_range f p (length f) → (r : Option ℕ) → r ≡ first-small t → option_map (λ k. p + k) r ≡ end_of f p
  end-within t e r h = end-searched r (h ∙ ap first-small (e ∙ take_all (length f - p) (drop p f) (simp length-drop (omega arith))))

  -- found, or not
  pub end-found : (end : ℕ) → Some end ≡ end_of f p → Ends f p end
  unfolding ends_early
  end-found end e = by-test (leb (length (drop p f)) (continued (drop p f))) refl e
    where
      by-test : (t : Bool) → leb (length (drop p f)) (continued (drop p f)) ≡ t → ◌≡◌ {A = Option ℕ} (Some end) (pick t None (Some (p + continued (drop p f)))) → Ends f p end
      by-test true q k = absurd (cc)
      by-test false q k =
          let w : continued (drop p f) < length (drop p f) = leb-false (length (drop p f)) (continued (drop p f)) q in
          let i : end ≡ p + continued (drop p f) = cc in
          record { at = i; within = omega (arith, simp length-drop at w) }

  pub end-missed : None ≡ end_of f p → ends_early (drop p f) ≡ true
  end-missed e = by-test (ends_early (drop p f)) e
    where
      by-test : (t : Bool) → ◌≡◌ {A = Option ℕ} None (pick t None (Some (p + continued (drop p f)))) → t ≡ true
      by-test true k = refl
      by-test false k = absurd (cc)

-- ---- a number whose last group stands at `end`

module _ (f : List ℕ) (p end : ℕ) (e : Ends f p end) where
  pub ends-whole : Whole (drop p f)
  ends-whole = simp length-drop (omega (arith, e.at, e.within))

  top : top_of (drop p f) ≡ get_or f end 0
  top = get_or-drop p f (continued (drop p f)) 0 ∙ ap (λ (n : ℕ). get_or f n 0) (sym e.at)

  many : end - p ≡ continued (drop p f)
  many = omega (arith, e.at)

  pub after-end : end + 1 ≡ after_at f p
  unfolding after_at
  after-end = omega (arith, e.at, length-spelling (drop p f) ends-whole)

  -- ---- the value, from the last group back

  abbrev pub upto : ℕ → ℕ
  upto q = value_of (part q (end + 1 - q) f)

  pub upto_all : upto p ≡ value_at f p
  unfolding value_at spelling
  upto_all = let n : end + 1 - p ≡ suc (continued (drop p f)) = omega (arith, e.at) in ap (λ (k : ℕ). value_of (take k (drop p f))) n

  pub upto-none : upto (end + 1) ≡ 0
  unfolding value_of
  upto-none = let z : end + 1 - (end + 1) ≡ 0 = omega arith in rw z

  pub upto-more : (q : ℕ) → 1 ≤ q → q ≤ end + 1 → upto (q - 1) ≡ 128 * upto q + get_or f (q - 1) 0 % 128
  unfolding value_of
  upto-more q l m =
      let n : end + 1 - (q - 1) ≡ suc (end + 1 - q) = omega arith in
      let i : suc (q - 1) ≡ q = omega arith in
      let b : q - 1 < length f = omega (arith, e.within) in
      rw (n, drop-cons f (q - 1) 0 b, i) (omega arith)

  value-tail : (j : ℕ) (g : List ℕ) → value_of (drop j g) ≤ value_of g
  unfolding value_of
  value-tail zero g = omega arith
  value-tail (suc j) [] = omega arith
  value-tail (suc j) (b ∷ g) = omega (arith, value-tail j g)

  pub upto_le : (q : ℕ) → p ≤ q → q ≤ end + 1 → upto q ≤ value_at f p
  upto_le q l m =
      let a : p + (q - p) ≡ q = omega arith in
      let n : end + 1 - p - (q - p) ≡ end + 1 - q = omega arith in
      let d : drop (q - p) (part p (end + 1 - p) f) ≡ part q (end + 1 - q) f = rw (a, n) at (drop-part (q - p) p (end + 1 - p) f (omega arith)) in
      let t : value_of (part q (end + 1 - q) f) ≤ upto p = rw d at (value-tail (q - p) (part p (end + 1 - p) f)) in
      omega (arith, t, upto_all)

  -- ---- whether it is misspelt, as code tests it

  module _ (y : Bytes f) where
    pub one-group : end - p ≡ 0 → false ≡ misspelt (spelling (drop p f))
    one-group h = sym (spelt-one (drop p f) (bytes_drop p y) ends-whole (sym many ∙ h))

    module _ (h : end - p ≡ 0 → ⊥) where
      pub last-zero : get_or f end 0 ≡ 0 → true ≡ misspelt (spelling (drop p f))
      last-zero z = sym (spelt-zero (drop p f) (bytes_drop p y) ends-whole (omega (arith, many, h)) (top ∙ z))

      module _ (z : get_or f end 0 ≡ 0 → ⊥) where
        high : 1 ≤ top_of (drop p f)
        high = omega (arith, top, z)

        pub few-groups : end - p < 9 → false ≡ misspelt (spelling (drop p f))
        few-groups l = sym (spelt-nine (drop p f) (bytes_drop p y) ends-whole high (omega (arith, many)))

        pub many-groups : 9 < end - p → true ≡ misspelt (spelling (drop p f))
        many-groups l = sym (spelt-over (drop p f) (bytes_drop p y) ends-whole high (omega (arith, many)))

        pub ten-groups : 9 ≤ end - p → end - p ≤ 9 → ltb 1 (get_or f end 0) ≡ misspelt (spelling (drop p f))
        ten-groups l m = sym (spelt-ten (drop p f) (bytes_drop p y) ends-whole high (omega (arith, many)) ∙ ap (ltb 1) top)

-- ---- a number reads

pub record Reads (f : List ℕ) (p : ℕ) : Type 0 where
  pub whole : Whole (drop p f)
  pub well : misspelt (spelling (drop p f)) ≡ false

module _ (f : List ℕ) (p : ℕ) where
  whole-early : Whole (drop p f) → ends_early (drop p f) ≡ false
  unfolding ends_early
  whole-early w = lt-leb (length (drop p f)) (continued (drop p f)) w

  pub reads-refusal : (rule : ℕ → ℕ) → Reads f p → refusal_at rule f p ≡ rule (value_at f p)
  unfolding refusal_at
  reads-refusal rule r = rw (whole-early r.whole, r.well)

  -- a number that does not read is refused alike under every rule
  pub cases : (rule : ℕ → ℕ) → Reads f p ⊎ ((refusal_at any_number f p ≡ 0 → ⊥) × (refusal_at rule f p ≡ refusal_at any_number f p))
  unfolding refusal_at ends_early
  cases rule = by_end (leb (length (drop p f)) (continued (drop p f))) refl
    where
      by-spelling : (t : Bool) → Whole (drop p f) → misspelt (spelling (drop p f)) ≡ t → Reads f p ⊎ ((◌≡◌ {A = ℕ} (pick t 29 0) 0 → ⊥) × (◌≡◌ {A = ℕ} (pick t 29 (rule (value_at f p))) (pick t 29 0)))
      by-spelling true w e = inr (λ z. omega arith, refl)
      by-spelling false w e = inl (record { whole = w; well = e })

      by_end : (t : Bool) → leb (length (drop p f)) (continued (drop p f)) ≡ t
          → Reads f p ⊎ ((◌≡◌ {A = ℕ} (pick t 28 (pick (misspelt (spelling (drop p f))) 29 0)) 0 → ⊥) × (◌≡◌ {A = ℕ} (pick t 28 (pick (misspelt (spelling (drop p f))) 29 (rule (value_at f p)))) (pick t 28 (pick (misspelt (spelling (drop p f))) 29 0))))
      by_end true e = inr (λ z. omega arith, refl)
      by_end false e = by-spelling (misspelt (spelling (drop p f))) (leb-false (length (drop p f)) (continued (drop p f)) e) refl

  pub zero-reads : (rule : ℕ → ℕ) → refusal_at rule f p ≡ 0 → Reads f p × (rule (value_at f p) ≡ 0)
  zero-reads rule z = elim (cases rule) [ inl r ↦ (r, sym (reads-refusal rule r) ∙ z) | inr d ↦ absurd (d.0 (sym d.1 ∙ z)) ]

-- ---- as code reads it

-- a number that reads, and the place after it
abbrev pub taken : ℕ → ℕ → Number
taken v q = record { value = v; after = q }

module _ (f : List ℕ) (p : ℕ) where
  pub read-early : None ≡ end_of f p → Err (verdict 28 p) ≡ number_at any_number f p
  unfolding number_verdict refusal_at
  read-early e = sym (rw (end-missed f p e))

  module _ (end : ℕ) (y : Bytes f) (e : Ends f p end) where
    pub read-misspelt : misspelt (spelling (drop p f)) ≡ true → Err (verdict 29 p) ≡ number_at any_number f p
    unfolding number_verdict refusal_at
    read-misspelt m = sym (rw (whole-early f p (ends-whole f p end e), m))

    pub value-fits : misspelt (spelling (drop p f)) ≡ false → value_at f p < 2 ^ 64
    unfolding value_at
    value-fits m = (well-spelt (drop p f) (bytes_drop p y) (ends-whole f p end e) m).1

    pub read-well : misspelt (spelling (drop p f)) ≡ false → Ok (taken (value_at f p) (end + 1)) ≡ number_at any_number f p
    unfolding number_verdict
    read-well m =
        let z : refusal_at any_number f p ≡ 0 = reads-refusal f p any_number (record { whole = ends-whole f p end e; well = m }) in
        sym (rw (z, after-end f p end e))

-- a byte without the high bit is a number of one group
module _ (f : List ℕ) (p : ℕ) (y : Bytes f) (l : p < length f) (h : get_or f p 0 < 128) where
  single : Ends f p p
  single = end-found f p p (sym (end-here f p l h))

  value-single : get_or f p 0 ≡ value_at f p
  value-single =
      let i : p + 1 - 1 ≡ p = omega arith in
      let u = rw i at (upto-more f p p single (p + 1) (omega arith) (omega arith)) in
      omega (arith, h, u, upto-none f p p single, upto_all f p p single)

  pub read-single : Ok (taken (get_or f p 0) (p + 1)) ≡ number_at any_number f p
  read-single =
      let m : misspelt (spelling (drop p f)) ≡ false = sym (one-group f p p single y (omega arith)) in
      ap (λ (v : ℕ). Ok (taken v (p + 1))) value-single ∙ read-well f p p y single m

-- a number that was read under a rule
module _ (rule : ℕ → ℕ) (f : List ℕ) (p : ℕ) where
  verdict-zero : (number_verdict rule f p).number ≡ 0 → refusal_at rule f p ≡ 0
  unfolding number_verdict
  verdict-zero z = by-test (eqb (refusal_at rule f p) 0) refl z
    where
      by-test : (t : Bool) → eqb (refusal_at rule f p) 0 ≡ t → (pick t accepted (verdict (refusal_at rule f p) p)).number ≡ 0 → refusal_at rule f p ≡ 0
      by-test true e q = eqb-true (refusal_at rule f p) 0 e
      by-test false e q = q

  -- what it is, and that it keeps the rule
  pub record Kept (n : Number) : Type 0 where
    pub value-is : n.value ≡ value_at f p
    pub after-is : n.after ≡ after_at f p
    pub accepted-is : number_verdict rule f p ≡ accepted
    pub refusal-is : refusal_at rule f p ≡ 0

  pub read-kept : (n : Number) → Ok n ≡ number_at rule f p → Kept n
  unfolding number_verdict
  read-kept n e =
      let a = answered-ok (number_verdict rule f p) (taken (value_at f p) (after_at f p)) n e in
      let z : refusal_at rule f p ≡ 0 = verdict-zero a.0 in
      record { value-is = ap (λ (m : Number). m.value) a.1; after-is = ap (λ (m : Number). m.after) a.1; accepted-is = rw z; refusal-is = z }

-- a number that was read under none, and is looked at under a rule
module _ (rule : ℕ → ℕ) (f : List ℕ) (p : ℕ) where
  pub rule-unread : (w : Verdict) → Err w ≡ number_at any_number f p → Err w ≡ number_at rule f p
  unfolding number_verdict
  rule-unread w e =
      elim (cases f p rule) [
        | inl r ↦ absurd ((answered-err (number_verdict any_number f p) (taken (value_at f p) (after_at f p)) w e).0 (rw (reads-refusal f p any_number r)))
        | inr d ↦ e ∙ rw d.1
      ]

  module _ (n : Number) (e : Ok n ≡ number_at any_number f p) where
    says : refusal_at rule f p ≡ rule n.value
    says =
        let k = read-kept any_number f p n e in
        reads-refusal f p rule (zero-reads f p any_number k.refusal-is).0 ∙ ap rule (sym k.value-is)

    pub rule-broken : (k : ℕ) → rule n.value ≡ k → (k ≡ 0 → ⊥) → Err (verdict k p) ≡ number_at rule f p
    unfolding number_verdict
    rule-broken k r h = sym (rw (says, r, ne_eqb k 0 h, ne_eqb k 0 h))

    pub broken-at : (r : Refused) (k : ℕ) → number_of r.refusal ≡ k → r.place ≡ p → rule n.value ≡ k → (k ≡ 0 → ⊥) → Err (told_by r) ≡ number_at rule f p
    broken-at r k why place b h = rw (refused-at r k p why place) (rule-broken k b h)

    pub rule-kept : rule n.value ≡ 0 → Ok n ≡ number_at rule f p
    unfolding number_verdict
    rule-kept r =
        let z : refusal_at any_number f p ≡ 0 = (read-kept any_number f p n e).refusal-is in
        (rw z at e) ∙ sym (rw (says, r))
