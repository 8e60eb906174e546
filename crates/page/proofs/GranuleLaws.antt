-- The pass by granules: slots entered one by one, granules gone over one by one, and that no slot is then at fault.
-- Assumes nothing.
use mathlib.Core.Path.{◌≡◌, refl, ap, ◌∙◌}
use mathlib.Core.Logic.{◌⊎◌, inl, inr}
use mathlib.Core.Bool.{Bool, true, false}
use Prim.Native.Nat.{ℕ, suc, ◌+◌, ◌-◌, ◌/◌, ◌≤◌, ◌<◌}
use native.Mathlib.Decide.{dec_le}
use native.Mathlib.Omega.{arith}
use mathlib.Core.List.{List}
use lib.ListN.{length, get_or, set, replicate, get_or-replicate, length-replicate, length-set}
use lib.Seq.{get_or-set_same, get_or-set_other}
use lib.Dec.{eqb}
use borrow.Author.Tests.{eqb-true, eqb-false}
use Rattle.page.specs.Layout.{body_bytes, row_head, slot_off, slot_len}
use Rattle.page.specs.Good.{Holds}
use Rattle.page.specs.Fault.{is_tuple, slots_fault}
use Rattle.page.specs.Granules.{granules, granule_of, Singly, Placed, Lined}
use Rattle.std.specs.Prelude.{None}
use Rattle.page.proofs.SlotLaws.{fine, fine-good, test_fits, apart-share, none-earlier, faulty-not, slots-sound}

-- ---- the slots

module _ (b : List ℕ) (end : ℕ) where
  pub singly-none : Singly b end 0
  singly-none = record { at = λ j l. absurd (omega arith) }

  pub singly-more : {k : ℕ} → Singly b end k → fine b end k ≡ true → Singly b end (k + 1)
  singly-more {k} s f =
      record { at = λ j l. elim (dec_le k j) [ yes m ↦ let z : j ≡ k = omega arith in rw z f | no m ↦ s.at j (omega arith) ] }

-- what a list holds after one element is set
set_at : (l : List ℕ) (h v : ℕ) → h < length l → (g : ℕ) → ((g ≡ h) × (get_or (set l h v) g 0 ≡ v)) ⊎ ((g ≡ h → ⊥) × (get_or (set l h v) g 0 ≡ get_or l g 0))
set_at l h v w g = go (eqb g h) refl
  where
    go : (t : Bool) → eqb g h ≡ t → ((g ≡ h) × (get_or (set l h v) g 0 ≡ v)) ⊎ ((g ≡ h → ⊥) × (get_or (set l h v) g 0 ≡ get_or l g 0))
    go true e = let z : g ≡ h = eqb-true g h e in inl (z, rw z (get_or-set_same l h v 0 w))
    go false e = inr (eqb-false g h e, get_or-set_other l h g v 0 (eqb-false g h e))

module _ (b : List ℕ) where
  pub placed-none : Placed b 0 (replicate granules 0)
  placed-none =
      record {
        size = length-replicate {A = ℕ} granules 0;
        low = λ g l. omega (arith, get_or-replicate {A = ℕ} granules g 0 0 l);
        at = λ j l. absurd (omega arith);
      }

  module _ {k : ℕ} {grid : List ℕ} (p : Placed b k grid) where
    pub placed-empty : slot_len b k ≡ 0 → Placed b (k + 1) grid
    placed-empty e =
        record {
          size = p.size;
          low = λ g l. omega (arith, p.low g l);
          at = λ j l f.
              elim (dec_le k j) [
                | yes m ↦ let z : j ≡ k = omega arith in absurd (omega (arith, ap (slot_len b) z))
                | no m ↦ p.at j (omega arith) f
              ];
        }

    entered : granule_of b k < granules → get_or grid (granule_of b k) 0 ≡ 0 → Placed b (k + 1) (set grid (granule_of b k) (k + 1))
    entered w e =
        let x = set_at grid (granule_of b k) (k + 1) (omega (arith, p.size)) in
        record {
          size = length-set grid (granule_of b k) (k + 1) ∙ p.size;
          low = λ g l. elim (x g) [ inl y ↦ omega (arith, y.1) | inr y ↦ omega (arith, y.1, p.low g l) ];
          at = λ j l f.
              elim (dec_le k j) [
                | yes m ↦ let z : j ≡ k = omega arith in rw z (omega (arith, get_or-set_same grid (granule_of b k) (k + 1) 0 (omega (arith, p.size))))
                | no m ↦ elim (x (granule_of b j)) [
                  | inl y ↦ absurd (omega (arith, p.at j (omega arith) f, ap (λ (g : ℕ). get_or grid g 0) y.0))
                  | inr y ↦ y.1 ∙ p.at j (omega arith) f
                ]
              ];
        }

    pub placed-tuple : (o : ℕ) → o ≡ slot_off b k → o / row_head < granules → get_or grid (o / row_head) 0 ≡ 0 → Placed b (k + 1) (set grid (o / row_head) (k + 1))
    placed-tuple o eo w e = rw eo (entered (rw eo at w) (rw eo at e))

pub placed-all : (b : List ℕ) (end n : ℕ) {k : ℕ} {grid : List ℕ} → k ≤ n → n ≤ k → Singly b end k → Placed b k grid → Singly b end n × Placed b n grid
placed-all b end n {k} l m s p = let z : n ≡ k = omega arith in rw z (s, p)

-- a tuple of the body starts in one of its granules
pub start-in : (b : List ℕ) (end o n : ℕ) → is_tuple b end body_bytes o n ≡ true → o / row_head < granules
start-in b end o n e = let f = test_fits b end body_bytes o n e in omega (arith, f.long, f.within)

-- ---- the granules

-- the tuples that start in the first g granules are in line, and end by `last`
pub record Line (b : List ℕ) (n g last : ℕ) : Type 0 where
  pub behind : (j : ℕ) → j < n → 0 < slot_len b j → granule_of b j < g → slot_off b j + slot_len b j ≤ last
  pub lined : Lined b n g

module _ (b : List ℕ) (n : ℕ) where
  pub line-none : Line b n 0 0
  line-none =
      record { behind = λ j l f h. absurd (omega arith); lined = record { at = λ j k l m f h a c. absurd (omega arith) } }

  module _ {grid : List ℕ} (p : Placed b n grid) {g last : ℕ} (d : Line b n g last) where
    pub line-empty : get_or grid g 0 ≡ 0 → Line b n (g + 1) last
    line-empty e =
        let other : (j : ℕ) → j < n → 0 < slot_len b j → granule_of b j < g + 1 → granule_of b j < g =
        λ j l f h. elim (dec_le (granule_of b j + 1) g) [
          | yes m ↦ omega arith
          | no m ↦ let z : granule_of b j ≡ g = omega arith in absurd (omega (arith, p.at j l f, ap (λ (x : ℕ). get_or grid x 0) z))
        ] in
        record {
          behind = λ j l f h. d.behind j l f (other j l f h);
          lined = record { at = λ j k l m f h a c. d.lined.at j k l m f h a (other k m h c) };
        }

    passed : (m : ℕ) → get_or grid g 0 ≡ suc m → last ≤ slot_off b m → Line b n (g + 1) (slot_off b m + slot_len b m)
    passed m e a =
        let same : (j : ℕ) → j < n → 0 < slot_len b j → g ≤ granule_of b j → granule_of b j < g + 1 → j ≡ m =
        λ j l f u h. let z : granule_of b j ≡ g = omega arith in omega (arith, p.at j l f, ap (λ (x : ℕ). get_or grid x 0) z) in
        record {
          behind = λ j l f h.
              elim (dec_le g (granule_of b j)) [
                | yes u ↦ let z : j ≡ m = same j l f u h in rw z (omega arith)
                | no u ↦ omega (arith, d.behind j l f (omega arith))
              ];
          lined = record {
            at = λ j k l q f h x c.
                elim (dec_le g (granule_of b k)) [
                  | yes u ↦ let z : k ≡ m = same k q h u c in rw z (omega (arith, d.behind j l f (omega arith)))
                  | no u ↦ d.lined.at j k l q f h x (omega arith)
                ];
          };
        }

    -- the granule holds m, the slot before which says o and x
    pub line-slot : (m o x : ℕ) → get_or grid g 0 ≡ m → (m ≡ 0 → ⊥) → o ≡ slot_off b (m - 1) → x ≡ slot_len b (m - 1) → last ≤ o → Line b n (g + 1) (o + x)
    line-slot m o x e some eo ex a = rw (eo, ex) (passed (m - 1) (omega arith) (omega arith))

  pub line-all : {g last : ℕ} → g ≤ granules → granules ≤ g → Line b n g last → Lined b n granules
  line-all {g} l m d = let z : granules ≡ g = omega arith in rw z d.lined

-- ---- both

module _ (b : List ℕ) (end n : ℕ) (s : Singly b end n) {grid : List ℕ} (p : Placed b n grid) (d : Lined b n granules) where
  within : (k : ℕ) → k < n → 0 < slot_len b k → granule_of b k < granules
  within k l f = elim (fine-good b end k (s.at k l)) [ inl e ↦ absurd (omega arith) | inr t ↦ omega (arith, t.long, t.within) ]

  apart : (j k : ℕ) → j < k → k < n → (i : ℕ) → Holds b j i → Holds b k i → ⊥
  apart j k l m i x y =
      let fj : 0 < slot_len b j = omega arith in
      let fk : 0 < slot_len b k = omega arith in
      elim (dec_le (granule_of b j + 1) (granule_of b k)) [
        | yes u ↦ omega (arith, d.at j k (omega arith) m fj fk (omega arith) (within k m fk))
        | no u ↦ elim (dec_le (granule_of b k + 1) (granule_of b j)) [
          | yes v ↦ omega (arith, d.at k j m (omega arith) fk fj (omega arith) (within j (omega arith) fj))
          | no v ↦ let z : granule_of b j ≡ granule_of b k = omega arith in
              omega (arith, p.at j (omega arith) fj, p.at k m fk, ap (λ (g : ℕ). get_or grid g 0) z)
        ]
      ]

  pub granules-sound : slots_fault b end n 0 ≡ None
  granules-sound =
      slots-sound b end n 0 (λ k l m. faulty-not b end k (s.at k (omega arith)) (none-earlier b k k (λ j h. apart-share b j k (apart j k h (omega arith)))))
