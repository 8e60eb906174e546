-- Filling a block: what was put and what is left are all; and what a filled block is good for.
-- Assumes nothing.
use mathlib.Core.Path.{◌≡◌, refl, sym, ap, ◌∙◌, subst}
use Prim.Native.Nat.{ℕ, zero, suc, ◌+◌, ◌≤◌, ◌<◌}
use native.Mathlib.Omega.{arith}
use mathlib.Core.List.{List, [], ◌∷◌, ◌++◌, append_assoc}
use lib.ListN.{length, take, set, length-set, length-append}
use lib.Seq.{length-take-le, get_or-set_same}
use Rattle.intake.specs.Places.{low_at, high_at, mark_at, wide, Place, Places, places_from}
use Rattle.intake.specs.Blocks.{Filled, Firstly, least_pair}
use Rattle.intake.specs.declared.pairs.Block.{Block}
use Rattle.std.specs.Prelude.{Option, None}
use Rattle.intake.proofs.Counting.{take_next, places-none, places-more}

-- what stands in front of a stored element is kept
front : (l : List ℕ) (n y : ℕ) → take n (set l n y) ≡ take n l
front [] n y = refl
front (z ∷ l) zero y = refl
front (z ∷ l) (suc n) y = ap (λ (w : List ℕ). z ∷ w) (front l n y)

-- len places of the orders from slot k₀ of page i₀ on stand in a, and the others stand from slot k of page i on
pub record Put (s : List ℕ) (i₀ k₀ : ℕ) (a₀ a : List ℕ) (i k len : ℕ) : Type 0 where
  pub long : length a ≡ length a₀
  pub within : len ≤ length a
  pub goes : take len a ++ places_from s i k ≡ places_from s i₀ k₀
  pub places : Places s (take len a)

pub put-none : (s : List ℕ) (i k : ℕ) (a : List ℕ) → Put s i k a a i k 0
put-none s i k a = record { long = refl; within = omega arith; goes = refl; places = places-none s }

module _ {s : List ℕ} {i₀ k₀ : ℕ} {a₀ a : List ℕ} {i k len : ℕ} (p : Put s i₀ k₀ a₀ a i k len) where
  module _ (room : len < length a) (x j m : ℕ) (e : places_from s i k ≡ x ∷ places_from s j m) (good : Place s x) where
    stored : take (len + 1) (set a len x) ≡ take len a ++ (x ∷ [])
    stored =
        take_next (set a len x) len (simp length-set room)
        ∙ rw (get_or-set_same a len x 0 room) (ap (λ (l : List ℕ). l ++ (x ∷ [])) (front a len x))

    pub put-more : Put s i₀ k₀ a₀ (set a len x) j m (len + 1)
    put-more = record {
      long = simp length-set p.long;
      within = simp length-set (omega arith);
      goes = rw stored (append_assoc (take len a) (x ∷ []) (places_from s j m) ∙ ap (λ (l : List ℕ). take len a ++ l) (sym e) ∙ p.goes);
      places = rw stored (places-more x p.places good);
    }

  pub filled-end : places_from s i k ≡ [] → Filled s i₀ k₀ a (record { len = len; page = i; slot = k })
  filled-end e = record { within = p.within; goes = p.goes; places = p.places; some = λ z. sym p.goes ∙ rw (z, e) }

  pub filled-full : length a ≤ len → 0 < length a₀ → Filled s i₀ k₀ a (record { len = len; page = i; slot = k })
  filled-full h n = record { within = p.within; goes = p.goes; places = p.places; some = λ z. absurd (omega (arith, p.long)) }

-- ---- a filled block

module _ {s : List ℕ} {i k : ℕ} {a : List ℕ} {b : Block} (f : Filled s i k a b) where
  -- there are fewer behind it
  pub block-less : (b.len ≡ 0 → ⊥) → length (places_from s b.page b.slot) < length (places_from s i k)
  block-less n =
      omega (arith, ap length f.goes, length-append (take b.len a) (places_from s b.page b.slot), length-take-le b.len a f.within)

-- no places have no pair
pub pairs-over : (k : ℕ → ℕ) (l : List ℕ) → l ≡ [] → None ≡ least_pair k l
unfolding least_pair
pairs-over k l e = rw e

-- the first place of a mark, by its halves as code reads them
pub firstly-halves : (s : List ℕ) (x low high : ℕ) (l : List ℕ) (f : Option ℕ) → low ≡ low_at s x → high ≡ high_at s x → Firstly (mark_at s) (wide low high) l f → Firstly (mark_at s) (mark_at s x) l f
firstly-halves s x low high l f p q w = subst (λ (t : ℕ). Firstly (mark_at s) t l f) (rw (p, q)) w
