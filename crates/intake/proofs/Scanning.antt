-- The least pair of a block and the orders from its first on: one order more, and what the pairs of a block say of all.
-- Assumes nothing.
use mathlib.Core.Path.{◌≡◌, refl, sym, ap, ◌∙◌, subst}
use mathlib.Core.Logic.{◌⊎◌, inl, inr}
use mathlib.Core.Bool.{Bool, true, false}
use Prim.Native.Nat.{ℕ, suc, ◌≤◌, ◌<◌}
use native.Mathlib.Omega.{arith}
use native.Mathlib.Decide.{dec_le}
use mathlib.Core.List.{List, [], ◌∷◌, ◌++◌, append_assoc, append-nil}
use lib.Dec.{eqb, leb}
use borrow.Author.Tests.{eqb-true, eqb-false, eq-eqb, ne_eqb, leb-true, leb-false}
use Rattle.endian.specs.Pick.{pick}
use Rattle.intake.specs.Places.{one, count, Has, Same}
use Rattle.intake.specs.Blocks.{Firstly, Paired, Leads, Least, begins_by, lesser_of, next_same, pair_with, least_pair}
use Rattle.std.specs.Prelude.{Option, Some, None}
use Rattle.page.proofs.Picks.{never}
use Rattle.intake.specs.declared.pairs.Pair.{Pair}
use Rattle.intake.proofs.Counting.{count-append, old, new, snoc-cases, snoc_old, snoc_new, same-has, same_back}
use Rattle.intake.proofs.Walking.{Above, Ascends}

-- ---- lists that rise

-- an element of p ∷ l is p, or in l
pub data Cons (x p : ℕ) (l : List ℕ) : Type 0 where
  head : x ≡ p → Cons x p l
  rest : Has x l → Cons x p l

pub cons-cases : (x p : ℕ) (l : List ℕ) → Has x (p ∷ l) → Cons x p l
unfolding count
cons-cases x p l h = go (eqb p x) refl
  where
    go : (b : Bool) → eqb p x ≡ b → Cons x p l
    go true e = head (sym (eqb-true p x e))
    go false e = let z : one (eqb p x) ≡ 0 = ap one e in rest (omega arith)

pub has-head : (x : ℕ) (l : List ℕ) → Has x (x ∷ l)
unfolding count
has-head x l = rw (eq-eqb x x refl) (omega arith)

pub has-tail : (x p : ℕ) (l : List ℕ) → Has x l → Has x (p ∷ l)
unfolding count
has-tail x p l h = omega arith

has-none : (x : ℕ) → Has x [] → ⊥
unfolding count
has-none x h = absurd (omega arith)

pub above-has : (b x : ℕ) (l : List ℕ) → Above b l → Has x l → b ≤ x
above-has b x [] u h = absurd (has-none x h)
above-has b x (y ∷ l) u h = elim (cons-cases x y l h) [ head e ↦ omega (arith, u.0) | rest w ↦ above-has b x l u.1 w ]

above-append : (b : ℕ) (l m : List ℕ) → Above b (l ++ m) → Above b m
above-append b [] m u = u
above-append b (x ∷ l) m u = above-append b l m u.1

pub ascends_back : (l m : List ℕ) → Ascends (l ++ m) → Ascends m
ascends_back [] m u = u
ascends_back (x ∷ l) m u = ascends_back l m u.1

-- what stands in front is less
pub ascends-before : (x y : ℕ) (l m : List ℕ) → Ascends (l ++ m) → Has x l → Has y m → x < y
ascends-before x y [] m u h g = absurd (has-none x h)
ascends-before x y (z ∷ l) m u h g =
    elim (cons-cases x z l h) [ head e ↦ omega (arith, above-has (suc z) y m (above-append (suc z) l m u.0) g) | rest w ↦ ascends-before x y l m u.1 w g ]

-- ---- a pass over the orders

module _ (k : ℕ → ℕ) (b : List ℕ) where
  -- some orders of all were looked at, and the others are left
  pub record Scan (all left : List ℕ) (p : Option Pair) : Type 0 where
    pub done : List ℕ
    pub goes : done ++ left ≡ all
    pub least : Least k b done p

  pub scan-none : (all : List ℕ) → Scan all all None
  scan-none all = record { done = []; goes = refl; least = record { real = tt; least = λ x y h g. absurd (has-none y g) } }

  pub scan-end : (all left : List ℕ) (p : Option Pair) → left ≡ [] → Scan all left p → Least k b all p
  scan-end all left p e w =
      let z : w.done ≡ all = sym (append-nil w.done) ∙ ap (λ (x : List ℕ). w.done ++ x) (sym e) ∙ w.goes in
      subst (λ (x : List ℕ). Least k b x p) z w.least

  module _ (d : List ℕ) (x : ℕ) (behind : (y : ℕ) → Has y d → y < x) where
    paired-more : (p : Option Pair) → Paired k b d p → Paired k b (d ++ (x ∷ [])) p
    paired-more None r = tt
    paired-more (Some p) r = (r.0, snoc_old p.second x d r.1, r.2, r.3)

    -- the pair is kept
    keep : (p : Option Pair) → Least k b d p → ((y z : ℕ) → Has y b → z ≡ x → y < z → k y ≡ k z → Leads p y z) → Least k b (d ++ (x ∷ [])) p
    keep p w now = record {
      real = paired-more p w.real;
      least = λ y z h g l e. elim (snoc-cases z x d g) [ old o ↦ w.least y z h o l e | new q ↦ now y z h q l e ];
    }

    -- no place of the block has x's key
    none-here : (p : Option Pair) → Least k b d p → Firstly k (k x) b None → Least k b (d ++ (x ∷ [])) p
    none-here p w at = keep p w (λ y z h q l e. absurd (at y h (e ∙ ap k q)))

    module _ (f : ℕ) (at : Firstly k (k x) b (Some f)) where
      late : (p : Option Pair) → Least k b d p → x ≤ f → Least k b (d ++ (x ∷ [])) p
      late p w u = keep p w (λ y z h q l e. absurd (omega (arith, at.2 y h (e ∙ ap k q))))

      greater : (p : Pair) → Least k b d (Some p) → p.first ≤ f → Least k b (d ++ (x ∷ [])) (Some p)
      greater p w u = keep (Some p) w now
        where
          now : (y z : ℕ) → Has y b → z ≡ x → y < z → k y ≡ k z → Leads (Some p) y z
          now y z h q l e =
              let m = at.2 y h (e ∙ ap k q) in
              elim (dec_le y p.first) [
                | yes v ↦ inr (omega arith, omega (arith, behind p.second w.real.1))
                | no v ↦ inl (omega arith)
              ]

      -- or a lesser one is found
      found : (p : Option Pair) → Least k b d p → f < x → begins_by p f ≡ false → Least k b (d ++ (x ∷ [])) (Some (record { first = f; second = x }))
      found p w u v = record {
        real = (at.0, snoc_new x d, u, at.1);
        least = λ y z h g l e. elim (snoc-cases z x d g) [ old o ↦ inl (over p v y z (w.least y z h o l e)) | new q ↦ here y z h q l e ];
      }
        where
          over : (p : Option Pair) → begins_by p f ≡ false → (y z : ℕ) → Leads p y z → f < y
          over None v y z a = absurd a
          over (Some p) v y z (inl a) = omega (arith, leb-false p.first f v)
          over (Some p) v y z (inr a) = omega (arith, leb-false p.first f v, a.0)

          here : (y z : ℕ) → Has y b → z ≡ x → y < z → k y ≡ k z → (f < y) ⊎ ((f ≡ y) × (x ≤ z))
          here y z h q l e =
              let m = at.2 y h (e ∙ ap k q) in
              elim (dec_le y f) [ yes a ↦ inr (omega arith, omega arith) | no a ↦ inl (omega arith) ]

      pub one_more : (p : Option Pair) → Least k b d p → Least k b (d ++ (x ∷ [])) (lesser_of p f x)
      unfolding lesser_of
      one_more p w = go (leb x f) refl p w (begins_by p f) refl
        where
          go : (t : Bool) → leb x f ≡ t → (p : Option Pair) → Least k b d p → (u : Bool) → begins_by p f ≡ u → Least k b (d ++ (x ∷ [])) (pick t p (pick u p (Some (record { first = f; second = x }))))
          go true a p w u c = late p w (leb-true x f a)
          go false a None w true c = never c
          go false a (Some p) w true c = greater p w (leb-true p.first f c)
          go false a p w false c = found p w (leb-false x f a) c

  -- what is known after a place, by the first of its key in the block
  abbrev pub after : Option Pair → Option ℕ → ℕ → Option Pair
  after p None x = p
  after p (Some f) x = lesser_of p f x

  module _ (all left : List ℕ) (p : Option Pair) (x : ℕ) (later : List ℕ) (rises : Ascends all) (e : left ≡ x ∷ later) (w : Scan all left p) where
    goes : w.done ++ (x ∷ later) ≡ all
    goes = ap (λ (z : List ℕ). w.done ++ z) (sym e) ∙ w.goes

    behind : (y : ℕ) → Has y w.done → y < x
    behind y h = ascends-before y x w.done (x ∷ later) (subst Ascends (sym goes) rises) h (has-head x later)

    pub scan-more : (f : Option ℕ) → Firstly k (k x) b f → Scan all later (after p f x)
    scan-more None at = record { done = w.done ++ (x ∷ []); goes = append_assoc w.done (x ∷ []) later ∙ goes; least = none-here w.done x behind p w.least at }
    scan-more (Some f) at = record { done = w.done ++ (x ∷ []); goes = append_assoc w.done (x ∷ []) later ∙ goes; least = one_more w.done x behind f at p w.least }

-- a block in another order
paired-same : (k : ℕ → ℕ) (b c d : List ℕ) (p : Option Pair) → Same b c → Paired k c d p → Paired k b d p
paired-same k b c d None q r = tt
paired-same k b c d (Some p) q r = (same-has q p.first r.0, r.1, r.2, r.3)

pub least-same : (k : ℕ → ℕ) (b c d : List ℕ) (p : Option Pair) → Same b c → Least k c d p → Least k b d p
least-same k b c d p q w = record { real = paired-same k b c d p q w.real; least = λ x y h g l e. w.least x y (same_back q x h) g l e }

-- ---- what the pairs of a block say of all

-- no element behind has the key
same-none : (k : ℕ → ℕ) (t : ℕ) (l : List ℕ) → ((x : ℕ) → Has x l → k x ≡ t → ⊥) → next_same k t l ≡ None
unfolding next_same
same-none k t [] h = refl
same-none k t (y ∷ l) h = rw (ne_eqb (k y) t (h y (has-head y l))) (same-none k t l (λ x g. h x (has-tail x y l g)))

-- the first that has it
same_first : (k : ℕ → ℕ) (t r : ℕ) (l : List ℕ) → Ascends l → Has r l → k r ≡ t → ((x : ℕ) → Has x l → k x ≡ t → r ≤ x) → next_same k t l ≡ Some r
unfolding next_same
same_first k t r [] u h e m = absurd (has-none r h)
same_first k t r (y ∷ l) u h e m = go (eqb (k y) t) refl (λ w. same_first k t r l u.1 w e (λ x g. m x (has-tail x y l g)))
  where
    go : (b : Bool) → eqb (k y) t ≡ b → (Has r l → next_same k t l ≡ Some r) → pick b (Some y) (next_same k t l) ≡ Some r
    go true q f = elim (cons-cases r y l h) [ head z ↦ ap Some (sym z) | rest w ↦ absurd (omega (arith, m y (has-head y l) (eqb-true (k y) t q), above-has (suc y) r l u.0 w)) ]
    go false q f = elim (cons-cases r y l h) [ head z ↦ absurd (eqb-false (k y) t q (ap k (sym z) ∙ e)) | rest w ↦ f w ]

-- no pair has its first in front
pub pairs-skipped : (k : ℕ → ℕ) (b c : List ℕ) → Ascends (b ++ c) → ((x y : ℕ) → Has x b → Has y (b ++ c) → x < y → k x ≡ k y → ⊥) → least_pair k (b ++ c) ≡ least_pair k c
unfolding least_pair
pairs-skipped k [] c u h = refl
pairs-skipped k (x ∷ b) c u h =
    let z : next_same k (k x) (b ++ c) ≡ None = same-none k (k x) (b ++ c) (λ y g e. h x y (has-head x b) (has-tail y x (b ++ c) g) (omega (arith, above-has (suc x) y (b ++ c) u.0 g)) (sym e)) in
    rw z (pairs-skipped k b c u.1 (λ v y p g l e. h v y (has-tail v x b p) (has-tail y x (b ++ c) g) l e))

-- a pair that is the least of all
module _ (k : ℕ → ℕ) (p : Pair) where
  pub pairs-least : (l : List ℕ) → Ascends l → Has p.first l → Has p.second l → p.first < p.second → k p.first ≡ k p.second
      → ((x y : ℕ) → Has x l → Has y l → x < y → k x ≡ k y → Leads (Some p) x y) → Some p ≡ least_pair k l
  unfolding least_pair
  pairs-least [] u h g l e m = absurd (has-none p.first h)
  pairs-least (z ∷ zs) u h g l e m =
      elim (cons-cases p.first z zs h) [ head q ↦ here q | rest w ↦ later w (λ gs. pairs-least zs u.1 w gs l e (λ a c v o. m a c (has-tail a z zs v) (has-tail c z zs o))) ]
    where
      behind : p.first ≡ z → Has p.second zs
      behind q = elim (cons-cases p.second z zs g) [ head y ↦ absurd (omega arith) | rest y ↦ y ]

      least : p.first ≡ z → (x : ℕ) → Has x zs → k x ≡ k z → p.second ≤ x
      least q x y f = go (m z x (has-head z zs) (has-tail x z zs y) (omega (arith, above-has (suc z) x zs u.0 y)) (sym f))
        where
          go : (p.first < z) ⊎ ((p.first ≡ z) × (p.second ≤ x)) → p.second ≤ x
          go (inl a) = absurd (omega arith)
          go (inr a) = a.1

      here : p.first ≡ z → Some p ≡ pair_with z (next_same k (k z) zs) (least_pair k zs)
      here q =
          let y : next_same k (k z) zs ≡ Some p.second = same_first k (k z) p.second zs u.1 (behind q) (sym e ∙ ap k q) (least q) in
          rw (y, ← q)

      later : Has p.first zs → (Has p.second zs → Some p ≡ least_pair k zs) → Some p ≡ pair_with z (next_same k (k z) zs) (least_pair k zs)
      later w f =
          let up = above-has (suc z) p.first zs u.0 w in
          let gs : Has p.second zs = elim (cons-cases p.second z zs g) [ head y ↦ absurd (omega arith) | rest y ↦ y ] in
          let y : next_same k (k z) zs ≡ None = same-none k (k z) zs (λ x v o. none x (m z x (has-head z zs) (has-tail x z zs v) (omega (arith, above-has (suc z) x zs u.0 v)) (sym o))) in
          rw y (f gs)
        where
          none : (x : ℕ) → (p.first < z) ⊎ ((p.first ≡ z) × (p.second ≤ x)) → ⊥
          none x (inl a) = omega (arith, above-has (suc z) p.first zs u.0 w)
          none x (inr a) = omega (arith, a.0, above-has (suc z) p.first zs u.0 w)

-- a block in front of others
module _ (k : ℕ → ℕ) (b c : List ℕ) (all : List ℕ) (goes : b ++ c ≡ all) (rises : Ascends all) where
  rising : Ascends (b ++ c)
  rising = subst Ascends (sym goes) rises

  pub block_none : Least k b all None → least_pair k c ≡ least_pair k all
  block_none w = sym (pairs-skipped k b c rising (λ x y v o l e. w.least x y v (subst (Has y) goes o) l e)) ∙ ap (least_pair k) goes

  pub block-some : (p : Pair) → Least k b all (Some p) → Some p ≡ least_pair k all
  block-some p w =
      let r = w.real in
      pairs-least k p all rises (subst (Has p.first) goes (omega (arith, count-append p.first b c, r.0))) r.1 r.2 r.3 (λ x y v o l e. go x y v o l e r.0)
    where
      go : (x y : ℕ) → Has x all → Has y all → x < y → k x ≡ k y → Has p.first b → (p.first < x) ⊎ ((p.first ≡ x) × (p.second ≤ y))
      go x y v o l e f =
          elim (dec_le 1 (count x b)) [
            | yes a ↦ w.least x y a o l e
            | no a ↦ inl (ascends-before p.first x b c rising f (omega (arith, count-append x b c, ap (count x) goes)))
          ]
