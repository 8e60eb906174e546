-- The pages that the slots of a file name.
-- Assumes nothing.
use mathlib.Core.Path.{◌≡◌, refl, sym}
use mathlib.Core.Bool.{Bool, true, false}
use Prim.Native.Nat.{ℕ, zero, suc, ◌+◌, ◌≤◌, ◌<◌}
use native.Mathlib.Decide.{dec_le, ℕ_discrete}
use native.Mathlib.Numerals.{add-one}
use native.Mathlib.Omega.{arith}
use mathlib.Core.List.{List}
use lib.Dec.{ltb}
use borrow.Author.Tests.{lt-ltb, le-ltb, ltb-true}
use Rattle.endian.specs.Pick.{pick}
use Rattle.page.proofs.Picks.{never, both}
use Rattle.doublewrite.specs.File.{id_at, is_named, ids_fit}

module _ (f : List ℕ) where
  -- ---- as code goes through the slots

  module _ (pages : ℕ) where
    -- where the first slots do not fit, more do not
    unfit : (k n : ℕ) → k ≤ n → ids_fit f pages k ≡ false → false ≡ ids_fit f pages n
    unfolding ids_fit
    unfit k zero h e = let z : k ≡ 0 = omega arith in sym (rw z at e)
    unfit k (suc n) h e =
        elim (dec_le k n) [
          | yes l ↦ rw (← unfit k n l e) (sym (any (ltb (id_at f n) pages) (is_named f (id_at f n) n)))
          | no l ↦ let z : k ≡ suc n = omega arith in sym (rw z at e)
        ]
      where
        any : (t u : Bool) → pick t (pick u false false) false ≡ false
        any true true = refl
        any true false = refl
        any false u = refl

    module _ (k : ℕ) where
      pub fit-lent : (n : ℕ) → k < n → pages ≤ id_at f k → false ≡ ids_fit f pages n
      unfolding ids_fit
      fit-lent n l h = unfit (suc k) n (omega arith) (rw (le-ltb (id_at f k) pages h))

      module _ (i : ℕ) (e : i ≡ id_at f k) (h : i < pages) where
        pub fit-twice : (n : ℕ) → k < n → is_named f i k ≡ true → false ≡ ids_fit f pages n
        unfolding ids_fit
        fit-twice n l t = unfit (suc k) n (omega arith) (rw (← e, lt-ltb i pages h, t))

        pub fit-more : is_named f i k ≡ false → ids_fit f pages k ≡ true → ids_fit f pages (k + 1) ≡ true
        unfolding ids_fit
        fit-more t r = rw (add-one k, ← e, lt-ltb i pages h, t) r

  -- ---- what it says of each slot

  pub fit-each : (pages n k : ℕ) → ids_fit f pages n ≡ true → k < n → (id_at f k < pages) × (is_named f (id_at f k) k ≡ false)
  unfolding ids_fit
  fit-each pages zero k e l = absurd (omega arith)
  fit-each pages (suc n) k e l =
      let p = both (ltb (id_at f n) pages) _ e in
      let q = passed (is_named f (id_at f n) n) _ p.1 in
      elim (ℕ_discrete k n) [
        | yes z ↦ rw z (ltb-true _ _ p.0, q.0)
        | no d ↦ fit-each pages n k q.1 (omega arith)
      ]
    where
      passed : (t u : Bool) → pick t false u ≡ true → (t ≡ false) × (u ≡ true)
      passed true u h = never h
      passed false u h = (refl, h)
