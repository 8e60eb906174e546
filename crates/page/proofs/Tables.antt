-- The list of the first n values of a function: its length, its elements, and one more at its end.
-- Assumes nothing.
use mathlib.Core.Path.{◌≡◌, refl, ap, ◌∙◌}
use Prim.Native.Nat.{ℕ, zero, suc, ◌+◌, ◌≤◌, ◌<◌}
use native.Mathlib.Omega.{arith}
use mathlib.Core.List.{List, [], ◌∷◌, ◌++◌}
use lib.ListN.{length, get_or}
use Rattle.page.specs.Packed.{tuple_bytes, tab}

pub length-tab : (n : ℕ) (f : ℕ → List ℕ) → length (tab n f) ≡ n
length-tab zero f = refl
length-tab (suc n) f = ap suc (length-tab n (λ k. f (suc k)))

pub get_d-tab : (n : ℕ) (f : ℕ → List ℕ) (k : ℕ) → k < n → get_or (tab n f) k [] ≡ f k
get_d-tab zero f k l = absurd (omega arith)
get_d-tab (suc n) f zero l = refl
get_d-tab (suc n) f (suc k) l = get_d-tab n (λ j. f (suc j)) k (omega arith)

pub tab-snoc : (n : ℕ) (f : ℕ → List ℕ) → tab (suc n) f ≡ tab n f ++ (f n ∷ [])
tab-snoc zero f = refl
tab-snoc (suc n) f = ap (λ r. f zero ∷ r) (tab-snoc n (λ k. f (suc k)))

pub tuple_bytes-snoc : (ss : List (List ℕ)) (t : List ℕ) → tuple_bytes (ss ++ (t ∷ [])) ≡ tuple_bytes ss + length t
tuple_bytes-snoc [] t = omega arith
tuple_bytes-snoc (s ∷ ss) t = omega (arith, tuple_bytes-snoc ss t)

pub tab-bytes : (k : ℕ) (f : ℕ → List ℕ) → tuple_bytes (tab (suc k) f) ≡ tuple_bytes (tab k f) + length (f k)
tab-bytes k f = ap tuple_bytes (tab-snoc k f) ∙ tuple_bytes-snoc (tab k f) (f k)

pub tab-bytes-le : (k n : ℕ) (f : ℕ → List ℕ) → k ≤ n → tuple_bytes (tab k f) ≤ tuple_bytes (tab n f)
tab-bytes-le zero n f h = omega arith
tab-bytes-le (suc k) zero f h = absurd (omega arith)
tab-bytes-le (suc k) (suc n) f h = omega (arith, tab-bytes-le k n (λ j. f (suc j)) (omega arith))
