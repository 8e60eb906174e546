-- The register over a function's bytes: laws of `over`, each by one induction.
-- Assumes nothing.
use mathlib.Core.Path.{◌≡◌, refl, sym, ap, ◌∙◌}
use mathlib.Core.List.{List, [], ◌∷◌}
use Prim.Native.Nat.{ℕ, zero, suc, ◌+◌, ◌*◌, ◌<◌}
use native.Mathlib.Nat.{zero-add, suc-add}
use native.Mathlib.Omega.{arith}
use lib.Bits.{bit_xor, xor_zero_r}
use lib.ListN.{length, get_or}
use Rattle.crc32c.specs.Crc.{shifts, fed}
use Rattle.crc32c.specs.Sparse.{over}
use Rattle.crc32c.proofs.Xor.{xor4}
use Rattle.crc32c.proofs.Shifts.{shifts-xor, shifts-add, shifts-zero}

pub over-same : (n c : ℕ) (f g : ℕ → ℕ) → ((j : ℕ) → j < n → f j ≡ g j) → over c f n ≡ over c g n
unfolding over
over-same zero c f g h = refl
over-same (suc n) c f g h =
    over-same n (shifts 8 (bit_xor c (f 0))) (λ j. f (suc j)) (λ j. g (suc j)) (λ j l. h (suc j) (omega arith))
    ∙ ap (λ (x : ℕ). over (shifts 8 (bit_xor c x)) (λ j. g (suc j)) n) (h 0 (omega arith))

pub over-xor : (n a b : ℕ) (f g : ℕ → ℕ) → over (bit_xor a b) (λ j. bit_xor (f j) (g j)) n ≡ bit_xor (over a f n) (over b g n)
unfolding over
over-xor zero a b f g = refl
over-xor (suc n) a b f g =
    ap (λ (x : ℕ). over x (λ j. bit_xor (f (suc j)) (g (suc j))) n)
    (ap (shifts 8) (xor4 a b (f 0) (g 0)) ∙ shifts-xor 8 (bit_xor a (f 0)) (bit_xor b (g 0)))
    ∙ over-xor n (shifts 8 (bit_xor a (f 0))) (shifts 8 (bit_xor b (g 0))) (λ j. f (suc j)) (λ j. g (suc j))

pub over_add : (m n c : ℕ) (f : ℕ → ℕ) → over c f (m + n) ≡ over (over c f m) (λ j. f (m + j)) n
unfolding over
over_add zero n c f =
    ap (over c f) (zero-add n) ∙ over-same n c f (λ j. f (0 + j)) (λ j l. ap f (sym (zero-add j)))
over_add (suc m) n c f =
    ap (over c f) (suc-add m n) ∙ over_add m n (shifts 8 (bit_xor c (f 0))) (λ j. f (suc j))
    ∙ over-same n (over c f (suc m)) (λ j. f (suc (m + j))) (λ j. f (suc m + j)) (λ j l. ap f (sym (suc-add m j)))

pub over_none : (n c : ℕ) → over c (λ j. 0) n ≡ shifts (8 * n) c
unfolding over shifts
over_none zero c = refl
over_none (suc n) c =
    let e : 8 + 8 * n ≡ 8 * suc n = omega arith in
    ap (λ (x : ℕ). over (shifts 8 x) (λ j. 0) n) (xor_zero_r c) ∙ over_none n (shifts 8 c)
    ∙ sym (shifts-add 8 (8 * n) c) ∙ ap (λ (x : ℕ). shifts x c) e

pub over-fed : (l : List ℕ) (c : ℕ) → over c (λ j. get_or l j 0) (length l) ≡ fed c l
unfolding over fed
over-fed [] c = refl
over-fed (b ∷ l) c = over-fed l (shifts 8 (bit_xor c b))

-- from a register, or from 0
pub over-from : (n c : ℕ) (f : ℕ → ℕ) → over c f n ≡ bit_xor (shifts (8 * n) c) (over 0 f n)
over-from n c f =
    ap (λ (x : ℕ). over x f n) (sym (xor_zero_r c)) ∙ over-xor n c 0 (λ j. 0) f
    ∙ ap (λ (x : ℕ). bit_xor x (over 0 f n)) (over_none n c)

pub fed-from : (c : ℕ) (l : List ℕ) → fed c l ≡ bit_xor (shifts (8 * length l) c) (fed 0 l)
fed-from c l =
    sym (over-fed l c) ∙ over-from (length l) c (λ j. get_or l j 0) ∙ ap (bit_xor (shifts (8 * length l) c)) (over-fed l 0)

-- zero bytes before leave 0
pub over-late : (d n : ℕ) (f : ℕ → ℕ) → ((j : ℕ) → j < d → f j ≡ 0) → over 0 f (d + n) ≡ over 0 (λ j. f (d + j)) n
over-late d n f h =
    over_add d n 0 f
    ∙ ap (λ (x : ℕ). over x (λ j. f (d + j)) n) (over-same d 0 f (λ j. 0) h ∙ over_none d 0 ∙ shifts-zero (8 * d))

-- zero bytes behind shift
pub over-end : (n m c : ℕ) (f : ℕ → ℕ) → ((j : ℕ) → f (n + j) ≡ 0) → over c f (n + m) ≡ shifts (8 * m) (over c f n)
over-end n m c f h =
    over_add n m c f ∙ over-same m (over c f n) (λ j. f (n + j)) (λ j. 0) (λ j l. h j) ∙ over_none m (over c f n)
