-- Equal runs of bytes, told eight bytes at a time; and a tuple that is to be stamped. Assumes nothing.
use Prim.Native.Nat.{ℕ, ◌+◌, ◌^◌, ◌-◌, ◌≤◌, ◌<◌}
use mathlib.Core.Path.{◌≡◌, refl, sym, ap, ap₂, ◌∙◌}
use mathlib.Core.Bool.{false}
use mathlib.Core.List.{List, [], ◌∷◌, ◌++◌}
use native.Mathlib.Omega.{arith}
use native.Mathlib.Decide.{ℕ_discrete}
use lib.ListN.{length, get_or, take, drop, length-drop, take-append-drop}
use lib.Seq.{drop-drop, drop-cons, take_all, length-take-le}
use lib.Dec.{eqb}
use borrow.Author.Tests.{eq-eqb, ne_eqb}
use Rattle.endian.specs.Numbers.{part, number_of, number_at, bytes_of, Bytes}
use Rattle.endian.proofs.Numbers.{length-bytes_of, number-back}
use Rattle.endian.proofs.Places.{number-byte}
use Rattle.endian.proofs.Bytes.{bytes_take, bytes_drop, bytes-of}
use Rattle.page.specs.Layout.{xmin_of, xmax_of, deleted_of}
use Rattle.rules.specs.Shape.{same, stamped}
use Rattle.rules.proofs.ImageLaws.{stamped-deleted}
use Rattle.change.proofs.Shapes.{same_refl, same_false}
use Rattle.recovery.proofs.Heads.{stamped-xmin, stamped-xmax}

-- a list of bytes is told by its number and its length
number-tells : (l m : List ℕ) → Bytes l → Bytes m → length l ≡ length m → number_of l ≡ number_of m → l ≡ m
unfolding number_of
number-tells [] [] h k e q = refl
number-tells [] (y ∷ m) h k e q = absurd (omega arith)
number-tells (x ∷ l) [] h k e q = absurd (omega arith)
number-tells (x ∷ l) (y ∷ m) h k e q =
    let a : x < 256 = h.at 0 in
    let b : y < 256 = k.at 0 in
    let front : x ≡ y = omega arith in
    let rest : number_of l ≡ number_of m = omega arith in
    ap₂ (λ (z : ℕ) (n : List ℕ). z ∷ n) front (number-tells l m (bytes_drop 1 h) (bytes_drop 1 k) (omega arith) rest)

-- what stands before is the same
pub same-front : (x l m : List ℕ) → same (x ++ l) (x ++ m) ≡ same l m
unfolding same
same-front [] l m = refl
same-front (y ∷ x) l m = rw (eq-eqb y y refl) (same-front x l m)

pub same-lengths : (a b : List ℕ) → (length a ≡ length b → ⊥) → false ≡ same a b
same-lengths a b n = sym (same_false a b (λ q. n (ap length q)))

split_at : (i w : ℕ) (a : List ℕ) → drop i a ≡ part i w a ++ drop (i + w) a
split_at i w a = sym (take-append-drop w (drop i a)) ∙ ap (◌++◌ (part i w a)) (drop-drop w i a)

pub part-long : (i w : ℕ) (a : List ℕ) → i + w ≤ length a → length (part i w a) ≡ w
part-long i w a h = length-take-le w (drop i a) (rw (length-drop i a) (omega arith))

-- `&l[n..]`
pub rest_part : (n : ℕ) (l : List ℕ) → take (length l - n) (drop n l) ≡ drop n l
rest_part n l = take_all (length l - n) (drop n l) (rw (length-drop n l) (omega arith))

-- equal numbers are equal bytes
pub part-tells : (w i j : ℕ) {a b : List ℕ} → Bytes a → Bytes b → i + w ≤ length a → j + w ≤ length b → number_at w i a ≡ number_at w j b → part i w a ≡ part j w b
unfolding number_at
part-tells w i j {a} {b} x y h k e =
    number-tells (part i w a) (part j w b) (bytes_take w (bytes_drop i x)) (bytes_take w (bytes_drop j y)) (part-long i w a h ∙ sym (part-long j w b k)) e

module _ {a b : List ℕ} (x : Bytes a) (y : Bytes b) (len : length a ≡ length b) (i : ℕ) where
  -- eight bytes that are the same
  pub same-past : i + 8 ≤ length a → number_at 8 i a ≡ number_at 8 i b → same (drop i a) (drop i b) ≡ same (drop (i + 8) a) (drop (i + 8) b)
  same-past h e =
      rw (split_at i 8 a, split_at i 8 b, part-tells 8 i i x y h (omega arith) e) (same-front (part i 8 b) (drop (i + 8) a) (drop (i + 8) b))

  pub same_not : (number_at 8 i a ≡ number_at 8 i b → ⊥) → same (drop i a) (drop i b) ≡ false
  unfolding number_at
  same_not n = same_false (drop i a) (drop i b) (λ q. n (ap (λ (l : List ℕ). number_of (take 8 l)) q))

  -- the rest
  pub same_rest : eqb (number_of (drop i a)) (number_of (drop i b)) ≡ same (drop i a) (drop i b)
  same_rest =
      elim (ℕ_discrete (number_of (drop i a)) (number_of (drop i b))) [
        | yes q ↦ eq-eqb _ _ q ∙ sym (ap (same (drop i a)) (sym (number-tells (drop i a) (drop i b) (bytes_drop i x) (bytes_drop i y) (length-drop i a ∙ lens ∙ sym (length-drop i b)) q)) ∙ same_refl (drop i a))
        | no n ↦ ne_eqb _ _ n ∙ sym (same_false (drop i a) (drop i b) (λ q. n (ap number_of q)))
      ]
    where
      lens : length a - i ≡ length b - i
      lens = omega arith

-- ---- a tuple t that is to be stamped, beside u

module _ (t u : List ℕ) (x : ℕ) (bt : Bytes t) (bu : Bytes u) (long : 24 ≤ length t) (len : length t ≡ length u) (small : x < 2 ^ 64) where
  differs : (stamped x t ≡ u → ⊥) → false ≡ same (stamped x t) u
  differs n = sym (same_false (stamped x t) u n)

  pub stamped-front : (number_at 8 0 t ≡ number_at 8 0 u → ⊥) → false ≡ same (stamped x t) u
  stamped-front n = differs (λ q. n (sym (stamped-xmin x t long) ∙ ap xmin_of q))

  pub stamped-by : (number_at 8 8 u ≡ x → ⊥) → false ≡ same (stamped x t) u
  stamped-by n = differs (λ q. n (sym (ap xmax_of q) ∙ stamped-xmax x t long small))

  pub stamped-mark : (get_or u 16 0 ≡ 1 → ⊥) → false ≡ same (stamped x t) u
  stamped-mark n = differs (λ q. n (sym (number-byte 16 u) ∙ sym (ap deleted_of q) ∙ stamped-deleted x t long))

  -- u by its fields
  fields : u ≡ part 0 8 u ++ (part 8 8 u ++ (get_or u 16 0 ∷ drop 17 u))
  fields = split_at 0 8 u ∙ ap (◌++◌ (part 0 8 u)) (split_at 8 8 u ∙ ap (◌++◌ (part 8 8 u)) (drop-cons u 16 0 (omega arith)))

  named : number_at 8 8 u ≡ x → part 8 8 u ≡ bytes_of 8 x
  unfolding number_at
  named e =
      number-tells (part 8 8 u) (bytes_of 8 x) (bytes_take 8 (bytes_drop 8 bu)) (bytes-of 8 x) (part-long 8 8 u (omega arith) ∙ sym (length-bytes_of 8 x)) (e ∙ sym (number-back 8 x small))

  pub stamped-rest : number_at 8 0 t ≡ number_at 8 0 u → number_at 8 8 u ≡ x → get_or u 16 0 ≡ 1 → same (drop 17 t) (drop 17 u) ≡ same (stamped x t) u
  unfolding stamped
  stamped-rest e f g =
      sym (ap (same (stamped x t)) (fields ∙ whole)
      ∙ same-front (part 0 8 t) (bytes_of 8 x ++ (1 ∷ drop 17 t)) (bytes_of 8 x ++ (1 ∷ drop 17 u))
      ∙ same-front (bytes_of 8 x) (1 ∷ drop 17 t) (1 ∷ drop 17 u)
      ∙ same-front (1 ∷ []) (drop 17 t) (drop 17 u))
    where
      whole : part 0 8 u ++ (part 8 8 u ++ (get_or u 16 0 ∷ drop 17 u)) ≡ part 0 8 t ++ (bytes_of 8 x ++ (1 ∷ drop 17 u))
      whole = rw (← part-tells 8 0 0 bt bu (omega arith) (omega arith) e, named f, g)
