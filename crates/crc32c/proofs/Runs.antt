-- The register over runs of bytes: pieces give the whole, and a run goes in as one number.
-- Assumes nothing.
use mathlib.Core.Path.{◌≡◌, refl, sym, ap, ap₂, ◌∙◌, subst}
use mathlib.Core.List.{List, [], ◌∷◌, ◌++◌, append-nil}
use Prim.Native.Nat.{ℕ, zero, suc, ◌+◌, ◌*◌, ◌/◌, ◌≤◌, ◌<◌}
use native.Mathlib.Nat.{zero-add, suc-add, zero-mul, suc-mul, mul-le-mul_right, div-mul-le_self}
use native.Mathlib.Numerals.{add-one}
use native.Mathlib.Omega.{arith}
use lib.Bits.{bit_xor, xor_comm, xor_zero_r, xor_shifted}
use lib.ListN.{length, get_or, take, drop, take-append-drop, length-drop, drop_of_length-le}
use lib.Seq.{drop-cons, length-take-le, drop-drop, take-nil, take_all}
use Rattle.std.specs.Simd.{first_chunks}
use Rattle.endian.specs.Numbers.{Bytes, number_of, number_at}
use Rattle.endian.proofs.Bytes.{bytes_take, bytes_drop}
use Rattle.crc32c.specs.Crc.{shifts, fed, start, finished, crc32c}
use Rattle.crc32c.proofs.Xor.{xor_assoc}
use Rattle.crc32c.proofs.Shifts.{shifts-xor, shifts-out, shifts-add}
use Rattle.crc32c.proofs.Over.{fed-from}

-- pieces give the whole
pub fed-append : (c : ℕ) (bs cs : List ℕ) → fed c (bs ++ cs) ≡ fed (fed c bs) cs
unfolding fed
fed-append c [] cs = refl
fed-append c (b ∷ bs) cs = fed-append (shifts 8 (bit_xor c b)) bs cs

pub crc-append : (bs cs : List ℕ) → crc32c (bs ++ cs) ≡ finished (fed (fed start bs) cs)
unfolding crc32c
crc-append bs cs = ap finished (fed-append start bs cs)

-- a run of bytes as one number, of any digits
unfoldable pub word : List ℕ → ℕ
word [] = 0
word (b ∷ bs) = bit_xor (word bs * 256) b

pub word_number : {bs : List ℕ} → Bytes bs → word bs ≡ number_of bs
unfolding word number_of
word_number {bs = []} h = refl
word_number {bs = b ∷ bs} h =
    let t : Bytes bs = record { at = λ i. h.at (suc i) } in
    xor_shifted (word bs) 8 b (h.at 0) ∙ omega (arith, word_number t)

-- a run of bytes goes in as one number
pub run : (bs rest : List ℕ) (c : ℕ) → fed c (bs ++ rest) ≡ fed (shifts (8 * length bs) (bit_xor c (word bs))) rest
unfolding fed word shifts
run [] rest c = ap (λ (x : ℕ). fed x rest) (sym (xor_zero_r c))
run (b ∷ bs) rest c = run bs rest _ ∙ ap (λ (x : ℕ). fed x rest) (in_one b bs c)
  where
    in_one : (b : ℕ) (bs : List ℕ) (c : ℕ)
        → shifts (8 * length bs) (bit_xor (shifts 8 (bit_xor c b)) (word bs)) ≡ shifts (8 * suc (length bs)) (bit_xor c (bit_xor (word bs * 256) b))
    in_one b bs c =
        let e : 8 + 8 * length bs ≡ 8 * suc (length bs) = omega arith in
        ap (λ (y : ℕ). shifts (8 * length bs) (bit_xor (shifts 8 (bit_xor c b)) y)) (sym (shifts-out 8 (word bs)))
        ∙ ap (shifts (8 * length bs)) (sym (shifts-xor 8 (bit_xor c b) (word bs * 256)))
        ∙ ap (λ (y : ℕ). shifts (8 * length bs) (shifts 8 y)) (xor_assoc c b (word bs * 256) ∙ ap (bit_xor c) (xor_comm b (word bs * 256)))
        ∙ sym (shifts-add 8 (8 * length bs) (bit_xor c (bit_xor (word bs * 256) b)))
        ∙ ap (λ (k : ℕ). shifts k (bit_xor c (bit_xor (word bs * 256) b))) e

-- ---- a step: the sum of what its parts leave, each by itself

pub part_length : (s : List ℕ) (i n : ℕ) → i + n ≤ length s → length (take n (drop i s)) ≡ n
part_length s i n h = length-take-le n (drop i s) (simp length-drop (omega arith))

-- the n bytes at i, and the w bytes behind them
parts : (s : List ℕ) (i n w : ℕ) → take n (drop i s) ++ take w (drop (i + n) s) ≡ take (n + w) (drop i s)
parts s i n w = ap (λ (l : List ℕ). take n (drop i s) ++ take w l) (sym (drop-drop n i s)) ∙ take-add n w (drop i s)
  where
    take-add : (n w : ℕ) (l : List ℕ) → take n l ++ take w (drop n l) ≡ take (n + w) l
    take-add zero w l = ap (λ (m : ℕ). take m l) (sym (zero-add w))
    take-add (suc n) w [] = take-nil w ∙ sym (take-nil (suc n + w))
    take-add (suc n) w (x ∷ l) = ap (λ (m : List ℕ). x ∷ m) (take-add n w l) ∙ ap (λ (m : ℕ). take m (x ∷ l)) (sym (suc-add n w))

-- n bytes at i and w bytes behind them, at m: what the first leave after w and k more, and what the second leave after k more
pub join : (s : List ℕ) (i m n w k j c x y : ℕ) → m ≡ i + n → j ≡ k + w → m + w ≤ length s → y ≡ shifts (8 * k) (fed 0 (take w (drop m s)))
    → x ≡ shifts (8 * j) (fed c (take n (drop i s))) → bit_xor y x ≡ shifts (8 * k) (fed c (take (n + w) (drop i s)))
join s i m n w k j c x y em ej h ey ex =
    let a = take n (drop i s) in
    let b = take w (drop m s) in
    let lb : length b ≡ w = part_length s m w h in
    let e : 8 * j ≡ 8 * length b + 8 * k = omega arith in
    xor_comm y x
    ∙ ap₂ bit_xor (ex ∙ ap (λ (z : ℕ). shifts z (fed c a)) e ∙ shifts-add (8 * length b) (8 * k) (fed c a)) ey
    ∙ sym (shifts-xor (8 * k) (shifts (8 * length b) (fed c a)) (fed 0 b))
    ∙ ap (shifts (8 * k))
    (sym (fed-from (fed c a) b) ∙ sym (fed-append c a b) ∙ ap (λ (z : ℕ). fed c (a ++ take w (drop z s))) em ∙ ap (fed c) (parts s i n w))

-- one byte
pub single : (s : List ℕ) (i k : ℕ) → i < length s → shifts (8 * (k + 1)) (get_or s i 0) ≡ shifts (8 * k) (fed 0 (take 1 (drop i s)))
unfolding fed
single s i k h =
    let e : 8 * (k + 1) ≡ 8 + 8 * k = omega arith in
    ap (λ (m : ℕ). shifts m (get_or s i 0)) e ∙ shifts-add 8 (8 * k) (get_or s i 0)
    ∙ ap (λ (l : List ℕ). shifts (8 * k) (fed 0 (take 1 l))) (sym (drop-cons s i 0 h))

-- w bytes as one number, with the register before them
pub run_at : (s : List ℕ) (i w k c : ℕ) → Bytes s → i + w ≤ length s
    → shifts (8 * (k + w)) (bit_xor c (number_at w i s)) ≡ shifts (8 * k) (fed c (take w (drop i s)))
unfolding number_at fed
run_at s i w k c b h =
    let a = take w (drop i s) in
    let la : length a ≡ w = part_length s i w h in
    let e : 8 * (k + w) ≡ 8 * length a + 8 * k = omega arith in
    ap (λ (m : ℕ). shifts m (bit_xor c (number_of a))) e ∙ shifts-add (8 * length a) (8 * k) (bit_xor c (number_of a))
    ∙ ap (shifts (8 * k))
    (ap (λ (x : ℕ). shifts (8 * length a) (bit_xor c x)) (sym (word_number (bytes_take w (bytes_drop i b))))
    ∙ sym (run a [] c) ∙ ap (fed c) (append-nil a))

-- the byte at i
pub byte_at : (i c : ℕ) (s : List ℕ) → i < length s → fed (shifts 8 (bit_xor c (get_or s i 0))) (drop (i + 1) s) ≡ fed c (drop i s)
unfolding fed
byte_at i c s h = sym (rw (add-one, drop-cons s i 0))

-- at the end
pub at-end : (i c : ℕ) (s : List ℕ) → length s ≤ i → c ≡ fed c (drop i s)
unfolding fed
at-end i c s h = rw (drop_of_length-le s h)

-- all of the n bytes of s
pub all : (s : List ℕ) (n c r : ℕ) → length s ≡ n → r ≡ shifts 0 (fed c (take n (drop 0 s))) → r ≡ fed c s
unfolding shifts
all s n c r h e = e ∙ ap (fed c) (take_all n s (omega arith))

-- the steps of the code, from the sums of their parts
pub step-2 : (s : List ℕ) (c r : ℕ) → Bytes s → length s ≡ 2 → r ≡ shifts 16 (bit_xor c (number_at 2 0 s)) → r ≡ fed c s
step-2 s c r b h e = all s 2 c r h (e ∙ run_at s 0 2 0 c b (omega arith))

pub step-4 : (s : List ℕ) (c r : ℕ) → length s ≡ 4 → r ≡ shifts 0 (fed c (take 4 (drop 0 s))) → r ≡ fed c s
step-4 s c r h e = all s 4 c r h e

pub step-8 : (s : List ℕ) (c x y : ℕ) → length s ≡ 8 → y ≡ shifts 0 (fed 0 (take 4 (drop 4 s))) → x ≡ shifts 32 (fed c (take 4 (drop 0 s)))
    → bit_xor y x ≡ fed c s
step-8 s c x y h ey ex = all s 8 c (bit_xor y x) h (join s 0 4 4 4 0 4 c x y refl refl (omega arith) ey ex)

pub step-16 : (s : List ℕ) (c x y₁ y₂ y₃ : ℕ) → length s ≡ 16 → y₃ ≡ shifts 0 (fed 0 (take 4 (drop 12 s))) → y₂ ≡ shifts 32 (fed 0 (take 4 (drop 8 s)))
    → y₁ ≡ shifts 64 (fed 0 (take 4 (drop 4 s))) → x ≡ shifts 96 (fed c (take 4 (drop 0 s)))
    → bit_xor (bit_xor (bit_xor y₃ y₂) y₁) x ≡ fed c s
step-16 s c x y₁ y₂ y₃ h e₃ e₂ e₁ ex =
    all s 16 c (bit_xor (bit_xor (bit_xor y₃ y₂) y₁) x) h
    (join s 0 4 4 12 0 12 c x (bit_xor (bit_xor y₃ y₂) y₁) refl refl (omega arith)
    (join s 4 8 4 8 0 8 0 y₁ (bit_xor y₃ y₂) refl refl (omega arith)
    (join s 8 12 4 4 0 4 0 y₂ y₃ refl refl (omega arith) e₃ e₂) e₁) ex)

-- ---- a loop over the pieces of n bytes

piece_at : (n k count : ℕ) (s : List ℕ) → k < count → get_or (first_chunks n count s) k [] ≡ take n (drop (k * n) s)
piece_at n k zero s h = absurd (omega arith)
piece_at n zero (suc count) s h = ap (λ (m : ℕ). take n (drop m s)) (sym (zero-mul n))
piece_at n (suc k) (suc count) s h =
    let e : n + k * n ≡ suc k * n = omega (arith, suc-mul k n) in
    piece_at n k count (drop n s) (omega arith) ∙ ap (take n) (drop-drop (k * n) n s ∙ ap (λ (m : ℕ). drop m s) e)

module _ (n k : ℕ) (s : List ℕ) (ps : List (List ℕ)) (front : ps ≡ first_chunks n (length s / n) s) (count : length ps ≡ length s / n) (h : k < length ps) where
  piece_is : get_or ps k [] ≡ take n (drop (k * n) s)
  piece_is = ap (λ (x : List (List ℕ)). get_or x k []) front ∙ piece_at n k (length s / n) s (omega arith)

  pub piece_length : length (get_or ps k []) ≡ n
  piece_length =
      let r : suc k * n ≤ length s / n * n = mul-le-mul_right n (omega arith) in
      ap length piece_is ∙ part_length s (k * n) n (omega (arith, suc-mul k n, div-mul-le_self (length s) n, r))

  pub piece_bytes : Bytes s → Bytes (get_or ps k [])
  piece_bytes b = subst Bytes (sym piece_is) (bytes_take n (bytes_drop (k * n) b))

  -- it stands before what follows it
  pub piece_rest : get_or ps k [] ++ drop ((k + 1) * n) s ≡ drop (k * n) s
  piece_rest =
      let e : k * n + n ≡ (k + 1) * n = omega (arith, suc-mul k n) in
      ap (λ (x : List ℕ). x ++ drop ((k + 1) * n) s) piece_is
      ∙ ap (λ (x : List ℕ). take n (drop (k * n) s) ++ x) (sym (drop-drop n (k * n) s ∙ ap (λ (m : ℕ). drop m s) e)) ∙ take-append-drop n (drop (k * n) s)

  -- a turn takes one piece more
  pub by_pieces : (c r : ℕ) → r ≡ fed c (get_or ps k []) → fed r (drop ((k + 1) * n) s) ≡ fed c (drop (k * n) s)
  by_pieces c r e =
      ap (λ (y : ℕ). fed y (drop ((k + 1) * n) s)) e ∙ sym (fed-append c (get_or ps k []) (drop ((k + 1) * n) s)) ∙ ap (fed c) piece_rest
