-- The map of free pages: its bits, bytes and count, step by step, and the whole answer.
-- Assumes nothing.
use mathlib.Core.Path.{◌≡◌, refl, sym, ap, ap₂, ◌∙◌}
use Prim.Native.Nat.{ℕ, zero, suc, ◌+◌, ◌-◌, ◌*◌, ◌/◌, ◌%◌, ◌^◌, ◌≤◌, ◌<◌}
use native.Mathlib.Nat.{pow-suc}
use native.Mathlib.Numerals.{add-one}
use native.Mathlib.Omega.{arith}
use mathlib.Core.List.{List, [], ◌∷◌, ◌++◌}
use mathlib.Core.Bool.{Bool, true, false}
use lib.Dec.{ltb, eqb}
use lib.ListN.{length, take, drop, set, get_or, take-append-drop}
use lib.Seq.{drop-cons, set_at, append_snoc, take-add, take_at, drop_at}
use lib.Count.{ones, ones_step, ones_cat, ones-le}
use lib.Pow.{pow_mono}
use borrow.Author.Tests.{lt-ltb, le-ltb, eq-eqb, ne_eqb}
use Rattle.endian.specs.Pick.{pick}
use Rattle.endian.specs.Numbers.{number_of, number_at, Bytes}
use Rattle.endian.proofs.Bytes.{bytes-nil, bytes-cons, bytes_take, bytes_drop, number-range}
use Rattle.page.specs.Layout.{page_bytes, free_type, pages_in, page_at, type_of}
use Rattle.refusals.specs.Verdict.{verdict}
use Rattle.page.specs.Fault.{verdict_of}
use Rattle.refusals.specs.declared.Verdict.{Verdict}
use Rattle.refusals.specs.declared.Refused.{Refused}
use Rattle.refusals.specs.Verdict.{told_by, told}
use Rattle.refusals.proofs.Told.{err-some, err-refused, ok-accepted}
use Rattle.std.specs.Prelude.{Result, Ok, Err}
use Rattle.page.specs.FreeMap.{free_bit, bits, map_bytes, ones_of, map_length, free_pages, map_verdict, map_after, free_count}
use Rattle.page.proofs.Reading.{type_at}

-- ---- a page's bit

module _ (s : List ℕ) (i : ℕ) where
  pub bit_past : pages_in s ≤ i → 0 ≡ free_bit s i
  unfolding free_bit
  bit_past l = simp (le-ltb _ _ l)

  module _ (l : i < pages_in s) where
    pub bit-free : get_or s (i * page_bytes + 8) 0 ≡ free_type → 1 ≡ free_bit s i
    unfolding free_bit
    bit-free e = simp (lt-ltb _ _ l, eq-eqb _ _ (type_at s i ∙ e))

    pub bit-other : (get_or s (i * page_bytes + 8) 0 ≡ free_type → ⊥) → 0 ≡ free_bit s i
    unfolding free_bit
    bit-other h = simp (lt-ltb _ _ l, ne_eqb _ _ (λ e. h (sym (type_at s i) ∙ e)))

module _ (s : List ℕ) where
  bit-small : (i : ℕ) → free_bit s i ≤ 1
  unfolding free_bit
  bit-small i = by_tests (ltb i (pages_in s)) (eqb (type_of (page_at i s)) free_type)
    where
      by_tests : (t u : Bool) → pick t (pick u 1 0) 0 ≤ 1
      by_tests true true = omega arith
      by_tests true false = omega arith
      by_tests false u = omega arith

  -- ---- a byte

  bits-lt : (n i : ℕ) → bits s n i < 2 ^ n
  unfolding bits
  bits-lt zero i = omega arith
  bits-lt (suc n) i = rw pow-suc (omega (arith, bit-small i, bits-lt n (suc i)))

  -- up to seven bits leave room for one more
  pub bits-seven : (n i : ℕ) → n ≤ 7 → bits s n i ≤ 127
  bits-seven n i l = omega (arith, bits-lt n i, pow_mono l)

  -- one bit more at the low end
  pub bits-more : (i j : ℕ) → 0 < j → j ≤ 8 → 2 * bits s (8 - j) (i + j) + free_bit s (i + (j - 1)) ≡ bits s (8 - (j - 1)) (i + (j - 1))
  unfolding bits
  bits-more i j l h =
      let e : 8 - (j - 1) ≡ suc (8 - j) = omega arith in
      let g : suc (i + (j - 1)) ≡ i + j = omega arith in
      rw (e, g) (omega arith)

  -- ---- bytes in a row

  length-bytes : (n i : ℕ) → length (map_bytes s n i) ≡ n
  unfolding map_bytes
  length-bytes zero i = refl
  length-bytes (suc n) i = ap suc (length-bytes n (i + 8))

  bytes-join : (m n i : ℕ) → map_bytes s (m + n) i ≡ map_bytes s m i ++ map_bytes s n (i + 8 * m)
  unfolding map_bytes
  bytes-join zero n i = let e : i + 8 * 0 ≡ i = omega arith in let z : 0 + n ≡ n = omega arith in rw (e, z)
  bytes-join (suc m) n i =
      let e : i + 8 * suc m ≡ i + 8 + 8 * m = omega arith in
      let z : suc m + n ≡ suc (m + n) = omega arith in
      rw (e, z) (ap (λ (l : List ℕ). bits s 8 i ∷ l) (bytes-join m n (i + 8)))

  -- a store of the next byte
  pub byte-stored : (d : List ℕ) (m : ℕ) → m < length d → set (map_bytes s m 0 ++ drop m d) m (bits s 8 (8 * m)) ≡ map_bytes s (m + 1) 0 ++ drop (m + 1) d
  unfolding map_bytes
  byte-stored d m l =
      let e : 0 + 8 * m ≡ 8 * m = omega arith in
      rw (bytes-join m 1 0, e, add-one m, drop-cons d m 0)
      (set_at (map_bytes s m 0) (get_or d m 0) (drop (suc m) d) (bits s 8 (8 * m)) m (length-bytes m 0) ∙ sym (append_snoc (map_bytes s m 0) (bits s 8 (8 * m)) (drop (suc m) d)))

  -- ---- the count

  -- a number of k bits has as many ones as there are free pages among its k
  ones-bits : (k i : ℕ) → ones (bits s k i) ≡ free_pages s k i
  unfolding bits free_pages ones
  ones-bits zero i = refl
  ones-bits (suc k) i =
      let b = bit-small i in
      let h : (free_bit s i + 2 * bits s k (suc i)) % 2 ≡ free_bit s i = omega arith in
      let q : (free_bit s i + 2 * bits s k (suc i)) / 2 ≡ bits s k (suc i) = omega arith in
      ones_step (free_bit s i + 2 * bits s k (suc i)) ∙ ap₂ (λ (x y : ℕ). x + ones y) h q ∙ ap (λ (x : ℕ). free_bit s i + x) (ones-bits k (suc i))

  pages-join : (m n i : ℕ) → free_pages s (m + n) i ≡ free_pages s m i + free_pages s n (i + m)
  unfolding free_pages
  pages-join zero n i = let e : i + 0 ≡ i = omega arith in let z : 0 + n ≡ n = omega arith in rw (e, z) (omega arith)
  pages-join (suc m) n i =
      let e : i + suc m ≡ suc i + m = omega arith in
      let z : suc m + n ≡ suc (m + n) = omega arith in
      rw (e, z) (omega (arith, pages-join m n (suc i)))

  ones-bytes : (n i : ℕ) → ones_of (map_bytes s n i) ≡ free_pages s (8 * n) i
  unfolding ones_of map_bytes free_pages
  ones-bytes zero i = let e : 8 * 0 ≡ 0 = omega arith in rw e refl
  ones-bytes (suc n) i =
      let e : 8 * suc n ≡ 8 + 8 * n = omega arith in
      rw (ones-bits 8 i, ones-bytes n (i + 8), e) (sym (pages-join 8 (8 * n) i))

  -- no page is free behind the last
  pages-past : (n i : ℕ) → pages_in s ≤ i → free_pages s n i ≡ 0
  unfolding free_pages
  pages-past zero i l = refl
  pages-past (suc n) i l = omega (arith, bit_past s i l, pages-past n (suc i) (omega arith))

  -- the ones of the finished map are the free pages
  pub map-ones : ones_of (map_bytes s (map_length s) 0) ≡ free_pages s (pages_in s) 0
  map-ones =
      let e : 8 * map_length s ≡ pages_in s + (8 * map_length s - pages_in s) = omega arith in
      ones-bytes (map_length s) 0 ∙ ap (λ (n : ℕ). free_pages s n 0) e ∙ pages-join (pages_in s) (8 * map_length s - pages_in s) 0
      ∙ omega (arith, pages-past (8 * map_length s - pages_in s) (0 + pages_in s) (omega arith))

-- ---- the ones of bytes

ones-join : (a b : List ℕ) → ones_of (a ++ b) ≡ ones_of a + ones_of b
unfolding ones_of
ones-join [] b = omega arith
ones-join (x ∷ a) b = rw (ones-join a b) (omega arith)

-- bytes read as one number have the ones of the bytes
pub ones-number : (l : List ℕ) → Bytes l → ones (number_of l) ≡ ones_of l
unfolding ones_of number_of ones
ones-number [] b = refl
ones-number (x ∷ l) b =
    let e : x + 256 * number_of l ≡ number_of l * 2 ^ 8 + x = omega arith in
    ap ones e ∙ ones_cat 8 (number_of l) x (b.at 0) ∙ ap (λ (n : ℕ). n + ones x) (ones-number l (record { at = λ i. b.at (suc i) })) ∙ omega arith

module _ (s : List ℕ) where
  bytes-map : (n i : ℕ) → Bytes (map_bytes s n i)
  unfolding map_bytes
  bytes-map zero i = bytes-nil
  bytes-map (suc n) i = bytes-cons (bits-lt s 8 i) (bytes-map n (i + 8))

  -- a step of eight bytes of the map gives the ones among their 64 bits: the free pages among the 64 from page 8 * i on
  pub ones-step-8 : (n i : ℕ) → i + 8 ≤ n → ones (number_at 8 i (map_bytes s n 0)) ≡ free_pages s 64 (8 * i)
  unfolding number_at
  ones-step-8 n i l =
      let e : n ≡ i + (8 + (n - (i + 8))) = omega arith in
      let z : 0 + 8 * i ≡ 8 * i = omega arith in
      let m = map_bytes s (n - (i + 8)) (8 * i + 8 * 8) in
      let d : drop i (map_bytes s n 0) ≡ map_bytes s 8 (8 * i) ++ m =
      ap (λ (k : ℕ). drop i (map_bytes s k 0)) e ∙ ap (drop i) (bytes-join s i (8 + (n - (i + 8))) 0) ∙ drop_at (map_bytes s i 0) _ i (length-bytes s i 0)
      ∙ ap (map_bytes s (8 + (n - (i + 8)))) z ∙ bytes-join s 8 (n - (i + 8)) (8 * i) in
      let t = ap (take 8) d ∙ take_at (map_bytes s 8 (8 * i)) m 8 (length-bytes s 8 (8 * i)) in
      ap (λ (k : List ℕ). ones (number_of k)) t ∙ ones-number (map_bytes s 8 (8 * i)) (bytes-map 8 (8 * i)) ∙ ones-bytes s 8 (8 * i)

module _ {s : List ℕ} (b : Bytes s) where
  -- a step over w bytes
  pub ones-next : (w i n : ℕ) → n ≡ ones_of (take i s) → n + ones (number_at w i s) ≡ ones_of (take (i + w) s)
  unfolding number_at
  ones-next w i n e = rw (e, take-add i w s, ones-join (take i s) (take w (drop i s)), ones-number (take w (drop i s)) (bytes_take w (bytes_drop i b)))

  pub word_small : (i : ℕ) → ones (number_at 8 i s) ≤ 64
  word_small i = ones-le 64 (number_at 8 i s) (number-range 8 i b)

  -- and the bytes that are left
  pub ones-last : (i n : ℕ) → n ≡ ones_of (take i s) → n + ones (number_of (drop i s)) ≡ ones_of s
  ones-last i n e =
      rw (e, ones-number (drop i s) (bytes_drop i b)) (sym (ones-join (take i s) (drop i s)) ∙ ap ones_of (take-append-drop i s))

-- ---- the whole answer

-- an answer and what the map then holds are the right ones
abbrev pub Mapped : ℕ → List ℕ → List ℕ → Result ℕ Verdict → List ℕ → Type 0
Mapped magic s map a after = (a ≡ free_count magic s map) × (after ≡ map_after magic s map)

pub map-refused : (magic : ℕ) (s map : List ℕ) → ((verdict_of magic s).number ≡ 0 → ⊥) → Mapped magic s map (Err (verdict_of magic s)) map
unfolding map_verdict free_count map_after
map-refused magic s map h = let e = ne_eqb (verdict_of magic s).number 0 h in (rw (e, e), rw (e, e))

module _ (magic : ℕ) (s map : List ℕ) {r : Result Unit Refused} (verified : told r ≡ verdict_of magic s) where
  pub map-err : {e : Refused} → r ≡ Err e → Mapped magic s map (Err (told_by e)) map
  map-err q =
      let f = map-refused magic s map (err-some verified q) in
      (ap Err (err-refused verified q) ∙ f.0, f.1)

  module _ {u : Unit} (q : r ≡ Ok u) where
    pub map-short : length map < map_length s → Mapped magic s map (Err (verdict 16 0)) map
    unfolding map_verdict free_count map_after
    map-short l =
        let e = eq-eqb (verdict_of magic s).number 0 (ok-accepted verified q) in
        let g = lt-ltb _ _ l in
        (rw (e, g), rw (e, g))

    -- the count is read off the finished map
    pub map-filled : map_length s ≤ length map
        → (let after = map_bytes s (map_length s) 0 ++ drop (map_length s) map in Mapped magic s map (Ok (ones_of (take (map_length s) after))) after)
    unfolding map_verdict free_count map_after
    map-filled l =
        let e = eq-eqb (verdict_of magic s).number 0 (ok-accepted verified q) in
        let g = le-ltb _ _ l in
        let t = take_at (map_bytes s (map_length s) 0) (drop (map_length s) map) (map_length s) (length-bytes s (map_length s) 0) in
        (rw (e, g) (ap Ok (ap ones_of t ∙ map-ones s)), rw (e, g))
