-- Runs that the sparse multiple shortens: a chunk goes into the history behind it, and the register of what is left is the same.
-- Assumes nothing.
use mathlib.Core.Path.{◌≡◌, refl, sym, ap, ap₂, ◌∙◌, subst}
use mathlib.Core.List.{List, [], ◌++◌, append-nil}
use Prim.Native.Nat.{ℕ, ◌+◌, ◌*◌, ◌/◌, ◌-◌, ◌^◌, ◌≤◌, ◌<◌}
use native.Mathlib.Nat.{add-zero}
use native.Mathlib.Omega.{arith}
use native.Mathlib.Decide.{dec_lt}
use lib.Bits.{bit_xor, xor_comm, xor_self, xor_zero_r, xor_zero_l}
use lib.ListN.{length, take, drop, get_or, length-append, length-drop, take-append-drop, replicate, length-replicate, get_or-append, get_or-eq_default}
use lib.Seq.{get_or-take, get_or-drop, get_or-append-add, length-take-le, ext_get_or, take-take, take-length, paste}
use Rattle.std.proofs.lemmas.List.{append_assoc}
use Rattle.std.specs.Simd.{first_chunks}
use Rattle.endian.specs.Numbers.{Bytes, bytes_of}
use Rattle.endian.proofs.Bytes.{bytes_drop, bytes_take, bytes-of, bytes-append, bytes-zeros}
use Rattle.endian.proofs.Numbers.{number-back, length-bytes_of}
use Rattle.endian.proofs.Places.{part-take}
use Rattle.crc32c.specs.Crc.{shifts, fed}
use Rattle.crc32c.specs.Sparse.{degree, e₄, e₃, e₂, e₁, history_bytes, chunk_bytes, buffer_bytes, ending_bytes, last_bytes, over, pull, residue, carried, Filled, Room}
use Rattle.crc32c.proofs.Xor.{xor_assoc}
use Rattle.crc32c.proofs.Shifts.{shifts-xor, shifts-zero, shifts-add}
use Rattle.crc32c.proofs.Range.{fed-lt}
use Rattle.crc32c.proofs.Runs.{run, word, word_number, piece_rest}
use Rattle.crc32c.proofs.Over.{over-same, over-xor, over_add, over-fed, over-from, over-late, over-end}
use Rattle.crc32c.proofs.Cancel.{pull-same, pull-xor, pull-shifts, pull-at, Top, six-none, top-1, top-2}
use Rattle.crc32c.proofs.Stores.{Below, Above, zeros-at}

-- (a ^ r) ^ b is r ^ (a ^ b)
swap : (a r b : ℕ) → bit_xor (bit_xor a r) b ≡ bit_xor r (bit_xor a b)
swap a r b = ap (λ (y : ℕ). bit_xor y b) (xor_comm a r) ∙ xor_assoc r a b

twice : (a b : ℕ) → bit_xor a (bit_xor a b) ≡ b
twice a b = sym (xor_assoc a a b) ∙ ap (λ (y : ℕ). bit_xor y b) (xor_self a) ∙ xor_zero_l b

-- the six places cancel, e bytes later too
six-later : (k x e : ℕ) → Top k → x < 2 ^ 32 → bit_xor (shifts (8 * (degree * k + e)) x) (pull k (λ i. shifts (8 * i) x) e) ≡ 0
six-later k x e top h =
    let g : ℕ → ℕ = λ i. shifts (8 * i) x in
    let e1 : 8 * (degree * k + e) ≡ 8 * (degree * k) + 8 * e = omega arith in
    ap₂ bit_xor (ap (λ (n : ℕ). shifts n x) e1 ∙ shifts-add (8 * (degree * k)) (8 * e) x)
    (ap (pull k g) (sym (add-zero e)) ∙ sym (pull-at k e g 0)
    ∙ pull-same k (λ i. g (e + i)) (λ i. shifts (8 * e) (g i)) 0 (λ i. later i)
    ∙ pull-shifts k (8 * e) g 0)
    ∙ sym (shifts-xor (8 * e) (shifts (8 * (degree * k)) x) (pull k g 0))
    ∙ ap (shifts (8 * e)) (six-none k top x h) ∙ shifts-zero (8 * e)
  where
    later : (i : ℕ) → shifts (8 * (e + i)) x ≡ shifts (8 * e) (shifts (8 * i) x)
    later i =
        let e2 : 8 * (e + i) ≡ 8 * i + 8 * e = omega arith in
        ap (λ (n : ℕ). shifts n x) e2 ∙ shifts-add (8 * i) (8 * e) x

-- past the end of a list
past_end : (l : List ℕ) (i : ℕ) → length l ≤ i → get_or l i 0 ≡ 0
past_end l i h = get_or-eq_default l 0 h

-- ---- one chunk of n bytes behind a history of 209 * k

module _ (k n : ℕ) (p s r : List ℕ) (lp : length p ≡ degree * k + n) (ls : length s ≡ n) (lr : degree * k ≤ length r) where
  abbrev P : ℕ → ℕ
  P i = get_or p i 0

  -- the history before the chunk, and behind it
  abbrev H : ℕ → ℕ
  H i = get_or (take (degree * k) p) i 0

  abbrev H' : ℕ → ℕ
  H' i = get_or (take (degree * k) (drop n p)) i 0

  abbrev X : ℕ → ℕ
  X i = bit_xor (P i) (H i)

  abbrev q : List ℕ
  q = drop (degree * k) p

  abbrev e : ℕ
  e = length r - degree * k

  h-length : length (take (degree * k) p) ≡ degree * k
  h-length = length-take-le (degree * k) p (omega arith)

  q-length : length q ≡ n
  q-length = simp length-drop (omega arith)

  X-low : (i : ℕ) → i < degree * k → X i ≡ 0
  X-low i h = ap (bit_xor (P i)) (get_or-take (degree * k) p i 0 h) ∙ xor_self (P i)

  X-high : (i : ℕ) → X (degree * k + i) ≡ get_or q i 0
  X-high i =
      ap (bit_xor (P (degree * k + i))) (past_end (take (degree * k) p) (degree * k + i) (omega (arith, h-length)))
      ∙ xor_zero_r (P (degree * k + i)) ∙ sym (get_or-drop (degree * k) p i 0)

  behind : (i : ℕ) → P (n + i) ≡ H' i
  behind i = elim (dec_lt i (degree * k)) [ yes l ↦ in-it l | no l ↦ out l ]
    where
      in-it : i < degree * k → P (n + i) ≡ H' i
      in-it l = sym (get_or-take (degree * k) (drop n p) i 0 l ∙ get_or-drop n p i 0)

      out : (i < degree * k → ⊥) → P (n + i) ≡ H' i
      out l =
          past_end p (n + i) (omega arith)
          ∙ sym (past_end (take (degree * k) (drop n p)) i (omega (arith, length-take-le (degree * k) (drop n p) (simp length-drop (omega arith)))))

  -- what one of the five places leaves
  place : (d b : ℕ) → d + b ≡ degree * k → over 0 (λ j. X (j + b)) (n + length r) ≡ shifts (8 * (e + b)) (fed 0 q)
  place d b h =
      let e1 : n + length r ≡ d + (n + (e + b)) = omega arith in
      ap (over 0 (λ j. X (j + b))) e1
      ∙ over-late d (n + (e + b)) (λ j. X (j + b)) (λ j l. X-low (j + b) (omega arith))
      ∙ over-same (n + (e + b)) 0 (λ j. X (d + j + b)) (λ j. get_or q j 0) (λ j l. at j)
      ∙ over-end n (e + b) 0 (λ j. get_or q j 0) (λ j. past_end q (n + j) (omega (arith, q-length)))
      ∙ ap (shifts (8 * (e + b))) (ap (over 0 (λ j. get_or q j 0)) (sym q-length) ∙ over-fed q 0)
    where
      at : (j : ℕ) → X (d + j + b) ≡ get_or q j 0
      at j = let e2 : d + j + b ≡ degree * k + j = omega arith in ap X e2 ∙ X-high j

  place-0 : over 0 (λ j. X j) (n + length r) ≡ shifts (8 * e) (fed 0 q)
  place-0 =
      over-same (n + length r) 0 (λ j. X j) (λ j. X (j + 0)) (λ j l. ap X (sym (add-zero j))) ∙ place (degree * k) 0 (omega arith)
      ∙ ap (λ (m : ℕ). shifts (8 * m) (fed 0 q)) (add-zero e)

  places : over 0 (λ j. pull k X j) (n + length r) ≡ pull k (λ i. shifts (8 * i) (fed 0 q)) e
  unfolding pull
  places =
      over-xor (n + length r) 0 0 (λ j. X (j + e₄ * k)) _
      ∙ ap₂ bit_xor (place ((degree - e₄) * k) (e₄ * k) (omega arith))
      (over-xor (n + length r) 0 0 (λ j. X (j + e₃ * k)) _
      ∙ ap₂ bit_xor (place ((degree - e₃) * k) (e₃ * k) (omega arith))
      (over-xor (n + length r) 0 0 (λ j. X (j + e₂ * k)) _
      ∙ ap₂ bit_xor (place ((degree - e₂) * k) (e₂ * k) (omega arith))
      (over-xor (n + length r) 0 0 (λ j. X (j + e₁ * k)) (λ j. X j)
      ∙ ap₂ bit_xor (place ((degree - e₁) * k) (e₁ * k) (omega arith)) place-0)))

  module _ (top : Top k) (bp : Bytes p) (each : (j : ℕ) → j < n → get_or p (j + degree * k) 0 ≡ bit_xor (get_or s j 0) (pull k P j)) where
    abbrev F : ℕ → ℕ
    F j = bit_xor (get_or (s ++ r) j 0) (pull k P j)

    abbrev E' : ℕ → ℕ
    E' j = bit_xor (get_or r j 0) (pull k H' j)

    F-front : (j : ℕ) → j < n → F j ≡ get_or q j 0
    F-front j l =
        let e1 : j + degree * k ≡ degree * k + j = omega arith in
        ap (λ (y : ℕ). bit_xor y (pull k P j)) (get_or-append s r 0 j (omega arith)) ∙ sym (each j l)
        ∙ ap P e1 ∙ sym (get_or-drop (degree * k) p j 0)

    F-behind : (j : ℕ) → F (n + j) ≡ E' j
    F-behind j =
        ap₂ bit_xor (ap (λ (m : ℕ). get_or (s ++ r) (m + j) 0) (sym ls) ∙ get_or-append-add s r j 0)
        (sym (pull-at k n P j) ∙ pull-same k (λ i. P (n + i)) H' j behind)

    F-whole : over 0 F (n + length r) ≡ bit_xor (shifts (8 * length r) (fed 0 q)) (over 0 E' (length r))
    F-whole =
        over_add n (length r) 0 F
        ∙ ap (λ (y : ℕ). over y (λ j. F (n + j)) (length r))
        (over-same n 0 F (λ j. get_or q j 0) F-front ∙ ap (over 0 (λ j. get_or q j 0)) (sym q-length) ∙ over-fed q 0)
        ∙ over-same (length r) (fed 0 q) (λ j. F (n + j)) E' (λ j l. F-behind j)
        ∙ over-from (length r) (fed 0 q) E'

    splits : (j : ℕ) → bit_xor (get_or (s ++ r) j 0) (pull k H j) ≡ bit_xor (F j) (pull k X j)
    splits j =
        ap (bit_xor (get_or (s ++ r) j 0))
        (pull-same k H (λ i. bit_xor (P i) (X i)) j (λ i. sym (twice (P i) (H i))) ∙ pull-xor k P X j)
        ∙ sym (xor_assoc (get_or (s ++ r) j 0) (pull k P j) (pull k X j))

    pub chunk : residue k (take (degree * k) (drop n p)) r ≡ residue k (take (degree * k) p) (s ++ r)
    unfolding residue
    chunk =
        let R = over 0 E' (length r) in
        let x = fed 0 q in
        let G = pull k (λ i. shifts (8 * i) x) e in
        let el : length (s ++ r) ≡ n + length r = length-append s r ∙ ap (λ (m : ℕ). m + length r) ls in
        let er : length r ≡ degree * k + e = omega arith in
        sym (ap (over 0 (λ j. bit_xor (get_or (s ++ r) j 0) (pull k H j))) el
        ∙ over-same (n + length r) 0 _ (λ j. bit_xor (F j) (pull k X j)) (λ j l. splits j)
        ∙ over-xor (n + length r) 0 0 F (λ j. pull k X j)
        ∙ ap₂ bit_xor F-whole places
        ∙ swap (shifts (8 * length r) x) R G
        ∙ ap (bit_xor R)
        (ap (λ (m : ℕ). bit_xor (shifts (8 * m) x) G) er
        ∙ six-later k x e top (fed-lt 0 q (omega arith) (bytes_drop (degree * k) bp)))
        ∙ xor_zero_r R)

-- `pull` reads nothing from the place 209 * k further on
pull-upto : (k n j : ℕ) (f g : ℕ → ℕ) → 0 < k → j + degree * k ≤ n → ((i : ℕ) → i < n → f i ≡ g i) → pull k f j ≡ pull k g j
unfolding pull
pull-upto k n j f g hk l h =
    ap₂ bit_xor (h _ (omega arith))
    (ap₂ bit_xor (h _ (omega arith)) (ap₂ bit_xor (h _ (omega arith)) (ap₂ bit_xor (h _ (omega arith)) (h _ (omega arith)))))

pull-none : (k : ℕ) (f : ℕ → ℕ) (j : ℕ) → ((i : ℕ) → f (j + i) ≡ 0) → pull k f j ≡ 0
unfolding pull
pull-none k f j h =
    ap₂ bit_xor (h _) (ap₂ bit_xor (h _) (ap₂ bit_xor (h _) (ap₂ bit_xor (h _) (ap f (sym (add-zero j)) ∙ h 0))))

-- ---- as the code has them

-- the first a elements as a list of their own, given by its elements
front_at : (l z : List ℕ) (a : ℕ) → a ≤ length l → Below z (λ m. get_or l m 0) a → Above z (λ m. 0) a → (i : ℕ) → get_or z i 0 ≡ get_or (take a l) i 0
front_at l z a h below above i = elim (dec_lt i a) [ yes b ↦ low b | no b ↦ high b ]
  where
    low : i < a → get_or z i 0 ≡ get_or (take a l) i 0
    low b = below i b ∙ sym (get_or-take a l i 0 b)

    high : (i < a → ⊥) → get_or z i 0 ≡ get_or (take a l) i 0
    high b = above i (omega arith) ∙ sym (past_end (take a l) i (omega (arith, length-take-le a l h)))

-- n bytes of s behind the history of h, in a list that may be longer
filled-chunk : (k n : ℕ) (h s p r : List ℕ) → 0 < k → Top k → degree * k ≤ length h → degree * k + n ≤ length p → n ≤ length s → degree * k ≤ length r → Bytes p
    → Filled k n h s p → residue k (take (degree * k) (drop n p)) r ≡ residue k (take (degree * k) h) (take n s ++ r)
filled-chunk k n h s p r hk top lh lp ls lr bp f =
    ap (λ (l : List ℕ). residue k l r) (sym (part-take n (degree * k) (degree * k + n) p (omega arith)))
    ∙ chunk k n p1 (take n s) r (length-take-le (degree * k + n) p lp) (length-take-le n s ls) lr top (bytes_take (degree * k + n) bp) each
    ∙ ap (λ (l : List ℕ). residue k l (take n s ++ r)) (take-take (degree * k) (degree * k + n) p (omega arith) ∙ front)
  where
    p1 : List ℕ
    p1 = take (degree * k + n) p

    at : (i : ℕ) → i < degree * k + n → get_or p i 0 ≡ get_or p1 i 0
    at i b = sym (get_or-take (degree * k + n) p i 0 b)

    each : (j : ℕ) → j < n → get_or p1 (j + degree * k) 0 ≡ bit_xor (get_or (take n s) j 0) (pull k (λ i. get_or p1 i 0) j)
    each j b =
        sym (at (j + degree * k) (omega arith)) ∙ f.each j b
        ∙ ap₂ bit_xor (sym (get_or-take n s j 0 b)) (pull-upto k (degree * k + n) j (λ i. get_or p i 0) (λ i. get_or p1 i 0) hk (omega arith) at)

    front : take (degree * k) p ≡ take (degree * k) h
    front =
        let eh : length (take (degree * k) h) ≡ degree * k = length-take-le (degree * k) h lh in
        let ep : length (take (degree * k) p) ≡ degree * k = length-take-le (degree * k) p (omega arith) in
        ext_get_or 0 (take (degree * k) p) (take (degree * k) h) (omega arith)
        (λ i l.
        let b : i < degree * k = omega arith in
        get_or-take (degree * k) p i 0 b ∙ f.front i b ∙ sym (get_or-take (degree * k) h i 0 b))

pub chunked : (h s p r : List ℕ) → Room buffer_bytes h → Room buffer_bytes p → length s ≤ chunk_bytes → history_bytes ≤ length r
    → Filled 2 (length s) h s p → carried (drop (length s) p) r ≡ carried h (s ++ r)
unfolding carried
chunked h s p r rh rp ls lr f =
    filled-chunk 2 (length s) h s p r (omega arith) top-2 (omega (arith, rh.size)) (omega (arith, rp.size)) (omega arith) lr rp.bytes f
    ∙ ap (λ (l : List ℕ). residue 2 (take history_bytes h) (l ++ r)) (take-length s)

-- the last 418 bytes moved to the front
pub carried-moved : (o p r : List ℕ) (n : ℕ) → take history_bytes o ≡ take history_bytes (drop n p) → carried o r ≡ carried (drop n p) r
unfolding carried
carried-moved o p r n e = ap (λ (l : List ℕ). residue 2 l r) e

pub mixed : (p s z o : List ℕ) (n : ℕ) → Room buffer_bytes p → n ≤ chunk_bytes → length s ≡ ending_bytes → length o ≡ ending_bytes → Below z (λ m. get_or p (m + n) 0) history_bytes → Above z (λ m. 0) history_bytes
    → Below o (λ m. bit_xor (get_or s m 0) (pull 2 (λ i. get_or z i 0) m)) ending_bytes → fed 0 o ≡ carried (drop n p) s
unfolding carried residue
mixed p s z o n rp hn ls lo below above each =
    let l : history_bytes ≤ length (drop n p) = simp length-drop (omega (arith, rp.size)) in
    let E : ℕ → ℕ = λ j. bit_xor (get_or s j 0) (pull 2 (λ i. get_or (take history_bytes (drop n p)) i 0) j) in
    sym (over-fed o 0)
    ∙ over-same (length o) 0 (λ j. get_or o j 0) E
    (λ j lj.
    each j (omega arith)
    ∙ ap (bit_xor (get_or s j 0))
    (pull-same 2 (λ i. get_or z i 0) (λ i. get_or (take history_bytes (drop n p)) i 0) j (front_at (drop n p) z history_bytes l (λ m b. below m b ∙ there m) above)))
    ∙ ap (over 0 E) (lo ∙ sym ls)
  where
    there : (m : ℕ) → get_or p (m + n) 0 ≡ get_or (drop n p) m 0
    there m = let e : m + n ≡ n + m = omega arith in ap (λ (y : ℕ). get_or p y 0) e ∙ sym (get_or-drop n p m 0)

-- no history
none : (k : ℕ) (h r : List ℕ) → ((i : ℕ) → get_or h i 0 ≡ 0) → residue k h r ≡ fed 0 r
unfolding residue
none k h r e =
    over-same (length r) 0 _ (λ j. get_or r j 0)
    (λ j l. ap (bit_xor (get_or r j 0)) (pull-none k (λ i. get_or h i 0) j (λ i. e (j + i))) ∙ xor_zero_r (get_or r j 0))
    ∙ over-fed r 0

pub halved : (s p o : List ℕ) → Room 592 p → length s ≡ ending_bytes → length o ≡ last_bytes → Filled 1 last_bytes (replicate 592 0) s p → Above p (λ m. 0) 433
    → Below o (λ m. bit_xor (get_or s (m + last_bytes) 0) (bit_xor (get_or p (m + 368) 0) (bit_xor (get_or p (m + 278) 0) (bit_xor (get_or p (m + 263) 0) (bit_xor (get_or p (m + 238) 0) (get_or p (m + last_bytes) 0)))))) last_bytes
    → fed 0 o ≡ fed 0 s
unfolding residue pull
halved s p o rp ls lo f above each =
    sym (over-fed o 0) ∙ over-same (length o) 0 (λ j. get_or o j 0) E (λ j l. at j (omega arith))
    ∙ ap (over 0 E) (lo ∙ sym l2)
    ∙ filled-chunk 1 last_bytes (replicate 592 0) s p (drop last_bytes s) (omega arith) top-1 (omega arith) (omega (arith, rp.size)) (omega arith) (omega (arith, l2)) rp.bytes f
    ∙ ap (residue 1 (take degree (replicate 592 0))) (take-append-drop last_bytes s) ∙ none 1 (take degree (replicate 592 0)) s (zeros-at degree)
  where
    H : ℕ → ℕ
    H i = get_or (take degree (drop last_bytes p)) i 0

    E : ℕ → ℕ
    E j = bit_xor (get_or (drop last_bytes s) j 0) (pull 1 H j)

    l2 : length (drop last_bytes s) ≡ last_bytes
    l2 = simp length-drop (omega arith)

    go : (j a b : ℕ) → j + (last_bytes + a) ≡ b → get_or p b 0 ≡ H (j + a)
    go j a b e =
        let e1 : b ≡ last_bytes + (j + a) = omega arith in
        ap (λ (m : ℕ). get_or p m 0) e1 ∙ sym (get_or-drop last_bytes p (j + a) 0)
        ∙ front_at (drop last_bytes p) (drop last_bytes p) degree (simp length-drop (omega (arith, rp.size))) (λ m l. refl)
        (λ m l. get_or-drop last_bytes p m 0 ∙ above (last_bytes + m) (omega arith)) (j + a)

    at : (j : ℕ) → j < last_bytes → get_or o j 0 ≡ E j
    at j b =
        let e0 : j + last_bytes ≡ last_bytes + j = omega arith in
        each j b
        ∙ ap₂ bit_xor (ap (λ (m : ℕ). get_or s m 0) e0 ∙ sym (get_or-drop last_bytes s j 0))
        (ap₂ bit_xor (go j e₄ (j + 368) (omega arith))
        (ap₂ bit_xor (go j e₃ (j + 278) (omega arith))
        (ap₂ bit_xor (go j e₂ (j + 263) (omega arith))
        (ap₂ bit_xor (go j e₁ (j + 238) (omega arith)) (go j 0 (j + last_bytes) (omega arith) ∙ ap H (add-zero j))))))

-- ---- the start: the register stands in the first four bytes of the history

abbrev begun : ℕ → List ℕ
begun c = paste (replicate buffer_bytes 0) 0 (bytes_of 4 c) 4

begun-is : (c : ℕ) → begun c ≡ bytes_of 4 c ++ replicate 2398 0
unfolding bytes_of
begun-is c = refl

pub begun-room : (c : ℕ) → Room buffer_bytes (begun c)
begun-room c =
    subst (Room buffer_bytes) (sym (begun-is c))
    (record {
      size = length-append (bytes_of 4 c) (replicate 2398 0) ∙ ap₂ (λ (m n : ℕ). m + n) (length-bytes_of 4 c) (length-replicate {A = ℕ} 2398 0);
      bytes = bytes-append (bytes-of 4 c) (bytes-zeros 2398);
    })

begun-at : (c i : ℕ) → get_or (take history_bytes (begun c)) i 0 ≡ get_or (bytes_of 4 c) i 0
begun-at c i =
    sym (front_at (begun c) (bytes_of 4 c) history_bytes (omega (arith, (begun-room c).size))
    (λ m b. sym (ap (λ (l : List ℕ). get_or l m 0) (begun-is c) ∙ low m)) (λ m b. past_end (bytes_of 4 c) m (omega (arith, length-bytes_of 4 c))) i)
  where
    low : (m : ℕ) → get_or (bytes_of 4 c ++ replicate 2398 0) m 0 ≡ get_or (bytes_of 4 c) m 0
    low m = elim (dec_lt m 4) [ yes b ↦ get_or-append (bytes_of 4 c) (replicate 2398 0) 0 m (omega (arith, length-bytes_of 4 c)) | no b ↦ high b ]
      where
        high : (m < 4 → ⊥) → get_or (bytes_of 4 c ++ replicate 2398 0) m 0 ≡ get_or (bytes_of 4 c) m 0
        high b =
            let e : m ≡ length (bytes_of 4 c) + (m - 4) = omega (arith, length-bytes_of 4 c) in
            ap (λ (n : ℕ). get_or (bytes_of 4 c ++ replicate 2398 0) n 0) e
            ∙ get_or-append-add (bytes_of 4 c) (replicate 2398 0) (m - 4) 0 ∙ zeros-at 2398 (m - 4)
            ∙ sym (past_end (bytes_of 4 c) m (omega (arith, length-bytes_of 4 c)))

-- four bytes from the register 0 are a register
four : (c : ℕ) → c < 2 ^ 32 → fed 0 (bytes_of 4 c) ≡ shifts 32 c
unfolding fed
four c h =
    ap (fed 0) (sym (append-nil (bytes_of 4 c))) ∙ run (bytes_of 4 c) [] 0
    ∙ ap₂ (λ (n x : ℕ). shifts (8 * n) x) (length-bytes_of 4 c) (xor_zero_l (word (bytes_of 4 c)) ∙ word_number (bytes-of 4 c) ∙ number-back 4 c h)

pub started : (c : ℕ) (s : List ℕ) → c < 2 ^ 32 → 4 ≤ length s → carried (begun c) s ≡ fed c s
unfolding carried residue pull
started c s h l =
    let z = length s - 4 in
    let B : ℕ → ℕ = λ j. get_or (bytes_of 4 c) j 0 in
    let S : ℕ → ℕ = λ j. get_or s j 0 in
    let e1 : length s ≡ 4 + z = omega arith in
    let e2 : 8 * length s ≡ 32 + 8 * z = omega arith in
    over-same (length s) 0 _ (λ j. bit_xor (B j) (S j)) (λ j lj. at j)
    ∙ over-xor (length s) 0 0 B S
    ∙ ap (λ (x : ℕ). bit_xor x (over 0 S (length s)))
    (ap (over 0 B) e1 ∙ over-end 4 z 0 B (λ j. past_end (bytes_of 4 c) (4 + j) (omega (arith, length-bytes_of 4 c)))
    ∙ ap (shifts (8 * z)) (ap (over 0 B) (sym (length-bytes_of 4 c)) ∙ over-fed (bytes_of 4 c) 0 ∙ four c h)
    ∙ sym (shifts-add 32 (8 * z) c) ∙ ap (λ (n : ℕ). shifts n c) (sym e2))
    ∙ sym (over-from (length s) c S) ∙ over-fed s c
  where
    late : (m j : ℕ) → 4 ≤ m → get_or (take history_bytes (begun c)) (j + m) 0 ≡ 0
    late m j b = begun-at c (j + m) ∙ past_end (bytes_of 4 c) (j + m) (omega (arith, length-bytes_of 4 c))

    at : (j : ℕ) → bit_xor (get_or s j 0) (pull 2 (λ i. get_or (take history_bytes (begun c)) i 0) j) ≡ bit_xor (get_or (bytes_of 4 c) j 0) (get_or s j 0)
    at j =
        ap (bit_xor (get_or s j 0))
        (ap₂ bit_xor (late 288 j (omega arith))
        (ap₂ bit_xor (late 108 j (omega arith))
        (ap₂ bit_xor (late 78 j (omega arith)) (ap₂ bit_xor (late 28 j (omega arith)) (begun-at c j)))))
        ∙ xor_comm (get_or s j 0) (get_or (bytes_of 4 c) j 0)

-- ---- a turn takes one chunk of the body b, which stands before the ending t

pub stepped : (k : ℕ) (b t p q : List ℕ) (ps : List (List ℕ)) (y : ℕ) → ps ≡ first_chunks chunk_bytes (length b / chunk_bytes) b
    → length ps ≡ length b / chunk_bytes → k < length ps → history_bytes ≤ length t
    → ((r : List ℕ) → history_bytes ≤ length r → carried q r ≡ carried p (get_or ps k [] ++ r)) → carried p (drop (k * chunk_bytes) b ++ t) ≡ y
    → carried q (drop ((k + 1) * chunk_bytes) b ++ t) ≡ y
stepped k b t p q ps y front count h l f e =
    let r = drop ((k + 1) * chunk_bytes) b in
    f (r ++ t) (simp length-append (omega arith))
    ∙ ap (carried p) (sym (append_assoc (get_or ps k []) r t) ∙ ap (λ (x : List ℕ). x ++ t) (piece_rest chunk_bytes k b ps front count h)) ∙ e
