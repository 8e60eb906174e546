-- Loops that store one byte a turn: what is below the place is as a function gives it, and what is above as it was.
-- Assumes nothing.
use mathlib.Core.Path.{◌≡◌, refl, sym, ap, ap₂, ◌∙◌, subst}
use mathlib.Core.List.{List, [], ◌∷◌}
use Prim.Native.Nat.{ℕ, zero, suc, ◌+◌, ◌*◌, ◌-◌, ◌≤◌, ◌<◌}
use native.Mathlib.Omega.{arith}
use native.Mathlib.Decide.{dec_lt}
use lib.Bits.{bit_xor, xor_lt}
use lib.ListN.{length, get_or, set, take, drop, replicate, length-drop, length-set, length-replicate}
use lib.Seq.{paste, get_or-set_same, get_or-set_other, get_or-take, get_or-drop, length-take-le, ext_get_or}
use Rattle.std.proofs.lemmas.List.Edits.{take-paste, drop-paste}
use Rattle.endian.specs.Numbers.{Bytes}
use Rattle.endian.proofs.Bytes.{bytes-append, bytes_take, bytes_drop, bytes-zeros, bytes-cons}
use Rattle.crc32c.specs.Sparse.{degree, e₄, e₃, e₂, e₁, history_bytes, chunk_bytes, buffer_bytes, pull, Filled, Room}

-- the first k elements are those of g; those from k on are
abbrev pub Below : List ℕ → (ℕ → ℕ) → ℕ → Type 0
Below l g k = (m : ℕ) → m < k → get_or l m 0 ≡ g m

abbrev pub Above : List ℕ → (ℕ → ℕ) → ℕ → Type 0
Above l g k = (m : ℕ) → k ≤ m → get_or l m 0 ≡ g m

other : (l : List ℕ) (k m v : ℕ) → (m ≡ k → ⊥) → get_or (set l k v) m 0 ≡ get_or l m 0
other l k m v h = get_or-set_other l k m v 0 h

pub below_more : (l : List ℕ) (g : ℕ → ℕ) (k v : ℕ) → k < length l → v ≡ g k → Below l g k → Below (set l k v) g (k + 1)
below_more l g k v h e u m hm = elim (dec_lt m k) [ yes p ↦ old p | no p ↦ new p ]
  where
    old : m < k → get_or (set l k v) m 0 ≡ g m
    old p = other l k m v (λ q. let z : m ≡ k = q in absurd (omega arith)) ∙ u m p

    new : (m < k → ⊥) → get_or (set l k v) m 0 ≡ g m
    new p = let z : m ≡ k = omega arith in ap (λ (n : ℕ). get_or (set l k v) n 0) z ∙ get_or-set_same l k v 0 h ∙ e ∙ ap g (sym z)

pub above_more : (l : List ℕ) (g : ℕ → ℕ) (k v : ℕ) → Above l g k → Above (set l k v) g (k + 1)
above_more l g k v u m hm = other l k m v (λ q. let z : m ≡ k = q in absurd (omega arith)) ∙ u m (omega arith)

-- a store behind the history changes nothing that goes into an earlier byte, or into its own
pull-set : (k j m v : ℕ) (p : List ℕ) → 0 < k → m ≤ j → pull k (λ i. get_or (set p (j + degree * k) v) i 0) m ≡ pull k (λ i. get_or p i 0) m
unfolding pull
pull-set k j m v p hk h =
    ap₂ bit_xor (at (m + e₄ * k) (omega arith))
    (ap₂ bit_xor (at (m + e₃ * k) (omega arith))
    (ap₂ bit_xor (at (m + e₂ * k) (omega arith)) (ap₂ bit_xor (at (m + e₁ * k) (omega arith)) (at m (omega arith)))))
  where
    at : (i : ℕ) → i < j + degree * k → get_or (set p (j + degree * k) v) i 0 ≡ get_or p i 0
    at i l = other p (j + degree * k) i v (λ q. let z : i ≡ j + degree * k = q in absurd (omega arith))

pub filled_none : (k : ℕ) (h s : List ℕ) → Filled k 0 h s h
filled_none k h s = record { front = λ i l. refl; each = λ j l. absurd (omega arith) }

pub filled_more : (k j v : ℕ) (h s p : List ℕ) → 0 < k → j + degree * k < length p → v ≡ bit_xor (get_or s j 0) (pull k (λ i. get_or p i 0) j)
    → Filled k j h s p → Filled k (j + 1) h s (set p (j + degree * k) v)
filled_more k j v h s p hk hl e f = record { front = λ i l. front i l; each = λ m l. each m l }
  where
    front : (i : ℕ) → i < degree * k → get_or (set p (j + degree * k) v) i 0 ≡ get_or h i 0
    front i l = other p (j + degree * k) i v (λ q. let z : i ≡ j + degree * k = q in absurd (omega arith)) ∙ f.front i l

    old : (m : ℕ) → m < j → get_or (set p (j + degree * k) v) (m + degree * k) 0 ≡ bit_xor (get_or s m 0) (pull k (λ i. get_or (set p (j + degree * k) v) i 0) m)
    old m l =
        other p (j + degree * k) (m + degree * k) v (λ q. let z : m + degree * k ≡ j + degree * k = q in absurd (omega arith))
        ∙ f.each m l ∙ ap (bit_xor (get_or s m 0)) (sym (pull-set k j m v p hk (omega arith)))

    new : get_or (set p (j + degree * k) v) (j + degree * k) 0 ≡ bit_xor (get_or s j 0) (pull k (λ i. get_or (set p (j + degree * k) v) i 0) j)
    new = get_or-set_same p (j + degree * k) v 0 hl ∙ e ∙ ap (bit_xor (get_or s j 0)) (sym (pull-set k j j v p hk (omega arith)))

    each : (m : ℕ) → m < j + 1 → get_or (set p (j + degree * k) v) (m + degree * k) 0 ≡ bit_xor (get_or s m 0) (pull k (λ i. get_or (set p (j + degree * k) v) i 0) m)
    each m l = elim (dec_lt m j) [ yes b ↦ old m b | no b ↦ at_j b ]
      where
        at_j : (m < j → ⊥) → get_or (set p (j + degree * k) v) (m + degree * k) 0 ≡ bit_xor (get_or s m 0) (pull k (λ i. get_or (set p (j + degree * k) v) i 0) m)
        at_j b =
            let z : m ≡ j = omega arith in
            ap (λ (n : ℕ). get_or (set p (j + degree * k) v) (n + degree * k) 0) z ∙ new
            ∙ ap (λ (n : ℕ). bit_xor (get_or s n 0) (pull k (λ i. get_or (set p (j + degree * k) v) i 0) n)) (sym z)

-- what was moved to the front
pub moved : (h p : List ℕ) → length h ≡ buffer_bytes → length p ≡ buffer_bytes → Below p (λ m. get_or h (chunk_bytes + m) 0) history_bytes
    → take history_bytes p ≡ take history_bytes (drop chunk_bytes h)
moved h p lh lp below =
    let ep : length (take history_bytes p) ≡ history_bytes = length-take-le history_bytes p (omega arith) in
    let eh : length (take history_bytes (drop chunk_bytes h)) ≡ history_bytes = length-take-le history_bytes (drop chunk_bytes h) (simp length-drop (omega arith)) in
    ext_get_or 0 (take history_bytes p) (take history_bytes (drop chunk_bytes h)) (omega arith) (λ i l. at i (omega arith))
  where
    at : (i : ℕ) → i < history_bytes → get_or (take history_bytes p) i 0 ≡ get_or (take history_bytes (drop chunk_bytes h)) i 0
    at i b =
        get_or-take history_bytes p i 0 b ∙ below i b ∙ sym (get_or-take history_bytes (drop chunk_bytes h) i 0 b ∙ get_or-drop chunk_bytes h i 0)

pub zeros-at : (n m : ℕ) → get_or {A = ℕ} (replicate n 0) m 0 ≡ 0
zeros-at zero m = refl
zeros-at (suc n) zero = refl
zeros-at (suc n) (suc m) = zeros-at n m

-- a history behind which zeros stand
module _ (p z : List ℕ) (n : ℕ) (w : n ≤ chunk_bytes) (lp : length p ≡ buffer_bytes) (e : z ≡ paste (replicate 736 0) 0 (take history_bytes (drop n p)) history_bytes) where
  abbrev h : List ℕ
  h = take history_bytes (drop n p)

  lh : length h ≡ history_bytes
  lh = length-take-le history_bytes (drop n p) (simp length-drop (omega arith))

  pub history_at : Below z (λ m. get_or p (m + n) 0) history_bytes
  history_at m b =
      let c : n + m ≡ m + n = omega arith in
      sym (get_or-take history_bytes z m 0 b)
      ∙ ap (λ (l : List ℕ). get_or l m 0) (ap (take history_bytes) e ∙ take-paste (replicate 736 0) 0 h history_bytes (omega arith) (omega (arith, lh)))
      ∙ get_or-take history_bytes h m 0 b ∙ get_or-take history_bytes (drop n p) m 0 b ∙ get_or-drop n p m 0 ∙ ap (λ (k : ℕ). get_or p k 0) c

  pub zeros_behind : Above z (λ m. 0) history_bytes
  zeros_behind m b =
      let c : m ≡ history_bytes + (m - history_bytes) = omega arith in
      ap (λ (k : ℕ). get_or z k 0) c ∙ sym (get_or-drop history_bytes z (m - history_bytes) 0)
      ∙ ap (λ (l : List ℕ). get_or l (m - history_bytes) 0)
      (ap (drop history_bytes) e ∙ drop-paste (replicate 736 0) 0 h history_bytes (omega arith) (omega (arith, lh)))
      ∙ get_or-drop history_bytes (replicate 736 0) (m - history_bytes) 0 ∙ zeros-at 736 (history_bytes + (m - history_bytes))

-- n bytes of which each was one before
pub room-from : (n : ℕ) (h p : List ℕ) → Room n h → length p ≡ length h → ((i : ℕ) → (j : ℕ) × (get_or p i 0 ≡ get_or h j 0)) → Room n p
room-from n h p r l e = record { size = l ∙ r.size; bytes = record { at = λ i. subst (λ (x : ℕ). x < 256) (sym (e i).1) (r.bytes.at (e i).0) } }

-- ---- bytes stay bytes

pub byte-xor : {a b : ℕ} → a < 256 → b < 256 → bit_xor a b < 256
byte-xor {a} {b} ha hb = xor_lt 8 a b ha hb

pub pull-lt : (k : ℕ) (f : ℕ → ℕ) (j : ℕ) → ((i : ℕ) → f i < 256) → pull k f j < 256
unfolding pull
pull-lt k f j h = byte-xor (h _) (byte-xor (h _) (byte-xor (h _) (byte-xor (h _) (h _))))

bytes-set : (l : List ℕ) (k v : ℕ) → v < 256 → Bytes l → Bytes (set l k v)
bytes-set [] k v h b = b
bytes-set (x ∷ l) zero v h b = bytes-cons h (record { at = λ i. b.at (suc i) })
bytes-set (x ∷ l) (suc k) v h b = bytes-cons (b.at 0) (bytes-set l k v h (record { at = λ i. b.at (suc i) }))

pub room-set : {n : ℕ} {l : List ℕ} (k v : ℕ) → v < 256 → Room n l → Room n (set l k v)
room-set {n} {l} k v h r = record { size = length-set l k v ∙ r.size; bytes = bytes-set l k v h r.bytes }

pub room-zeros : (n : ℕ) → Room n (replicate n 0)
room-zeros n = record { size = length-replicate {A = ℕ} n 0; bytes = bytes-zeros n }

-- zeros, and a history before them, are bytes
pub room-paste : {p z : List ℕ} (n : ℕ) → Room buffer_bytes p → z ≡ paste (replicate 736 0) 0 (take history_bytes (drop n p)) history_bytes → Bytes z
room-paste {p} {z} n r e =
    subst Bytes (sym e) (bytes-append (bytes_take history_bytes (bytes_take history_bytes (bytes_drop n r.bytes))) (bytes_drop history_bytes (bytes-zeros 736)))
