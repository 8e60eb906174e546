-- Stores into a working page: a byte, runs of numbers, a part that was lent and comes back.
-- Assumes nothing.
use mathlib.Core.Path.{◌≡◌, refl, sym, ap, ◌∙◌}
use Prim.Native.Nat.{ℕ, ◌+◌, ◌-◌, ◌*◌, ◌≤◌}
use native.Mathlib.Decide.{dec_le}
use native.Mathlib.Omega.{arith}
use mathlib.Core.List.{List, ◌++◌, append_assoc}
use lib.ListN.{length, take, drop, length-append, take-append-drop}
use lib.Seq.{paste, take_all, take-take, drop-drop, take-add, drop_at, length-take-le}
use Rattle.endian.specs.Numbers.{bytes_of}
use Rattle.endian.proofs.Numbers.{length-bytes_of}
use Rattle.endian.proofs.Stores.{first, more, number}
use Rattle.endian.proofs.Places.{part_same, part-before, part-behind}
use Rattle.crc32c.specs.Crc.{crc32c}
use Rattle.page.specs.Layout.{head_bytes, page_bytes, page_at, body_of}
use Rattle.page.specs.Packed.{Head, off_of}
use Rattle.page.specs.Writer.{with_slot, front_of, back_of, sealed}

-- a store behind the first h elements, seen from there
pub paste-behind : (w s : List ℕ) (h at n : ℕ) → h ≤ length w → drop h (paste w (h + at) s n) ≡ paste (drop h w) at s n
paste-behind w s h at n l =
    let lt : length (take h w) ≡ h = length-take-le h w l in
    let t : take (h + at) w ≡ take h w ++ take at (drop h w) = take-add h at w in
    let e : h + at + n ≡ h + (at + n) = omega arith in
    let d : drop (h + at + n) w ≡ drop (at + n) (drop h w) = rw e (sym (drop-drop (at + n) h w)) in
    let g : (take h w ++ take at (drop h w)) ++ take n s ++ drop (at + n) (drop h w) ≡ take h w ++ (take at (drop h w) ++ take n s ++ drop (at + n) (drop h w)) = simp append_assoc in
    rw (t, d, g) (drop_at (take h w) (take at (drop h w) ++ take n s ++ drop (at + n) (drop h w)) h lt)

-- ---- the header

five : (a b c d e : List ℕ) → (((a ++ b) ++ c) ++ d) ++ e ≡ a ++ (b ++ (c ++ (d ++ e)))
five a b c d e = simp append_assoc

module _ (d : List ℕ) (long : length d ≡ page_bytes) where
  pub front-stored : (magic type n crc : ℕ) (w1 w2 w3 w4 w5 : List ℕ) → w1 ≡ paste d 0 (bytes_of 8 magic) 8 → w2 ≡ paste w1 8 (bytes_of 1 type) 1 → w3 ≡ paste w2 9 (bytes_of 1 0) 1
      → w4 ≡ paste w3 10 (bytes_of 2 n) 2 → w5 ≡ paste w4 12 (bytes_of 4 crc) 4 → w5 ≡ paste d 0 (front_of magic type n crc) 16
  unfolding front_of
  front-stored magic type n crc w1 w2 w3 w4 w5 e1 e2 e3 e4 e5 =
      let s1 = first d w1 (bytes_of 8 magic) 0 8 (length-bytes_of 8 magic) (omega arith) e1 in
      let s2 = number s1 w2 1 type (omega arith) e2 in
      let s3 = number s2 w3 1 0 (omega arith) e3 in
      let s4 = number s3 w4 2 n (omega arith) e4 in
      let s5 = number s4 w5 4 crc (omega arith) e5 in
      s5.is ∙ ap (λ (a : List ℕ). paste d 0 a 16) (five (bytes_of 8 magic) (bytes_of 1 type) (bytes_of 1 0) (bytes_of 2 n) (bytes_of 4 crc))

  pub back-stored : (id lsn n end : ℕ) (reserved w1 w2 w3 w4 w5 : List ℕ) → length reserved ≡ 28 → w1 ≡ paste d 16 (bytes_of 8 id) 8 → w2 ≡ paste w1 24 (bytes_of 8 lsn) 8
      → w3 ≡ paste w2 32 (bytes_of 2 (4 * n)) 2 → w4 ≡ paste w3 34 (bytes_of 2 end) 2 → w5 ≡ paste w4 36 reserved (length reserved)
      → w5 ≡ paste d 16 (back_of id lsn n end reserved) 48
  unfolding back_of
  back-stored id lsn n end reserved w1 w2 w3 w4 w5 l e1 e2 e3 e4 e5 =
      let s1 = first d w1 (bytes_of 8 id) 16 8 (length-bytes_of 8 id) (omega arith) e1 in
      let s2 = number s1 w2 8 lsn (omega arith) e2 in
      let s3 = number s2 w3 2 (4 * n) (omega arith) e3 in
      let s4 = number s3 w4 2 end (omega arith) e4 in
      let s5 = more s4 w5 reserved 28 l (omega arith) (rw l at e5) in
      s5.is ∙ ap (λ (a : List ℕ). paste d 16 a 48) (five (bytes_of 8 id) (bytes_of 8 lsn) (bytes_of 2 (4 * n)) (bytes_of 2 end) reserved)

length_front : (magic type n crc : ℕ) → length (front_of magic type n crc) ≡ 16
unfolding front_of bytes_of
length_front magic type n crc = refl

length_back : (id lsn n end : ℕ) (reserved : List ℕ) → length reserved ≡ 28 → length (back_of id lsn n end reserved) ≡ 48
unfolding back_of bytes_of
length_back id lsn n end reserved l = omega arith

pub sealed-stored : (d w1 w2 : List ℕ) (h : Head) (n end crc : ℕ) → length d ≡ page_bytes → length h.reserved ≡ 28 → crc ≡ crc32c (body_of d)
    → w1 ≡ paste d 0 (front_of h.magic h.type n crc) 16 → w2 ≡ paste w1 16 (back_of h.id h.lsn n end h.reserved) 48
    → w2 ≡ sealed h n end (body_of d)
sealed-stored d w1 w2 h n end crc l r e e1 e2 =
    let front : List ℕ = front_of h.magic h.type n crc in
    let back : List ℕ = back_of h.id h.lsn n end h.reserved in
    let lf : length front ≡ 16 = length_front h.magic h.type n crc in
    let lb : length back ≡ 48 = length_back h.id h.lsn n end h.reserved r in
    let s1 = first d w1 front 0 16 lf (omega arith) e1 in
    let s2 = more s1 w2 back 48 lb (omega arith) e2 in
    let all : take 64 (front ++ back) ≡ front ++ back = take_all 64 (front ++ back) (omega (arith, length-append front back)) in
    s2.is ∙ rw (all, append_assoc front back (drop 64 d), e)

-- ---- a slot and its tuple

pub slot-stored : (d t w1 w2 w3 : List ℕ) (k top off : ℕ) → head_bytes + 4 * k + 4 ≤ length d → off ≡ off_of (length t) (top - length t)
    → w1 ≡ paste d (64 + 4 * k) (bytes_of 2 off) 2 → w2 ≡ paste w1 (66 + 4 * k) (bytes_of 2 (length t)) 2 → w3 ≡ paste w2 (64 + (top - length t)) t (length t)
    → w3 ≡ with_slot d k top t
unfolding with_slot
slot-stored d t w1 w2 w3 k top off r eo e1 e2 e3 =
    let z : 66 + 4 * k ≡ head_bytes + 4 * k + 2 = omega arith in
    let s1 = first d w1 (bytes_of 2 off) (head_bytes + 4 * k) 2 (length-bytes_of 2 off) (omega arith) e1 in
    let s2 = number s1 w2 2 (length t) (omega arith) (rw z at e2) in
    rw (e3, s2.is, eo)

-- ---- a page that was lent

-- a part, stored where it stands
pub paste-own : (d : List ℕ) (a n : ℕ) → paste d a (take n (drop a d)) n ≡ d
paste-own d a n =
    rw (take-take n n (drop a d) (omega arith), append_assoc (take a d) (take n (drop a d)) (drop (a + n) d), ← drop-drop n a d, take-append-drop n (drop a d))
    (take-append-drop a d)

-- it is that page, and every other is as it was
module _ (d w : List ℕ) (j : ℕ) (long : length w ≡ page_bytes) (room : j * page_bytes + page_bytes ≤ length d) where
  pub page-same : page_at j (paste d (j * page_bytes) w page_bytes) ≡ w
  page-same = part_same d w (j * page_bytes) page_bytes long room

  pub page-other : (i : ℕ) → (i ≡ j → ⊥) → page_at i (paste d (j * page_bytes) w page_bytes) ≡ page_at i d
  page-other i h =
      elim (dec_le i j) [
        | yes l ↦ part-before d w (j * page_bytes) page_bytes long room (i * page_bytes) page_bytes (omega arith)
        | no l ↦ part-behind d w (j * page_bytes) page_bytes long room (i * page_bytes) page_bytes (omega arith)
      ]
