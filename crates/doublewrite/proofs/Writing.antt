-- A file stored part by part, and what the writer answers.
-- Assumes nothing.
use mathlib.Core.Path.{◌≡◌, refl, sym, ap, ap₂, ◌∙◌}
use Prim.Native.Nat.{ℕ, suc, ◌+◌, ◌*◌, ◌≤◌, ◌<◌}
use native.Mathlib.Nat.{zero-add}
use native.Mathlib.Numerals.{add-one}
use native.Mathlib.Omega.{arith}
use mathlib.Core.List.{List, [], ◌∷◌, ◌++◌, append_assoc, append-nil}
use lib.ListN.{length, take, drop, get_or, length-append}
use lib.Seq.{paste, take-suc, take_all, take-paste, length-take-le, get_or-take}
use Rattle.endian.specs.Numbers.{bytes_of}
use Rattle.endian.proofs.Numbers.{length-bytes_of}
use Rattle.endian.proofs.Stores.{first, more, number}
use Rattle.crc32c.specs.Crc.{crc32c}
use Rattle.page.specs.Layout.{page_bytes, pages_in, page_at}
use Rattle.page.proofs.Verdicts.{page-length}
use Rattle.doublewrite.specs.File.{header_bytes, slot_bytes, footer_bytes, slot_place, file_bytes, name, mark}
use Rattle.doublewrite.specs.Write.{header_of, slot_of, slots_of, footer_of, front_of, file_of}

-- ---- lengths

pub name-bytes : bytes_of 8 0x5257_4C42_444D_5841 ≡ name
unfolding bytes_of
name-bytes = refl

pub length-header : (n : ℕ) → length (header_of n) ≡ header_bytes
unfolding header_of bytes_of
length-header n = refl

pub length-footer : (front : List ℕ) → length (footer_of front) ≡ footer_bytes
unfolding footer_of bytes_of
length-footer front = refl

module _ (s : List ℕ) where
  -- each page of a list is lent
  abbrev pub Lent : List ℕ → Type 0
  Lent l = (k : ℕ) → k < length l → get_or l k 0 < pages_in s

  pub length-slot : (i : ℕ) → i < pages_in s → length (slot_of s i) ≡ slot_bytes
  unfolding slot_of
  length-slot i h = length-append (bytes_of 8 i) (page_at i s) ∙ omega (arith, length-bytes_of 8 i, page-length s i h)

  pub length-slots : (l : List ℕ) → Lent l → length (slots_of s l) ≡ slot_bytes * length l
  unfolding slots_of
  length-slots [] h = refl
  length-slots (i ∷ l) h =
      length-append (slot_of s i) (slots_of s l) ∙ omega (arith, length-slot i (h 0 (omega arith)), length-slots l (λ k a. h (suc k) (omega arith)))

  pub length_taken : (l : List ℕ) (k : ℕ) → Lent l → k ≤ length l → length (slots_of s (take k l)) ≡ slot_bytes * k
  length_taken l k lent h =
      let lt : length (take k l) ≡ k = length-take-le k l h in
      let part : Lent (take k l) = λ j a. rw (get_or-take k l j 0 (omega arith)) (lent j (omega arith)) in
      length-slots (take k l) part ∙ ap (λ (n : ℕ). slot_bytes * n) lt

  pub length_front : (l : List ℕ) → Lent l → length (front_of s l) ≡ slot_place (length l)
  unfolding front_of
  length_front l h = length-append (header_of (length l)) (slots_of s l) ∙ omega (arith, length-header (length l), length-slots l h)

  slots-snoc : (l : List ℕ) (i : ℕ) → slots_of s (l ++ (i ∷ [])) ≡ slots_of s l ++ slot_of s i
  unfolding slots_of
  slots-snoc [] i = append-nil (slot_of s i)
  slots-snoc (j ∷ l) i = rw (slots-snoc l i) (sym (append_assoc (slot_of s j) (slots_of s l) (slot_of s i)))

-- ---- stores

pub header-stored : (d w1 w2 w3 : List ℕ) (n : ℕ) → header_bytes ≤ length d → w1 ≡ paste d 0 (bytes_of 8 0x5257_4C42_444D_5841) 8 → w2 ≡ paste w1 8 (bytes_of 4 1) 4
    → w3 ≡ paste w2 12 (bytes_of 4 n) 4 → w3 ≡ paste d 0 (header_of n) header_bytes
unfolding header_of
header-stored d w1 w2 w3 n r e1 e2 e3 =
    let s1 = first d w1 (bytes_of 8 0x5257_4C42_444D_5841) 0 8 (length-bytes_of 8 0x5257_4C42_444D_5841) (omega arith) e1 in
    let s2 = number s1 w2 4 1 (omega arith) e2 in
    let s3 = number s2 w3 4 n (omega arith) e3 in
    s3.is ∙ ap (λ (a : List ℕ). paste d 0 a 16) (append_assoc (bytes_of 8 0x5257_4C42_444D_5841) (bytes_of 4 1) (bytes_of 4 n) ∙ ap (λ (a : List ℕ). a ++ (bytes_of 4 1 ++ bytes_of 4 n)) name-bytes)

pub slot-stored : (d w1 w2 s p : List ℕ) (k i at : ℕ) → at ≡ slot_place k → slot_place (k + 1) ≤ length d → i < pages_in s → p ≡ page_at i s
    → w1 ≡ paste d at (bytes_of 8 i) 8 → w2 ≡ paste w1 (at + 8) p (length p) → w2 ≡ paste d (slot_place k) (slot_of s i) slot_bytes
unfolding slot_of
slot-stored d w1 w2 s p k i at ea r h ep e1 e2 =
    let l : length p ≡ page_bytes = ap length ep ∙ page-length s i h in
    let s1 = first d w1 (bytes_of 8 i) at 8 (length-bytes_of 8 i) (omega arith) e1 in
    let s2 = more s1 w2 p page_bytes l (omega arith) (rw l at e2) in
    s2.is ∙ ap₂ (λ (n : ℕ) (q : List ℕ). paste d n (bytes_of 8 i ++ q) slot_bytes) ea ep

-- one slot more
pub slots-stored : (d w v s l : List ℕ) (k : ℕ) → Lent s l → k < length l → slot_place (length l) ≤ length d
    → w ≡ paste d header_bytes (slots_of s (take k l)) (slot_bytes * k) → v ≡ paste w (slot_place k) (slot_of s (get_or l k 0)) slot_bytes
    → v ≡ paste d header_bytes (slots_of s (take (k + 1) l)) (slot_bytes * (k + 1))
slots-stored d w v s l k lent h r ew ev =
    let ls : length (slots_of s (take k l)) ≡ slot_bytes * k = length_taken s l k lent (omega arith) in
    let s1 = first d w (slots_of s (take k l)) header_bytes (slot_bytes * k) ls (omega arith) ew in
    let s2 = more s1 v (slot_of s (get_or l k 0)) slot_bytes (length-slot s (get_or l k 0) (lent k h)) (omega arith) ev in
    let z : slot_bytes * k + slot_bytes ≡ slot_bytes * (k + 1) = omega arith in
    let t : slots_of s (take (k + 1) l) ≡ slots_of s (take k l) ++ slot_of s (get_or l k 0) = rw (add-one k, take-suc l k 0 h) (slots-snoc s (take k l) (get_or l k 0)) in
    s2.is ∙ ap₂ (λ (a : List ℕ) (n : ℕ). paste d header_bytes a n) (sym t) z

pub footer-stored : (d w1 w2 : List ℕ) (n at crc : ℕ) → at ≡ slot_place n → file_bytes n ≤ length d → crc ≡ crc32c (take at d)
    → w1 ≡ paste d at (bytes_of 4 crc) 4 → w2 ≡ paste w1 (at + 4) (bytes_of 4 mark) 4 → w2 ≡ paste d (slot_place n) (footer_of (take (slot_place n) d)) footer_bytes
unfolding footer_of
footer-stored d w1 w2 n at crc ea r ec e1 e2 =
    let s1 = first d w1 (bytes_of 4 crc) at 4 (length-bytes_of 4 crc) (omega arith) e1 in
    let s2 = number s1 w2 4 mark (omega arith) e2 in
    s2.is ∙ ap₂ (λ (m c : ℕ). paste d m (bytes_of 4 c ++ bytes_of 4 mark) footer_bytes) ea (ec ∙ ap (λ (m : ℕ). crc32c (take m d)) ea)

pub file-stored : (d w1 w2 w3 s l : List ℕ) → Lent s l → file_bytes (length l) ≤ length d → w1 ≡ paste d 0 (header_of (length l)) header_bytes
    → w2 ≡ paste w1 header_bytes (slots_of s l) (slot_bytes * length l) → w3 ≡ paste w2 (slot_place (length l)) (footer_of (take (slot_place (length l)) w2)) footer_bytes
    → w3 ≡ file_of s l ++ drop (file_bytes (length l)) d
unfolding file_of front_of
file-stored d w1 w2 w3 s l lent r e1 e2 e3 =
    let n : ℕ = length l in
    let front : List ℕ = header_of n ++ slots_of s l in
    let s1 = first d w1 (header_of n) 0 header_bytes (length-header n) (omega arith) e1 in
    let s2 = more s1 w2 (slots_of s l) (slot_bytes * n) (length-slots s l lent) (omega arith) e2 in
    let all : take (slot_place n) front ≡ front = take_all (slot_place n) front (omega (arith, s2.long)) in
    let t : take (slot_place n) w2 ≡ front = ap (λ (m : ℕ). take m w2) (sym (zero-add (slot_place n))) ∙ ap (take (0 + slot_place n)) s2.is ∙ take-paste d 0 front (slot_place n) (omega arith) (omega (arith, s2.long)) ∙ all in
    let s3 = more s2 w3 (footer_of front) footer_bytes (length-footer front) (omega arith) (e3 ∙ ap₂ (λ (a : List ℕ) (m : ℕ). paste w2 m (footer_of a) footer_bytes) t (sym (zero-add (slot_place n)))) in
    let whole : take (file_bytes n) (front ++ footer_of front) ≡ front ++ footer_of front = take_all (file_bytes n) (front ++ footer_of front) (omega (arith, s3.long)) in
    s3.is ∙ ap₂ (λ (a : List ℕ) (m : ℕ). a ++ drop m d) whole (zero-add (file_bytes n))
