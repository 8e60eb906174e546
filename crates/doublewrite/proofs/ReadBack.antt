-- A file that was written reads back: it is accepted, and holds the pages of its list.
-- Assumes nothing.
use mathlib.Core.Path.{◌≡◌, refl, sym, ap, ◌∙◌}
use mathlib.Core.Bool.{true, false}
use Prim.Native.Nat.{ℕ, zero, suc, ◌+◌, ◌*◌, ◌^◌, ◌≤◌, ◌<◌}
use native.Mathlib.Omega.{arith}
use mathlib.Core.List.{List, [], ◌∷◌, ◌++◌, append_assoc}
use lib.ListN.{length, take, drop, get_or, length-append}
use lib.Seq.{drop-cons, drop-nil, drop-length, drop_at, drop-drop, take_at, take_all, drop-append-le}
use borrow.Author.Tests.{lt-ltb, eq-eqb, ne_eqb}
use Rattle.endian.specs.Numbers.{bytes_of, number_of, number_at, Bytes}
use Rattle.endian.proofs.Numbers.{length-bytes_of, number-back}
use Rattle.endian.proofs.Bytes.{bytes-nil, bytes-append, bytes-of, bytes_take, bytes_drop}
use Rattle.crc32c.specs.Crc.{crc32c}
use Rattle.crc32c.proofs.Range.{crc-lt}
use Rattle.refusals.specs.Verdict.{accepted}
use Rattle.page.specs.Layout.{page_bytes, page_limit, pages_in, page_at}
use Rattle.page.proofs.Verdicts.{page-length}
use Rattle.doublewrite.specs.File.{slot_bytes, slot_place, file_bytes, name, mark, slot_count, id_at, copy_at, is_headed, is_summed, is_marked, is_named, ids_fit, file_verdict}
use Rattle.doublewrite.specs.Write.{header_of, slot_of, slots_of, footer_of, front_of, file_of, rises}
use Rattle.doublewrite.proofs.FileLaws.{case-fine}
use Rattle.doublewrite.proofs.Listed.{rise-each, rise-order, rise-length}
use Rattle.doublewrite.proofs.Writing.{name-bytes, Lent, length-slot, length-header, length-footer, length_front}

-- ---- the bytes behind k slots

slots-behind : (s l : List ℕ) (k : ℕ) → Lent s l → drop (slot_bytes * k) (slots_of s l) ≡ slots_of s (drop k l)
unfolding slots_of
slots-behind s l zero h = refl
slots-behind s [] (suc k) h = drop-nil {A = ℕ} (slot_bytes * suc k)
slots-behind s (i ∷ l) (suc k) h =
    let e : slot_bytes * suc k ≡ slot_bytes + slot_bytes * k = omega arith in
    rw (e, ← drop-drop (slot_bytes * k) slot_bytes (slot_of s i ++ slots_of s l), drop_at (slot_of s i) (slots_of s l) slot_bytes (length-slot s i (h 0 (omega arith))))
    (slots-behind s l k (λ j a. h (suc j) (omega arith)))

module _ (s l : List ℕ) (lent : Lent s l) where
  abbrev F : List ℕ
  F = file_of s l

  abbrev foot : List ℕ
  foot = footer_of (front_of s l)

  behind : (k : ℕ) → k ≤ length l → drop (slot_place k) F ≡ slots_of s (drop k l) ++ foot
  unfolding file_of front_of
  behind k h =
      let front : List ℕ = header_of (length l) ++ slots_of s l in
      rw (drop-append-le (slot_place k) front (footer_of front) (omega (arith, length-front' front refl)), ← drop-drop (slot_bytes * k) 16 front, drop_at (header_of (length l)) (slots_of s l) 16 (length-header (length l)), slots-behind s l k lent)
    where
      length-front' : (front : List ℕ) → front ≡ front_of s l → length front ≡ slot_place (length l)
      length-front' front e = ap length e ∙ length_front s l lent

  length-file : length F ≡ file_bytes (length l)
  unfolding file_of
  length-file = length-append (front_of s l) foot ∙ omega (arith, length_front s l lent, length-footer (front_of s l))

  -- ---- its fields

  file-name : number_at 8 0 F ≡ number_of name
  unfolding file_of front_of header_of number_at
  file-name = refl

  file-version : number_at 4 8 F ≡ 1
  unfolding file_of front_of header_of number_at number_of bytes_of
  file-version = refl

  pub file-count : length l < 2 ^ 32 → slot_count F ≡ length l
  unfolding file_of front_of header_of number_at bytes_of
  file-count h = number-back 4 (length l) (omega arith)

  -- slot k
  slot-behind : (k : ℕ) → k < length l → drop (slot_place k) F ≡ bytes_of 8 (get_or l k 0) ++ (page_at (get_or l k 0) s ++ (slots_of s (drop (suc k) l) ++ foot))
  unfolding slots_of slot_of
  slot-behind k h =
      behind k (omega arith) ∙ rw (drop-cons l k 0 h)
      (append_assoc (bytes_of 8 (get_or l k 0) ++ page_at (get_or l k 0) s) (slots_of s (drop (suc k) l)) foot
      ∙ append_assoc (bytes_of 8 (get_or l k 0)) (page_at (get_or l k 0) s) (slots_of s (drop (suc k) l) ++ foot))

  pub file-id : (k : ℕ) → k < length l → get_or l k 0 < 2 ^ 64 → id_at F k ≡ get_or l k 0
  unfolding number_at
  file-id k h b =
      ap (λ (r : List ℕ). number_of (take 8 r)) (slot-behind k h)
      ∙ ap number_of (take_at (bytes_of 8 (get_or l k 0)) _ 8 (length-bytes_of 8 (get_or l k 0))) ∙ number-back 8 (get_or l k 0) (omega arith)

  pub file-copy : (k : ℕ) → k < length l → copy_at F k ≡ page_at (get_or l k 0) s
  file-copy k h =
      let i : ℕ = get_or l k 0 in
      ap (take page_bytes) (sym (drop-drop 8 (slot_place k) F) ∙ ap (drop 8) (slot-behind k h) ∙ drop_at (bytes_of 8 i) _ 8 (length-bytes_of 8 i))
      ∙ take_at (page_at i s) _ page_bytes (page-length s i (lent k h))

  foot-behind : drop (slot_place (length l)) F ≡ foot
  unfolding slots_of
  foot-behind = behind (length l) (omega arith) ∙ ap (λ (r : List ℕ). slots_of s r ++ foot) (drop-length l)

  front-before : take (slot_place (length l)) F ≡ front_of s l
  unfolding file_of
  front-before = take_at (front_of s l) foot (slot_place (length l)) (length_front s l lent)

  -- ---- what is asked of it

  module _ (few : length l < 2 ^ 32) where
    file-headed : is_headed F ≡ true
    unfolding is_headed
    file-headed = rw (file-name, eq-eqb (number_of name) (number_of name) refl, file-version, file-count few, length-file) (eq-eqb (file_bytes (length l)) (file_bytes (length l)) refl)

    mark-number : number_at 4 (slot_place (length l) + 4) F ≡ mark
    unfolding number_at footer_of
    mark-number =
        ap (λ (r : List ℕ). number_of (take 4 r)) (sym (drop-drop 4 (slot_place (length l)) F) ∙ ap (drop 4) foot-behind ∙ drop_at (bytes_of 4 (crc32c (front_of s l))) (bytes_of 4 mark) 4 (length-bytes_of 4 (crc32c (front_of s l))))
        ∙ ap number_of (take_all 4 (bytes_of 4 mark) (omega (arith, length-bytes_of 4 mark))) ∙ number-back 4 mark (omega arith)

    file-marked : is_marked F (length l) ≡ true
    unfolding is_marked
    file-marked = eq-eqb (number_at 4 (slot_place (length l) + 4) F) mark mark-number

    -- the checksum fits its four bytes where the pages are bytes
    module _ (bytes : Bytes s) where
      slots-bytes : (m : List ℕ) → Bytes (slots_of s m)
      unfolding slots_of slot_of
      slots-bytes [] = bytes-nil
      slots-bytes (i ∷ m) = bytes-append (bytes-append (bytes-of 8 i) (bytes_take page_bytes (bytes_drop (i * page_bytes) bytes))) (slots-bytes m)

      front_bytes : Bytes (front_of s l)
      unfolding front_of header_of
      front_bytes =
          let b : Bytes name = rw name-bytes at (bytes-of 8 0x5257_4C42_444D_5841) in
          bytes-append (bytes-append b (bytes-append (bytes-of 4 1) (bytes-of 4 (length l)))) (slots-bytes l)

      pub file-bytes : Bytes (file_of s l)
      unfolding file_of footer_of
      file-bytes = bytes-append front_bytes (bytes-append (bytes-of 4 (crc32c (front_of s l))) (bytes-of 4 mark))

      sum_number : number_at 4 (slot_place (length l)) F ≡ crc32c (front_of s l)
      unfolding number_at footer_of
      sum_number =
          ap (λ (r : List ℕ). number_of (take 4 r)) foot-behind ∙ ap number_of (take_at (bytes_of 4 (crc32c (front_of s l))) (bytes_of 4 mark) 4 (length-bytes_of 4 (crc32c (front_of s l))))
          ∙ number-back 4 (crc32c (front_of s l)) (omega (arith, crc-lt front_bytes))

      file-summed : is_summed F (length l) ≡ true
      unfolding is_summed
      file-summed = rw front-before (eq-eqb (number_at 4 (slot_place (length l)) F) (crc32c (front_of s l)) sum_number)

-- ---- the file of a list that strictly rises

module _ (s l : List ℕ) (few : pages_in s ≤ page_limit) (rise : rises 0 (pages_in s) l ≡ true) where
  pub rise-lent : Lent s l
  rise-lent k h = (rise-each 0 (pages_in s) l rise k h).1

  rise-few : length l ≤ page_limit
  rise-few = omega (arith, rise-length 0 (pages_in s) l rise (omega arith))

  pub rise-count : slot_count (file_of s l) ≡ length l
  rise-count = file-count s l rise-lent (omega (arith, rise-few))

  pub rise-id : (k : ℕ) → k < length l → id_at (file_of s l) k ≡ get_or l k 0
  rise-id k h = file-id s l rise-lent k h (omega (arith, rise-lent k h))

  -- none of the first n slots names what stands behind them in the list
  fresh : (n k : ℕ) → n ≤ k → k < length l → is_named (file_of s l) (get_or l k 0) n ≡ false
  unfolding is_named
  fresh zero k a b = refl
  fresh (suc n) k a b =
      rw (rise-id n (omega arith), ne_eqb (get_or l n 0) (get_or l k 0) (λ e. omega (arith, rise-order 0 (pages_in s) l rise n k (omega arith) b))) (fresh n k (omega arith) b)

  ids : (n : ℕ) → n ≤ length l → ids_fit (file_of s l) (pages_in s) n ≡ true
  unfolding ids_fit
  ids zero h = refl
  ids (suc n) h =
      rw (rise-id n (omega arith), lt-ltb (get_or l n 0) (pages_in s) (rise-lent n (omega arith)), fresh n n (omega arith) (omega arith)) (ids n (omega arith))

  -- what was written is accepted
  pub written_read : Bytes s → file_verdict (file_of s l) (pages_in s) ≡ accepted
  written_read bytes =
      let m : length l < 2 ^ 32 = omega (arith, rise-few) in
      sym (case-fine (file_of s l) (pages_in s) (file-headed s l rise-lent m) (length l) (sym rise-count) (file-summed s l rise-lent m bytes) (file-marked s l rise-lent m) (ids (length l) (omega arith)))
