-- What the encoder of entries writes reads back: one entry behind any bytes, and a whole log. Assumes nothing.
use Prim.Native.Nat.{ℕ, zero, suc, ◌+◌, ◌-◌, ◌^◌, ◌≤◌, ◌<◌}
use mathlib.Core.Path.{◌≡◌, refl, sym, ap, ap₂, subst, ◌∙◌}
use mathlib.Core.List.{List, [], ◌∷◌, ◌++◌, map, append_assoc, append-nil}
use native.Mathlib.Nat.{add-zero}
use native.Mathlib.Omega.{arith}
use lib.ListN.{length, take, get_or, length-append}
use lib.Seq.{take_at, drop-append-add}
use Rattle.endian.specs.Numbers.{part, bytes_of, number_of, number_at, Bytes}
use Rattle.endian.proofs.Numbers.{length-bytes_of, number-back}
use Rattle.endian.proofs.Places.{part-append}
use Rattle.endian.proofs.Bytes.{bytes}
use Rattle.crc32c.specs.Crc.{crc32c}
use Rattle.crc32c.proofs.Range.{crc-lt}
use Rattle.wal.specs.Entry.{Entry, size_of, sizes_of, entry_of, view_of, views_of, unsealed, encoded, encoded_all, Encodable, AllEncodable, header}
use Rattle.wal.specs.Read.{log_limit, length_at, key_len, old_len, new_len, view, read_at, header_fault}
use Rattle.wal.specs.Walk.{views_from, views, end_from, end_of, entries}
use Rattle.wal.specs.declared.EntryView.{EntryView}
use Rattle.wal.specs.declared.Reading.TheVariants.{Whole}
use Rattle.wal.proofs.ReadLaws.{past_end, right-header}
use Rattle.wal.proofs.WalkLaws.{EntryAt, is_whole, not_end, next, none}

-- ---- lists of bytes one after the other
abbrev joined : List (List ℕ) → List ℕ
joined [] = []
joined (l ∷ ls) = l ++ joined ls

-- each stands behind those before it
field : (k : ℕ) (ls : List (List ℕ)) → k < length ls → part (length (joined (take k ls))) (length (get_or ls k [])) (joined ls) ≡ get_or ls k []
field zero [] h = absurd (omega arith)
field zero (l ∷ ls) h = take_at l (joined ls) (length l) refl
field (suc k) [] h = absurd (omega arith)
field (suc k) (l ∷ ls) h = rw (length-append, drop-append-add) (field k ls (omega arith))

-- a part of bytes that stand behind others
in-log : (h b rest : List ℕ) (i w : ℕ) → i + w ≤ length b → part (length h + i) w (h ++ (b ++ rest)) ≡ part i w b
in-log h b rest i w room = ap (take w) (drop-append-add h (b ++ rest) i) ∙ part-append i w b rest room

-- ---- the parts of an entry
abbrev parts : Entry → List (List ℕ)
parts e =
    bytes_of 4 (size_of e) ∷ bytes_of 8 e.lsn ∷ bytes_of 8 e.txn ∷ bytes_of 1 e.kind ∷ bytes_of 4 e.table ∷ bytes_of 2 (length e.key) ∷ e.key
    ∷ bytes_of 4 (length e.old) ∷ e.old ∷ bytes_of 4 (length e.new) ∷ e.new ∷ bytes_of 4 (crc32c (unsealed e)) ∷ bytes_of 4 (size_of e) ∷ []

encoded-parts : (e : Entry) → encoded e ≡ joined (parts e)
unfolding encoded unsealed
encoded-parts e = simp (append_assoc, append-nil)

ruleset lengths = (length-append, length-bytes_of)

pub size-unsealed : (e : Entry) → length (unsealed e) ≡ size_of e - 8
unfolding unsealed
size-unsealed e = simp lengths (omega arith)

pub size-encoded : (e : Entry) → length (encoded e) ≡ size_of e
size-encoded e = rw (encoded-parts e) (simp lengths (omega arith))

unsealed-first : (e : Entry) → part 0 (size_of e - 8) (encoded e) ≡ unsealed e
unfolding encoded
unsealed-first e = take_at (unsealed e) _ (size_of e - 8) (size-unsealed e)

bytes-unsealed : (e : Entry) → Encodable e → Bytes (unsealed e)
unfolding unsealed
bytes-unsealed e f =
    let k = f.key in
    let o = f.old in
    let n = f.new in
    search bytes depth 20

-- ---- an entry behind the bytes h
module _ (h rest : List ℕ) (e : Entry) (f : Encodable e) where
  abbrev s : List ℕ
  s = h ++ (encoded e ++ rest)

  abbrev p : ℕ
  p = length h

  -- part k of the entry, of w bytes, stands at p + i
  part_at : (k i w : ℕ) → k < 13 → length (joined (take k (parts e))) ≡ i → length (get_or (parts e) k []) ≡ w → i + w ≤ size_of e → part (p + i) w s ≡ get_or (parts e) k []
  part_at k i w n at l room =
      let g : part i w (joined (parts e)) ≡ get_or (parts e) k [] = rw (at, l) at (field k (parts e) n) in
      in-log h (encoded e) rest i w (omega (arith, size-encoded e)) ∙ ap (part i w) (encoded-parts e) ∙ g

  number-at : (k i w x : ℕ) → k < 13 → length (joined (take k (parts e))) ≡ i → get_or (parts e) k [] ≡ bytes_of w x → i + w ≤ size_of e → x < 256 ^ w → number_at w (p + i) s ≡ x
  unfolding number_at
  number-at k i w x n at g room fits = ap number_of (part_at k i w n at (ap length g ∙ length-bytes_of w x) room ∙ g) ∙ number-back w x fits

  long : length_at s p ≡ size_of e
  long = rw add-zero at (number-at 0 0 4 (size_of e) (omega arith) refl refl (omega arith) (omega (arith, f.size)))

  view-encoded : view_of p e ≡ view s p (size_of e)
  unfolding view_of view
  view-encoded =
      let k = length e.key in
      let o = length e.old in
      let n = length e.new in
      let lsn = number-at 1 4 8 e.lsn (omega arith) (simp lengths (omega arith)) refl (omega arith) f.lsn in
      let txn = number-at 2 12 8 e.txn (omega arith) (simp lengths (omega arith)) refl (omega arith) f.txn in
      let kind = number-at 3 20 1 e.kind (omega arith) (simp lengths (omega arith)) refl (omega arith) f.kind in
      let table = number-at 4 21 4 e.table (omega arith) (simp lengths (omega arith)) refl (omega arith) f.table in
      let key : key_len s p ≡ k = number-at 5 25 2 k (omega arith) (simp lengths (omega arith)) refl (omega arith) f.short in
      let old' = number-at 7 (27 + k) 4 o (omega arith) (simp lengths (omega arith)) refl (omega arith) (omega (arith, f.size)) in
      let old : old_len s p ≡ o = ap (λ (i : ℕ). number_at 4 (p + (27 + i)) s) key ∙ old' in
      let new' = number-at 9 (31 + k + o) 4 n (omega arith) (simp lengths (omega arith)) refl (omega arith) (omega (arith, f.size)) in
      let new : new_len s p ≡ n = ap₂ (λ (i j : ℕ). number_at 4 (p + (31 + i + j)) s) key old ∙ new' in
      cc

  pub entry-encoded : 32 ≤ p → EntryAt s p (view_of p e)
  unfolding view_of
  entry-encoded from =
      let n = size_of e in
      let room : n - 8 ≤ length (encoded e) = omega (arith, size-encoded e) in
      let sealed : part p (n - 8) s ≡ unsealed e = rw add-zero at (in-log h (encoded e) rest 0 (n - 8) (omega arith)) ∙ unsealed-first e in
      let crc = number-at 11 (n - 8) 4 (crc32c (unsealed e)) (omega arith) (simp lengths (omega arith)) refl (omega arith) (crc-lt (bytes-unsealed e f)) in
      record {
        from = from;
        low = omega arith;
        high = f.size;
        room = omega (arith, size-encoded e, length-append h (encoded e ++ rest), length-append (encoded e) rest);
        here = refl;
        is = view-encoded;
        inner = refl;
        front = long;
        back = number-at 12 (n - 4) 4 n (omega arith) (simp lengths (omega arith)) refl (omega arith) (omega (arith, f.size));
        sum = crc ∙ ap crc32c (sym sealed);
      }

  -- it reads back
  pub reads-back : 32 ≤ p → read_at s p ≡ Whole (view_of p e)
  reads-back from = is_whole (entry-encoded from)

  -- and says what was written
  pub says_same : entry_of s (view_of p e) ≡ e
  unfolding entry_of view_of
  says_same =
      let key = part_at 6 27 (length e.key) (omega arith) (simp lengths (omega arith)) refl (omega arith) in
      let old = part_at 8 (31 + length e.key) (length e.old) (omega arith) (simp lengths (omega arith)) refl (omega arith) in
      let new = part_at 10 (35 + length e.key + length e.old) (length e.new) (omega arith) (simp lengths (omega arith)) refl (omega arith) in
      rw (key, old, new)

-- ---- entries one after the other, the first behind the bytes h
encoded-more : (e : Entry) (es : List Entry) (rest : List ℕ) → encoded_all (e ∷ es) ++ rest ≡ encoded e ++ (encoded_all es ++ rest)
unfolding encoded_all
encoded-more e es rest = append_assoc (encoded e) (encoded_all es) rest

pub walk-encoded : (s h rest : List ℕ) (p : ℕ) (es : List Entry) → s ≡ h ++ (encoded_all es ++ rest) → length h ≡ p → 32 ≤ p → AllEncodable es
    → (views_from s p ≡ views_of p es ++ views_from s (p + sizes_of es)) × (map (entry_of s) (views_of p es) ≡ es)
unfolding view_of
walk-encoded s h rest p [] is at from fs = (ap (views_from s) (sym (add-zero p)), refl)
walk-encoded s h rest p (e ∷ es) is at from fs =
    let more = encoded_all es ++ rest in
    let here : s ≡ h ++ (encoded e ++ more) = is ∙ ap (λ (l : List ℕ). h ++ l) (encoded-more e es rest) in
    let read : read_at s p ≡ Whole (view_of p e) = rw (← here, at) at (reads-back h more e fs.0 (omega arith)) in
    let says : entry_of s (view_of p e) ≡ e = rw (← here, at) at (says_same h more e fs.0) in
    let behind : length (h ++ encoded e) ≡ p + size_of e = omega (arith, length-append h (encoded e), size-encoded e) in
    let on = walk-encoded s (h ++ encoded e) rest (p + size_of e) es (here ∙ sym (append_assoc h (encoded e) more)) behind (omega arith) fs.1 in
    let sum : p + size_of e + sizes_of es ≡ p + (size_of e + sizes_of es) = omega arith in
    (next s p read ∙ ap (λ (l : List EntryView). view_of p e ∷ l) (rw sum at on.0), ap₂ ◌∷◌ says on.1)

size-all : (es : List Entry) → length (encoded_all es) ≡ sizes_of es
unfolding encoded_all
size-all [] = refl
size-all (e ∷ es) = omega (arith, length-append (encoded e) (encoded_all es), size-encoded e, size-all es)

end-all : (p : ℕ) (es : List Entry) → end_from p (views_of p es) ≡ p + sizes_of es
unfolding view_of
end-all p [] = omega arith
end-all p (e ∷ es) = omega (arith, end-all (p + size_of e) es)

-- ---- a log of a header h, entries, and what is no entry
module _ (h rest : List ℕ) (wide : length h ≡ 32) (es : List Entry) (fs : AllEncodable es)
    (stop : (v : EntryView) → read_at (h ++ (encoded_all es ++ rest)) (32 + sizes_of es) ≡ Whole v → ⊥) where
  abbrev log : List ℕ
  log = h ++ (encoded_all es ++ rest)

  pub views-encoded : views log ≡ views_of 32 es
  views-encoded =
      (walk-encoded log h rest 32 es refl wide (omega arith) fs).0 ∙ rw (none log (32 + sizes_of es) stop) (append-nil (views_of 32 es))

  pub entries-encoded : entries log ≡ es
  entries-encoded = rw views-encoded (walk-encoded log h rest 32 es refl wide (omega arith) fs).1

  pub end-encoded : end_of log ≡ 32 + sizes_of es
  end-encoded = rw views-encoded (end-all 32 es)

-- ---- a log of the file header and entries, and nothing else
module _ (es : List Entry) (fs : AllEncodable es) where
  wide : length header ≡ 32
  unfolding header bytes_of
  wide = refl

  pub length-log : length (header ++ encoded_all es) ≡ 32 + sizes_of es
  length-log = length-append header (encoded_all es) ∙ omega (arith, wide, size-all es)

  plain : header ++ (encoded_all es ++ []) ≡ header ++ encoded_all es
  plain = ap (λ (l : List ℕ). header ++ l) (append-nil (encoded_all es))

  stop : (v : EntryView) → read_at (header ++ (encoded_all es ++ [])) (32 + sizes_of es) ≡ Whole v → ⊥
  stop v q = not_end (past_end (header ++ (encoded_all es ++ [])) (32 + sizes_of es) (omega (arith, ap length plain, length-log)) ∙ q)

  pub entries-log : entries (header ++ encoded_all es) ≡ es
  entries-log = subst (λ (l : List ℕ). entries l ≡ es) plain (entries-encoded header [] wide es fs stop)

  pub end-log : end_of (header ++ encoded_all es) ≡ length (header ++ encoded_all es)
  end-log = subst (λ (l : List ℕ). end_of l ≡ 32 + sizes_of es) plain (end-encoded header [] wide es fs stop) ∙ sym length-log

  pub header-log : length (header ++ encoded_all es) ≤ log_limit → header_fault (header ++ encoded_all es) ≡ 0
  unfolding header bytes_of number_at number_of
  header-log fits = sym (right-header (header ++ encoded_all es) fits (omega (arith, length-log)) refl refl)
