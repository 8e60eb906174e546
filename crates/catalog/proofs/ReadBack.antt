-- What was written reads back, and an older reader never shows a wrong layout.
-- Assumes nothing.
use mathlib.Core.Path.{◌≡◌, refl, sym, ap, ap₂, ◌∙◌}
use mathlib.Core.Bool.{Bool, true, false}
use Prim.Native.Nat.{ℕ, ◌+◌, ◌-◌, ◌^◌, ◌≤◌, ◌<◌}
use native.Mathlib.Omega.{arith}
use mathlib.Core.List.{List, [], ◌++◌, append_assoc}
use lib.ListN.{length, take, get_or, length-append}
use lib.Seq.{take_all, take_at, drop_at}
use lib.Dec.{ltb, leb, eqb}
use borrow.Author.Tests.{leb-true}
use Rattle.refusals.specs.Verdict.{accepted}
use Rattle.endian.specs.Pick.{pick}
use Rattle.endian.specs.Numbers.{part, bytes_of, number_at}
use Rattle.endian.proofs.Numbers.{length-bytes_of, number-back}
use Rattle.endian.proofs.Places.{part-append, number_same, number_append, number-byte}
use Rattle.catalog.specs.TableRows.{RowAnswer, WriteAnswer, table_of, root_of, schema_length, name_length, names_end, layout_of, part_at, refused_row, laid, row_by, newest_by, row_of, older_row_of, row_bytes, row_length, has_room, refused_writing, write_answer, area_after}
use Rattle.catalog.proofs.Writing.{room-is, row_written}
use Rattle.catalog.proofs.Forms.{laid_as, is-newest, newest-read}

-- ---- an older reader

-- where it answers a layout, the newest reader answers the same
pub older-same : (p : List ℕ) → (older_row_of p).verdict.number ≡ 0 → row_of p ≡ older_row_of p
unfolding row_by
older-same p = go (ltb (length p) (names_end p)) (eqb (length p - names_end p) 0) (eqb (length p - names_end p) 1) (eqb (length p - names_end p) 9) (laid p 0 1) (laid p (layout_of p) 1)
  where
    go : (early none one nine : Bool) (plain lay : RowAnswer)
        → (pick early (refused_row 34) (pick none plain (pick one lay (pick nine (newest_by false p) (refused_row 35))))).verdict.number ≡ 0
        → pick early (refused_row 34) (pick none plain (pick one lay (pick nine (newest_by true p) (refused_row 35))))
        ≡ pick early (refused_row 34) (pick none plain (pick one lay (pick nine (newest_by false p) (refused_row 35))))
    go true b c d x y e = refl
    go false true c d x y e = refl
    go false false true d x y e = refl
    go false false false true x y e = absurd (omega arith)
    go false false false false x y e = refl

-- it refuses the newest form by 38, whatever its layout byte
pub older-refuses : (p : List ℕ) → length p ≡ names_end p + 9 → older_row_of p ≡ refused_row 38
older-refuses p e =
    sym (is-newest p (schema_length p) (name_length p) refl refl (newest_by false) (omega arith) (omega arith))

-- ---- a list's last part

last-part : (a m : List ℕ) (at w : ℕ) → length a ≡ at → length m ≡ w → part at w (a ++ m) ≡ m
last-part a m at w la lm = rw (drop_at a m at la) (take_all w m (omega arith))

last-number : (a : List ℕ) (at w n : ℕ) → length a ≡ at → n < 256 ^ w → number_at w at (a ++ bytes_of w n) ≡ n
unfolding number_at
last-number a at w n la h = rw (last-part a (bytes_of w n) at w la (length-bytes_of w n)) (number-back w n h)

-- ---- what was written

module _ (table root : ℕ) (schema name : List ℕ) (layout version : ℕ) where
  abbrev l0 : List ℕ
  l0 = bytes_of 4 table ++ bytes_of 8 root

  abbrev l1 : List ℕ
  l1 = (l0 ++ bytes_of 1 (length schema)) ++ schema

  abbrev l2 : List ℕ
  l2 = (l1 ++ bytes_of 1 (length name)) ++ name

  abbrev l3 : List ℕ
  l3 = l2 ++ bytes_of 1 layout

  in_parts : row_bytes table root schema name layout version ≡ l3 ++ bytes_of 8 version
  unfolding row_bytes
  in_parts = simp append_assoc

  size0 : length l0 ≡ 12
  size0 = length-append (bytes_of 4 table) (bytes_of 8 root) ∙ omega (arith, length-bytes_of 4 table, length-bytes_of 8 root)

  size0s : length (l0 ++ bytes_of 1 (length schema)) ≡ 13
  size0s = length-append l0 (bytes_of 1 (length schema)) ∙ omega (arith, size0, length-bytes_of 1 (length schema))

  size1 : length l1 ≡ 13 + length schema
  size1 = length-append (l0 ++ bytes_of 1 (length schema)) schema ∙ omega (arith, size0s)

  size1n : length (l1 ++ bytes_of 1 (length name)) ≡ 14 + length schema
  size1n = length-append l1 (bytes_of 1 (length name)) ∙ omega (arith, size1, length-bytes_of 1 (length name))

  size2 : length l2 ≡ 14 + length schema + length name
  size2 = length-append (l1 ++ bytes_of 1 (length name)) name ∙ omega (arith, size1n)

  size3 : length l3 ≡ 15 + length schema + length name
  size3 = length-append l2 (bytes_of 1 layout) ∙ omega (arith, size2, length-bytes_of 1 layout)

  abbrev all : List ℕ
  all = l3 ++ bytes_of 8 version

  sizes : length all ≡ 23 + length schema + length name
  sizes = length-append l3 (bytes_of 8 version) ∙ omega (arith, size3, length-bytes_of 8 version)

  -- ---- a part of the front is the front's part

  to2 : (at w : ℕ) → at + w ≤ length l2 → part at w all ≡ part at w l2
  to2 at w h = part-append at w l3 (bytes_of 8 version) (omega (arith, size2, size3)) ∙ part-append at w l2 (bytes_of 1 layout) h

  to1 : (at w : ℕ) → at + w ≤ length l1 → part at w all ≡ part at w l1
  to1 at w h =
      to2 at w (omega (arith, size1, size2)) ∙ part-append at w (l1 ++ bytes_of 1 (length name)) name (omega (arith, size1, size1n))
      ∙ part-append at w l1 (bytes_of 1 (length name)) h

  to0 : (at w : ℕ) → at + w ≤ length l0 → part at w all ≡ part at w l0
  to0 at w h =
      to1 at w (omega (arith, size0, size1)) ∙ part-append at w (l0 ++ bytes_of 1 (length schema)) schema (omega (arith, size0, size0s))
      ∙ part-append at w l0 (bytes_of 1 (length schema)) h

  pub schema-back : part 13 (length schema) (row_bytes table root schema name layout version) ≡ schema
  schema-back =
      rw in_parts (to1 13 (length schema) (omega (arith, size1)) ∙ last-part (l0 ++ bytes_of 1 (length schema)) schema 13 (length schema) size0s refl)

  pub name_back : part (14 + length schema) (length name) (row_bytes table root schema name layout version) ≡ name
  name_back =
      rw in_parts (to2 (14 + length schema) (length name) (omega (arith, size2)) ∙ last-part (l1 ++ bytes_of 1 (length name)) name (14 + length schema) (length name) size1n refl)

  module _ (ht : table < 256 ^ 4) (hr : root < 256 ^ 8) (hs : length schema ≤ 255) (hn : length name ≤ 255) where
    table-back : table_of all ≡ table
    table-back =
        number_same 4 0 0 all l0 (to0 0 4 (omega (arith, size0))) ∙ number_append 4 0 (bytes_of 4 table) (bytes_of 8 root) (omega (arith, length-bytes_of 4 table))
        ∙ last-number [] 0 4 table refl ht

    root-back : root_of all ≡ root
    root-back = number_same 8 4 4 all l0 (to0 4 8 (omega (arith, size0))) ∙ last-number (bytes_of 4 table) 4 8 root (length-bytes_of 4 table) hr

    schema-length : schema_length all ≡ length schema
    schema-length =
        sym (number-byte 12 all) ∙ number_same 1 12 12 all l1 (to1 12 1 (omega (arith, size1)))
        ∙ number_append 1 12 (l0 ++ bytes_of 1 (length schema)) schema (omega (arith, size0s)) ∙ last-number l0 12 1 (length schema) size0 (omega arith)

    name-length : get_or all (13 + length schema) 0 ≡ length name
    name-length =
        sym (number-byte (13 + length schema) all) ∙ number_same 1 (13 + length schema) (13 + length schema) all l2 (to2 (13 + length schema) 1 (omega (arith, size2)))
        ∙ number_append 1 (13 + length schema) (l1 ++ bytes_of 1 (length name)) name (omega (arith, size1n))
        ∙ last-number l1 (13 + length schema) 1 (length name) size1 (omega arith)

    nine : length all - (14 + length schema + length name) ≡ 9
    nine = omega (arith, sizes)

    -- an older reader refuses it
    pub older-refuses-written : older_row_of (row_bytes table root schema name layout version) ≡ refused_row 38
    older-refuses-written =
        rw in_parts (sym (is-newest all (length schema) (length name) (sym schema-length) (sym name-length) (newest_by false) (omega (arith, sizes)) nine))

    module _ (hl : layout ≤ 1) (hv : version < 256 ^ 8) where
      layout-back : get_or all (14 + length schema + length name) 0 ≡ layout
      layout-back =
          sym (number-byte (14 + length schema + length name) all) ∙ number_append 1 (14 + length schema + length name) l3 (bytes_of 8 version) (omega (arith, size3))
          ∙ last-number l2 (14 + length schema + length name) 1 layout size2 (omega arith)

      version-back : number_at 8 (14 + length schema + length name + 1) all ≡ version
      version-back =
          let e : 14 + length schema + length name + 1 ≡ 15 + length schema + length name = omega arith in
          rw e (last-number l3 (15 + length schema + length name) 8 version size3 hv)

      -- the reader answers what was written
      pub read_back : row_of (row_bytes table root schema name layout version)
          ≡ record { verdict = accepted; table = table; root = record { 0 = root }; schema = part_at 13 (length schema); name = part_at (14 + length schema) (length name); layout = layout; version = version }
      read_back =
          rw in_parts (sym (
          laid_as all (length schema) (length name) (sym schema-length) (sym name-length) layout version table root hl (sym table-back) (sym root-back)
          ∙ ap₂ (laid all) (sym layout-back) (sym version-back)
          ∙ newest-read all (length schema) (length name) (sym schema-length) (sym name-length) (omega (arith, sizes)) nine))

  -- ---- what the writer left in an area

  module _ (area : List ℕ) (ok : (write_answer schema name layout area).verdict.number ≡ 0) where
    -- the layout is known, and there is room
    pub was-right : (leb layout 1 ≡ true) × (has_room (length schema) (length name) (length area) ≡ true)
    unfolding write_answer
    was-right = go (leb layout 1) (has_room (length schema) (length name) (length area)) ok
      where
        go : (t u : Bool) → (pick t (pick u (record { verdict = accepted; length = row_length (length schema) (length name) }) (refused_writing 37)) (refused_writing 36)).verdict.number ≡ 0 → (t ≡ true) × (u ≡ true)
        go true true e = (refl, refl)
        go true false e = absurd (omega arith)
        go false u e = absurd (omega arith)

    -- its first bytes, as many as it says, are the row
    pub written-front : take (write_answer schema name layout area).length (area_after table root schema name layout version area) ≡ row_bytes table root schema name layout version
    written-front =
        let e = row_written table root schema name layout version area was-right.0 was-right.1 in
        let n : length (row_bytes table root schema name layout version) ≡ row_length (length schema) (length name) = ap length in_parts ∙ sizes in
        ap₂ take (sym (ap (λ (w : WriteAnswer). w.length) e.0)) (sym e.1) ∙ take_at (row_bytes table root schema name layout version) _ _ n

    -- they read back as what was written
    pub written-reads : table < 256 ^ 4 → root < 256 ^ 8 → version < 256 ^ 8
        → row_of (take (write_answer schema name layout area).length (area_after table root schema name layout version area))
        ≡ record { verdict = accepted; table = table; root = record { 0 = root }; schema = part_at 13 (length schema); name = part_at (14 + length schema) (length name); layout = layout; version = version }
    written-reads ht hr hv =
        let r = room-is (length schema) (length name) (length area) was-right.1 in
        ap row_of written-front ∙ read_back ht hr r.0 r.1 (leb-true _ _ was-right.0) hv
