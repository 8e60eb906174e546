-- A double-write file: where its parts stand, and what it is refused by (paper 02, W3; source document 000, DW File Format).
use Rattle.std.specs.Prelude.{ℕ, zero, suc, ◌+◌, ◌*◌, List, [], ◌∷◌, Result, Bool, true, false, length, take, ltb, eqb}
use Rattle.endian.specs.Pick.{pick}
use Rattle.endian.specs.Numbers.{part, number_of, number_at}
use Rattle.crc32c.specs.Crc.{crc32c}
use Rattle.refusals.specs.Refusal.{page_area, doublewrite_header, doublewrite_checksum, doublewrite_mark, doublewrite_pages}
use Rattle.refusals.specs.Verdict.{verdict, accepted, answered}
use Rattle.refusals.specs.declared.Verdict.{Verdict}
use Rattle.page.specs.Layout.{page_bytes, page_limit}

-- ---- the parts: a header, slots of a page id and a page each, a footer

abbrev pub header_bytes : ℕ
header_bytes = 16

abbrev pub slot_bytes : ℕ
slot_bytes = 16392

abbrev pub footer_bytes : ℕ
footer_bytes = 8

-- where slot k stands; behind n slots the footer does
abbrev pub slot_place : ℕ → ℕ
slot_place k = header_bytes + slot_bytes * k

-- the bytes of a file of n slots
abbrev pub file_bytes : ℕ → ℕ
file_bytes n = slot_place n + footer_bytes

-- header: the bytes "AXMDBLWR", version 1, slot count
abbrev pub name : List ℕ
name = 0x41 ∷ 0x58 ∷ 0x4D ∷ 0x44 ∷ 0x42 ∷ 0x4C ∷ 0x57 ∷ 0x52 ∷ []

abbrev pub version : ℕ
version = 1

abbrev pub slot_count : List ℕ → ℕ
slot_count f = number_at 4 12 f

-- slot k: a page id, and the copy of that page
abbrev pub id_at : List ℕ → ℕ → ℕ
id_at f k = number_at 8 (slot_place k) f

abbrev pub copy_at : List ℕ → ℕ → List ℕ
copy_at f k = part (slot_place k + 8) page_bytes f

-- footer: CRC32c of header and slots, then a mark
abbrev pub mark : ℕ
mark = 0xDEAD_BEEF

-- ---- what is asked of a file

-- header and size are right: the file is as long as its slot count says
unfoldable pub is_headed : List ℕ → Bool
is_headed f =
    pick (eqb (number_at 8 0 f) (number_of name))
    (pick (eqb (number_at 4 8 f) version)
    (eqb (length f) (file_bytes (slot_count f)))
    false)
    false

-- the checksum behind n slots is right
unfoldable pub is_summed : List ℕ → ℕ → Bool
is_summed f n = eqb (number_at 4 (slot_place n) f) (crc32c (take (slot_place n) f))

-- and so is the mark
unfoldable pub is_marked : List ℕ → ℕ → Bool
is_marked f n = eqb (number_at 4 (slot_place n + 4) f) mark

-- one of the first n slots names page i
unfoldable pub is_named : List ℕ → ℕ → ℕ → Bool
is_named f i zero = false
is_named f i (suc n) = pick (eqb (id_at f n) i) true (is_named f i n)

-- each of the first n slots names one of so many lent pages, and none that a slot before it names
unfoldable pub ids_fit : List ℕ → ℕ → ℕ → Bool
ids_fit f pages zero = true
ids_fit f pages (suc n) = pick (ltb (id_at f n) pages) (pick (is_named f (id_at f n) n) false (ids_fit f pages n)) false

-- ---- refusals

-- of a file for so many pages: 22 to 25 in this order
unfoldable pub file_verdict : List ℕ → ℕ → Verdict
file_verdict f pages =
    pick (is_headed f)
    (pick (is_summed f (slot_count f))
    (pick (is_marked f (slot_count f))
    (pick (ids_fit f pages (slot_count f))
    accepted
    (verdict doublewrite_pages 0))
    (verdict doublewrite_mark 0))
    (verdict doublewrite_checksum 0))
    (verdict doublewrite_header 0)

-- after 1: too many pages
unfoldable pub read_verdict : List ℕ → ℕ → Verdict
read_verdict f pages = pick (ltb page_limit pages) (verdict page_area 0) (file_verdict f pages)

-- ---- reading

-- the slot count, or the verdict that refuses
unfoldable pub contents_of : List ℕ → ℕ → Result ℕ Verdict
contents_of f pages = answered (read_verdict f pages) (slot_count f)

-- the id of slot k; 0 past the count, or where header or size is wrong
unfoldable pub id_of : List ℕ → ℕ → ℕ
id_of f k = pick (is_headed f) (pick (ltb k (slot_count f)) (id_at f k) 0) 0
