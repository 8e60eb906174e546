-- Writing a double-write file (paper 02, W3).
use Rattle.std.specs.Prelude.{ℕ, suc, List, [], ◌∷◌, ◌++◌, Result, Bool, true, false, length, drop, ltb, leb, eqb}
use Rattle.endian.specs.Pick.{pick}
use Rattle.endian.specs.Numbers.{bytes_of}
use Rattle.crc32c.specs.Crc.{crc32c}
use Rattle.refusals.specs.Refusal.{page_area, doublewrite_pages, doublewrite_short}
use Rattle.refusals.specs.Verdict.{verdict, accepted, answered}
use Rattle.refusals.specs.declared.Verdict.{Verdict}
use Rattle.page.specs.Layout.{pages_in, page_at}
use Rattle.page.specs.Fault.{size_wrong}
use Rattle.doublewrite.specs.File.{file_bytes, name, version, mark}

-- ---- the file of a list of pages of an area

unfoldable pub header_of : ℕ → List ℕ
header_of n = name ++ (bytes_of 4 version ++ bytes_of 4 n)

unfoldable pub slot_of : List ℕ → ℕ → List ℕ
slot_of s i = bytes_of 8 i ++ page_at i s

unfoldable pub slots_of : List ℕ → List ℕ → List ℕ
slots_of s [] = []
slots_of s (i ∷ list) = slot_of s i ++ slots_of s list

unfoldable pub footer_of : List ℕ → List ℕ
footer_of front = bytes_of 4 (crc32c front) ++ bytes_of 4 mark

unfoldable pub front_of : List ℕ → List ℕ → List ℕ
front_of s list = header_of (length list) ++ slots_of s list

unfoldable pub file_of : List ℕ → List ℕ → List ℕ
file_of s list = front_of s list ++ footer_of (front_of s list)

-- ---- refusals

-- a list strictly rises, from `least` on, and names none but the first so many pages
unfoldable pub rises : ℕ → ℕ → List ℕ → Bool
rises least pages [] = true
rises least pages (i ∷ list) = pick (leb least i) (pick (ltb i pages) (rises (suc i) pages list) false) false

-- 1; then 25; then 26, exactly when the area is too short
unfoldable pub write_verdict : List ℕ → List ℕ → List ℕ → Verdict
write_verdict s list area =
    pick (size_wrong s) (verdict page_area 0)
    (pick (rises 0 (pages_in s) list)
    (pick (ltb (length area) (file_bytes (length list))) (verdict doublewrite_short 0) accepted)
    (verdict doublewrite_pages 0))

-- ---- all of it

-- the length written, or the verdict that refuses
unfoldable pub written_of : List ℕ → List ℕ → List ℕ → Result ℕ Verdict
written_of s list area = answered (write_verdict s list area) (file_bytes (length list))

-- the area then: the file, and its later bytes as they were; refused, as lent
unfoldable pub file_after : List ℕ → List ℕ → List ℕ → List ℕ
file_after s list area =
    pick (eqb (write_verdict s list area).number 0)
    (file_of s list ++ drop (file_bytes (length list)) area)
    area
