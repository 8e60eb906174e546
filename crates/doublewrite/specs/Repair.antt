-- Repair: torn pages restored from a double-write file (paper 02, W3).
use Rattle.std.specs.Prelude.{ℕ, zero, suc, ◌+◌, List, [], ◌++◌, Result, Bool, false, not, length, eqb}
use Rattle.endian.specs.Pick.{pick}
use Rattle.crc32c.specs.Crc.{crc32c}
use Rattle.refusals.specs.Refusal.{page_area}
use Rattle.refusals.specs.Verdict.{verdict, answered}
use Rattle.refusals.specs.declared.Verdict.{Verdict}
use Rattle.page.specs.Layout.{page_bytes, pages_in, page_at, crc_of, body_of}
use Rattle.page.specs.Fault.{fault_of, is_sound, size_wrong}
use Rattle.doublewrite.specs.File.{slot_count, id_at, copy_at, file_verdict}

-- ---- one page

-- the copy of page i in the first n slots of a file; [] where none of them names it
unfoldable pub copy_in : List ℕ → ℕ → ℕ → List ℕ
copy_in f i zero = []
copy_in f i (suc n) = pick (eqb (id_at f n) i) (copy_at f n) (copy_in f i n)

-- and in the whole file
abbrev pub copy_of : List ℕ → ℕ → List ℕ
copy_of f i = copy_in f i (slot_count f)

-- a page has a wrong body checksum
unfoldable pub is_torn : List ℕ → Bool
is_torn p = not (eqb (crc_of p) (crc32c (body_of p)))

-- a copy is a good page with the id i
unfoldable pub is_good : ℕ → ℕ → List ℕ → Bool
is_good magic i c = pick (eqb (length c) page_bytes) (is_sound (fault_of magic i c)) false

-- the copy c of page i, which is p, is taken
unfoldable pub is_taken : ℕ → ℕ → List ℕ → List ℕ → Bool
is_taken magic i c p = pick (is_torn p) (is_good magic i c) false

unfoldable pub repaired_page : ℕ → ℕ → List ℕ → List ℕ → List ℕ
repaired_page magic i c p = pick (is_taken magic i c p) c p

-- ---- a page area

-- the n pages of s from i on, repaired by the first k slots of a file
unfoldable pub repaired_by : ℕ → List ℕ → ℕ → List ℕ → ℕ → ℕ → List ℕ
repaired_by magic f k s zero i = []
repaired_by magic f k s (suc n) i = repaired_page magic i (copy_in f i k) (page_at i s) ++ repaired_by magic f k s n (suc i)

-- how many of them are restored
unfoldable pub restored_by : ℕ → List ℕ → ℕ → List ℕ → ℕ → ℕ → ℕ
restored_by magic f k s zero i = zero
restored_by magic f k s (suc n) i = pick (is_taken magic i (copy_in f i k) (page_at i s)) 1 0 + restored_by magic f k s n (suc i)

abbrev pub repaired : ℕ → List ℕ → List ℕ → List ℕ
repaired magic f s = repaired_by magic f (slot_count f) s (pages_in s) 0

abbrev pub restored : ℕ → List ℕ → List ℕ → ℕ
restored magic f s = restored_by magic f (slot_count f) s (pages_in s) 0

-- ---- all of it

-- 1, then 22 to 25
unfoldable pub repair_verdict : List ℕ → List ℕ → Verdict
repair_verdict s f = pick (size_wrong s) (verdict page_area 0) (file_verdict f (pages_in s))

-- the count of pages restored, or the verdict that refuses
unfoldable pub repair_of : ℕ → List ℕ → List ℕ → Result ℕ Verdict
repair_of magic s f = answered (repair_verdict s f) (restored magic f s)

-- the pages then; refused, as lent
unfoldable pub pages_after : ℕ → List ℕ → List ℕ → List ℕ
pages_after magic s f = pick (eqb (repair_verdict s f).number 0) (repaired magic f s) s
