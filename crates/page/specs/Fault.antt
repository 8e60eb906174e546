-- The first fault of a page, in this order: magic or type, id, checksum; of a Data page the header's fields, then the slots. And the verdict on a page area (paper 01, Pages,
-- Numbers given back; paper 02, W1).
use Rattle.std.specs.Prelude.{ℕ, zero, suc, ◌+◌, ◌*◌, ◌-◌, ◌%◌, max, min, List, Bool, true, false, Option, Some, None, length, ltb, leb, eqb}
use Rattle.refusals.specs.Refusal.{page_area, page_magic_or_type, page_id, page_checksum, page_slots, page_lsn}
use Rattle.refusals.specs.Verdict.{verdict, accepted, ◌then◌}
use Rattle.endian.specs.Pick.{pick}
use Rattle.endian.specs.Numbers.{part}
use Rattle.crc32c.specs.Crc.{crc32c}
use Rattle.page.specs.Layout.{page_bytes, head_bytes, body_bytes, page_limit, slot_limit, count_at, free_start_at, free_end_at, row_head, data_type, last_type, pages_in, page_at, magic_of, type_of, count_of, crc_of, id_of, lsn_of, free_start_of, free_end_of, body_of, slot_off, slot_len, deleted_of}
use Rattle.page.specs.declared.Fault.{Fault}
use Rattle.page.specs.declared.Fault.TheVariants.{MagicOrType, Id, Checksum, Count, FreeStart, FreeEnd, Slot}
use Rattle.refusals.specs.declared.Verdict.{Verdict}
use Rattle.endian.specs.declared.Lsn.{Lsn}

-- ---- a slot

-- the n bytes at o of a body are a tuple that lies between `end` and `top`
unfoldable pub is_tuple : List ℕ → ℕ → ℕ → ℕ → ℕ → Bool
is_tuple b end top o n =
    pick (leb row_head n) (pick (leb end o) (pick (leb (o + n) top) (leb (deleted_of (part o n b)) 1) false) false) false

-- slot k holds a tuple that lies between `end` and the body's end
unfoldable pub is_filled : List ℕ → ℕ → ℕ → Bool
is_filled b end k = is_tuple b end body_bytes (slot_off b k) (slot_len b k)

unfoldable pub is_empty : List ℕ → ℕ → Bool
is_empty b k = pick (eqb (slot_off b k) 0) (eqb (slot_len b k) 0) false

-- the tuples of slots j and k share a byte
unfoldable pub share : List ℕ → ℕ → ℕ → Bool
share b j k = ltb (max (slot_off b j) (slot_off b k)) (min (slot_off b j + slot_len b j) (slot_off b k + slot_len b k))

-- slot k shares a byte with one of the first n
unfoldable pub shares_earlier : List ℕ → ℕ → ℕ → Bool
shares_earlier b k zero = false
shares_earlier b k (suc n) = pick (share b n k) true (shares_earlier b k n)

-- slot k is at fault by itself or shares a byte with an earlier one
unfoldable pub slot_faulty : List ℕ → ℕ → ℕ → Bool
slot_faulty b end k = pick (pick (is_empty b k) true (is_filled b end k)) (shares_earlier b k k) true

-- the first slot at fault among the n from k on
unfoldable pub slots_fault : List ℕ → ℕ → ℕ → ℕ → Option Fault
slots_fault b end zero k = None
slots_fault b end (suc n) k = pick (slot_faulty b end k) (Some (Slot k)) (slots_fault b end n (suc k))

-- ---- a page

unfoldable pub data_fault : List ℕ → Option Fault
data_fault p =
    pick (ltb slot_limit (count_of p)) (Some Count)
    (pick (eqb (free_start_of p) (4 * count_of p))
    (pick (leb (free_start_of p) (free_end_of p))
    (pick (leb (free_end_of p) body_bytes)
    (slots_fault (body_of p) (free_end_of p) (count_of p) 0)
    (Some FreeEnd))
    (Some FreeEnd))
    (Some FreeStart))

unfoldable pub fault_of : ℕ → ℕ → List ℕ → Option Fault
fault_of magic index p =
    pick (eqb (magic_of p) magic)
    (pick (leb (type_of p) last_type)
    (pick (eqb (id_of p) index)
    (pick (eqb (crc_of p) (crc32c (body_of p)))
    (pick (eqb (type_of p) data_type) (data_fault p) None)
    (Some Checksum))
    (Some Id))
    (Some MagicOrType))
    (Some MagicOrType)

-- no fault
abbrev pub is_sound : Option Fault → Bool
is_sound None = true
is_sound (Some f) = false

-- the slot that a fault names; 0 where it names none
abbrev pub slot_in : Fault → ℕ
slot_in MagicOrType = 0
slot_in Id = 0
slot_in Checksum = 0
slot_in Count = 0
slot_in FreeStart = 0
slot_in FreeEnd = 0
slot_in (Slot k) = k

-- ---- a page area

-- refusal 19: the field or slot at an offset of page i, by its offset in the page area
abbrev pub slot_rule : ℕ → ℕ → Verdict
slot_rule i at = verdict page_slots (page_bytes * i + at)

-- what a fault of the page at an index is refused by, and where
abbrev pub refusal_of : Fault → ℕ → Verdict
refusal_of MagicOrType i = verdict page_magic_or_type i
refusal_of Id i = verdict page_id i
refusal_of Checksum i = verdict page_checksum i
refusal_of Count i = slot_rule i count_at
refusal_of FreeStart i = slot_rule i free_start_at
refusal_of FreeEnd i = slot_rule i free_end_at
refusal_of (Slot k) i = slot_rule i (head_bytes + 4 * k)

abbrev pub fault_verdict : Option Fault → ℕ → Verdict
fault_verdict None i = accepted
fault_verdict (Some f) i = refusal_of f i

-- which LSNs of a page are refused: those above a known one; in verification none
abbrev pub late_at : ℕ → ℕ → Bool
late_at known lsn = ltb known lsn

abbrev pub never_late : ℕ → Bool
never_late lsn = false

-- one of the two, as code is told it
abbrev pub late_of : Option Lsn → ℕ → Bool
late_of None = never_late
late_of (Some known) = late_at known.0

-- the page at an index: its fault, then 12
unfoldable pub page_verdict : (ℕ → Bool) → ℕ → ℕ → List ℕ → Verdict
page_verdict late magic i p = fault_verdict (fault_of magic i p) i then pick (late (lsn_of p)) (verdict page_lsn i) accepted

-- the n pages from i on: the first that is refused
unfoldable pub first_bad : (ℕ → Bool) → ℕ → List ℕ → ℕ → ℕ → Verdict
first_bad late magic s zero i = accepted
first_bad late magic s (suc n) i = page_verdict late magic i (page_at i s) then first_bad late magic s n (suc i)

-- refusal 1: page bytes no multiple of a page's, or too many pages
unfoldable pub size_wrong : List ℕ → Bool
size_wrong s = pick (eqb (length s % page_bytes) 0) (ltb page_limit (pages_in s)) true

-- refusal 1, then the first refusal of the pages from an index on, each as a page of the whole area
unfoldable pub verdict_from : ℕ → List ℕ → ℕ → Verdict
verdict_from magic s i = pick (size_wrong s) (verdict page_area 0) (first_bad never_late magic s (pages_in s - i) i)

-- verification: the pages from 0 on
abbrev pub verdict_of : ℕ → List ℕ → Verdict
verdict_of magic s = verdict_from magic s 0
