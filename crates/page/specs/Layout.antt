-- Where the fields of a page, of a slot and of a row header stand (paper 01, Pages).
use Rattle.std.specs.Prelude.{ℕ, ◌+◌, ◌*◌, ◌/◌, List, [], length, drop, ltb}
use Rattle.endian.specs.Pick.{pick}
use Rattle.endian.specs.Numbers.{part, number_at}

-- ---- sizes and limits

abbrev pub page_bytes : ℕ
page_bytes = 16384

abbrev pub head_bytes : ℕ
head_bytes = 64

abbrev pub body_bytes : ℕ
body_bytes = 16320

-- refusal 1: more pages
abbrev pub page_limit : ℕ
page_limit = 4096

-- a body has room for no more slots
abbrev pub slot_limit : ℕ
slot_limit = 4080

-- ---- a page area: how many pages it has, and page i of it

abbrev pub pages_in : List ℕ → ℕ
pages_in s = length s / page_bytes

abbrev pub page_at : ℕ → List ℕ → List ℕ
page_at i s = part (i * page_bytes) page_bytes s

-- ---- the header of a page: where its fields stand, and what they hold

abbrev pub type_at : ℕ
type_at = 8

abbrev pub count_at : ℕ
count_at = 10

abbrev pub free_start_at : ℕ
free_start_at = 32

abbrev pub free_end_at : ℕ
free_end_at = 34

abbrev pub reserved_at : ℕ
reserved_at = 36

abbrev pub reserved_bytes : ℕ
reserved_bytes = 28

abbrev pub magic_of : List ℕ → ℕ
magic_of p = number_at 8 0 p

abbrev pub type_of : List ℕ → ℕ
type_of p = number_at 1 type_at p

abbrev pub flags_of : List ℕ → ℕ
flags_of p = number_at 1 9 p

abbrev pub count_of : List ℕ → ℕ
count_of p = number_at 2 count_at p

abbrev pub crc_of : List ℕ → ℕ
crc_of p = number_at 4 12 p

abbrev pub id_of : List ℕ → ℕ
id_of p = number_at 8 16 p

abbrev pub lsn_of : List ℕ → ℕ
lsn_of p = number_at 8 24 p

abbrev pub free_start_of : List ℕ → ℕ
free_start_of p = number_at 2 free_start_at p

abbrev pub free_end_of : List ℕ → ℕ
free_end_of p = number_at 2 free_end_at p

abbrev pub reserved_of : List ℕ → List ℕ
reserved_of p = part reserved_at reserved_bytes p

abbrev pub body_of : List ℕ → List ℕ
body_of p = drop head_bytes p

-- the types that recovery knows by name
abbrev pub data_type : ℕ
data_type = 1

abbrev pub free_type : ℕ
free_type = 4

abbrev pub last_type : ℕ
last_type = 6

-- ---- the slots of a body: an offset and a length each, (0, 0) for an empty one

abbrev pub slot_off : List ℕ → ℕ → ℕ
slot_off b k = number_at 2 (4 * k) b

abbrev pub slot_len : List ℕ → ℕ → ℕ
slot_len b k = number_at 2 (4 * k + 2) b

-- the tuple of slot k of a page; [] is no tuple: an empty slot, or one past the item count
unfoldable pub slot_at : List ℕ → ℕ → List ℕ
slot_at p k = pick (ltb k (count_of p)) (part (slot_off (body_of p) k) (slot_len (body_of p) k) (body_of p)) []

-- where in a page area the tuple of slot k starts, p being page i of it
abbrev pub tuple_offset : ℕ → List ℕ → ℕ → ℕ
tuple_offset i p k = i * page_bytes + (head_bytes + slot_off (body_of p) k)

-- ---- a tuple: a row header of 24 bytes, and its payload

abbrev pub row_head : ℕ
row_head = 24

abbrev pub longest_tuple : ℕ
longest_tuple = 16316

abbrev pub xmin_of : List ℕ → ℕ
xmin_of t = number_at 8 0 t

abbrev pub xmax_of : List ℕ → ℕ
xmax_of t = number_at 8 8 t

abbrev pub deleted_of : List ℕ → ℕ
deleted_of t = number_at 1 16 t

abbrev pub pad_of : List ℕ → ℕ
pad_of t = number_at 7 17 t

abbrev pub payload_of : List ℕ → List ℕ
payload_of t = drop row_head t
