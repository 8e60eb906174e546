-- When a page is good (paper 01, Pages).
use Rattle.std.specs.Prelude.{ℕ, ◌+◌, ◌*◌, ◌≤◌, ◌<◌, ◌≡◌, ◌⊎◌, List, [], length}
use Rattle.endian.specs.Numbers.{part}
use Rattle.crc32c.specs.Crc.{crc32c}
use Rattle.page.specs.Layout.{page_bytes, body_bytes, row_head, data_type, last_type, magic_of, type_of, count_of, crc_of, id_of, free_start_of, free_end_of, body_of, slot_off, slot_len, deleted_of}

-- slot k holds a tuple that lies between `end` and the body's end
pub record Filled (b : List ℕ) (end k : ℕ) : Type 0 where
  pub long : row_head ≤ slot_len b k
  pub above : end ≤ slot_off b k
  pub within : slot_off b k + slot_len b k ≤ body_bytes
  pub deleted : deleted_of (part (slot_off b k) (slot_len b k) b) ≤ 1

-- slot k is empty, or holds such a tuple
abbrev pub SlotGood : List ℕ → ℕ → ℕ → Type 0
SlotGood b end k = ((slot_off b k ≡ 0) × (slot_len b k ≡ 0)) ⊎ Filled b end k

-- byte i of the body belongs to the tuple of slot k
abbrev pub Holds : List ℕ → ℕ → ℕ → Type 0
Holds b k i = (slot_off b k ≤ i) × (i < slot_off b k + slot_len b k)

-- what a Data page must have besides
pub record DataGood (p : List ℕ) : Type 0 where
  pub start : free_start_of p ≡ 4 * count_of p
  pub start_end : free_start_of p ≤ free_end_of p
  pub end : free_end_of p ≤ body_bytes
  pub slots : (k : ℕ) → k < count_of p → SlotGood (body_of p) (free_end_of p) k
  pub apart : (j k i : ℕ) → j < k → k < count_of p → Holds (body_of p) j i → Holds (body_of p) k i → ⊥

pub record Good (magic index : ℕ) (p : List ℕ) : Type 0 where
  pub size : length p ≡ page_bytes
  pub magic_fits : magic_of p ≡ magic
  pub type_known : type_of p ≤ last_type
  pub id_fits : id_of p ≡ index
  pub crc_right : crc_of p ≡ crc32c (body_of p)
  pub data_good : type_of p ≡ data_type → DataGood p

-- what may stand in a slot: nothing, or a tuple with a deleted byte of 0 or 1
abbrev pub TupleGood : List ℕ → Type 0
TupleGood t = (t ≡ []) ⊎ ((row_head ≤ length t) × (deleted_of t ≤ 1))
