-- Internal: one bit a page, 1 where a slot has named it.
use Rattle.std.specs.Prelude.{ℕ, ◌/◌, ◌%◌, ◌^◌, ◌<◌, ◌≡◌, List, get_or}
use Rattle.endian.specs.Pick.{pick}
use Rattle.page.specs.Layout.{page_limit}
use Rattle.doublewrite.specs.File.{is_named}

-- a bit for each page that may be lent
abbrev pub mark_bytes : ℕ
mark_bytes = page_limit / 8

-- bit i of some bytes, the lowest of a byte first
unfoldable pub bit_at : List ℕ → ℕ → ℕ
bit_at l i = get_or l (i / 8) 0 / 2 ^ (i % 8) % 2

-- the bits of the pages that the first k slots of a file name
pub record Marks (f : List ℕ) (k : ℕ) (l : List ℕ) : Type 0 where
  pub at : (i : ℕ) → i < page_limit → bit_at l i ≡ pick (is_named f i k) 1 0
