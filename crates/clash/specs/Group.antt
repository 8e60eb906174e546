-- Internal: the cells of a group of pages on a walk for clashes.
use Rattle.std.specs.Prelude.{ℕ, ◌+◌, ◌*◌, ◌-◌, ◌≤◌, ◌<◌, ◌≡◌, Bool, true, List, length, get_or, Option, Some, None}
use Rattle.std.proofs.Math.Seq.{paste}
use Rattle.endian.specs.Pick.{pick}
use Rattle.endian.specs.Numbers.{bytes_of, number_at}
use Rattle.wal.specs.Entry.{Entry}
use Rattle.wal.specs.Prefix.{Met, said}
use Rattle.rules.specs.Shape.{both, is_change, is_shaped, slot_of, page_of, top_on}
use Rattle.rules.specs.Mend.{top_of}
use Rattle.cells.specs.Cell.{cell_of, Starts}
use Rattle.clash.specs.Newest.{kept, Newest}
use Rattle.clash.specs.First.{is_in}

-- the array `starts` has the cells' starts for some entries, which reach as many slots as the entries before limit; the cells of the group of pages from lo up to hi fit
pub record Ground (s starts : List ℕ) (limit lo hi : ℕ) : Type 0 where
  pub es : List Entry
  pub n : ℕ
  pub begin : Starts es n starts
  pub reach : (p : ℕ) → Met s p → p < limit → (i : ℕ) → top_on i (said s p) ≤ top_of i es
  pub shaped : (p : ℕ) → Met s p → p < limit → is_shaped (said s p) ≡ true
  pub order : lo < hi
  pub within : hi ≤ n
  pub most : n ≤ 4096
  pub size : get_or starts hi 0 ≤ get_or starts lo 0 + 327680

-- cell number c, of two bytes
abbrev pub cell_in : List ℕ → ℕ → ℕ
cell_in space c = number_at 2 (2 * c) space

-- the cells keep the transaction of the newest change on each slot of the group before `at`
pub record Group (s starts space : List ℕ) (limit lo hi at : ℕ) : Type 0 where
  pub ground : Ground s starts limit lo hi
  pub long : length space ≡ 655360
  pub tell : (i k : ℕ) → lo ≤ i → i < hi → k < top_of i ground.es → Newest s at i k (cell_in space (cell_of ground.es lo i k))

-- the cell of the slot that an entry changes, if it is one of the group
unfoldable pub cell_for : List ℕ → ℕ → ℕ → Entry → Option ℕ
cell_for starts lo hi e = pick (both (is_change e) (is_in lo hi e)) (Some (get_or starts (page_of e) 0 - get_or starts lo 0 + slot_of e)) None

-- what is known of the cell of the entry at `at`, if it has one
pub record Known (s starts space : List ℕ) (lo hi at : ℕ) : Type 0 where
  pub rises : is_change (said s at) ≡ true → lo ≤ page_of (said s at) → page_of (said s at) < hi → get_or starts lo 0 ≤ get_or starts (page_of (said s at)) 0
  pub fits : is_change (said s at) ≡ true → lo ≤ page_of (said s at) → page_of (said s at) < hi → get_or starts (page_of (said s at)) 0 - get_or starts lo 0 + slot_of (said s at) < 327680
  pub tells : is_change (said s at) ≡ true → lo ≤ page_of (said s at) → page_of (said s at) < hi
      → Newest s at (page_of (said s at)) (slot_of (said s at)) (cell_in space (get_or starts (page_of (said s at)) 0 - get_or starts lo 0 + slot_of (said s at)))

-- the cells after an entry of transaction t: its own cell, if it has one, keeps t; they stay where it clashes
unfoldable pub noted : Bool → Option ℕ → ℕ → List ℕ → List ℕ
noted clash None t space = space
noted clash (Some c) t space = pick clash space (paste space (2 * c) (bytes_of 2 (kept t)) 2)
