-- Internal: what one walk over the entries before a place finds of each page.
use Rattle.std.specs.Prelude.{ℕ, ◌+◌, ◌≤◌, ◌<◌, ◌≡◌, Bool, true, false, List, length, get_or, leb}
use Rattle.endian.specs.Numbers.{number_at}
use Rattle.wal.specs.Entry.{Entry}
use Rattle.wal.specs.Prefix.{Met, said, before}
use Rattle.rules.specs.Shape.{both, is_change, is_shaped, page_of}
use Rattle.rules.specs.Order.{any, last_lsn}
use Rattle.rules.specs.Mend.{top_of, last_on}

-- each entry before stop has its shape, and an LSN above the last one before it
pub record Sound (s : List ℕ) (stop : ℕ) : Type 0 where
  pub shaped : {p : ℕ} → Met s p → p < stop → is_shaped (said s p) ≡ true
  pub rises : {p : ℕ} → Met s p → p < stop → last_lsn (before s p) < (said s p).lsn

-- the array a has for each page i of the first n, one place further on, one more than its highest touched slot, and 0 at the front
pub record Tops (es : List Entry) (n : ℕ) (a : List ℕ) : Type 0 where
  pub front : get_or a 0 0 ≡ 0
  pub at : (i : ℕ) → i < n → get_or a (i + 1) 0 ≡ top_of i es

-- the entry at place p has the LSN of the last change on page i before stop
pub record LastAt (s : List ℕ) (stop i p : ℕ) : Type 0 where
  pub from : 32 ≤ p
  pub room : p + 12 ≤ length s
  pub is : number_at 8 (p + 4) s ≡ last_on i (before s stop)

-- the array a has for each of the first n pages the place of the last change on it before stop, or 0 where the page is untouched
pub record Lasts (s : List ℕ) (stop n : ℕ) (a : List ℕ) : Type 0 where
  pub none : (i : ℕ) → i < n → top_of i (before s stop) ≡ 0 → get_or a i 0 ≡ 0
  pub some : (i : ℕ) → i < n → 0 < top_of i (before s stop) → LastAt s stop i (get_or a i 0)

-- a change on page n or a later one
unfoldable pub is_beyond : ℕ → Entry → Bool
is_beyond n e = both (is_change e) (leb n (page_of e))

-- r is the place of the first such change before stop, or stop where there is none
pub record FirstBeyond (s : List ℕ) (stop n r : ℕ) : Type 0 where
  pub met : Met s r
  pub low : r ≤ stop
  pub none : any (is_beyond n) (before s r) ≡ false
  pub some : r < stop → is_beyond n (said s r) ≡ true
