-- Internal: the first Begins and endings of a block of transaction numbers, and what they tell of the order of transactions.
use Rattle.std.specs.Prelude.{ℕ, ◌≤◌, ◌<◌, ◌≡◌, List, Bool, true, not, length, take, ltb, leb, eqb}
use Rattle.endian.specs.Pick.{pick}
use Rattle.wal.specs.Entry.{Entry}
use Rattle.wal.specs.Read.{first}
use Rattle.wal.specs.Walk.{entries}
use Rattle.wal.specs.Prefix.{Met, Stands, said, before}
use Rattle.rules.specs.Shape.{both, either}
use Rattle.rules.specs.Order.{is_begin, begun, ended, in_order}
use Rattle.index.specs.Places.{number, Places, Rising}
use Rattle.index.specs.Index.{lookup}
use Rattle.index.specs.Collect.{Lowered, Indexed}
use Rattle.firsts.specs.First.{places_of, is_end, FirstOf}
use Rattle.firsts.specs.Tests.{Fails}
use Rattle.order.specs.declared.Holding.{Holding}
use Rattle.order.specs.declared.Block.{Block}

-- the highest transaction number
abbrev pub top_number : ℕ
top_number = 18446744073709551615

-- the places of the Begins before `at`, and of the endings
abbrev pub begins_before : List ℕ → ℕ → List ℕ
begins_before s at = places_of is_begin (before s at) first

abbrev pub ends_before : List ℕ → ℕ → List ℕ
ends_before s at = places_of is_end (before s at) first

-- of these, two arrays hold the first of each number from lo on, up to where each range ends
pub record Gathered (s : List ℕ) (lo at : ℕ) (h : Holding) (bs es : List ℕ) : Type 0 where
  pub begins_fit : h.begins.len ≤ length bs
  pub ends_fit : h.ends.len ≤ length es
  pub begins : Lowered s lo top_number (begins_before s at) h.begins.hi.0 (take h.begins.len bs)
  pub ends : Lowered s lo top_number (ends_before s at) h.ends.hi.0 (take h.ends.len es)

-- the two arrays hold a block
pub record Blocked (s : List ℕ) (b : Block) (bs es : List ℕ) : Type 0 where
  pub met : Met s b.stop
  pub range : b.lo.0 ≤ b.hi.0
  pub begins_fit : b.begins ≤ length bs
  pub ends_fit : b.ends ≤ length es
  pub begins : Indexed s b.lo.0 b.hi.0 (begins_before s b.stop) (take b.begins bs)
  pub ends : Indexed s b.lo.0 b.hi.0 (ends_before s b.stop) (take b.ends es)

-- the numbers of a block: those from lo to hi; a range that ends with the highest number has no end
unfoldable pub in_block : ℕ → ℕ → ℕ → Bool
in_block lo hi t = both (leb lo t) (either (leb t hi) (eqb hi top_number))

-- the place q, which is none where it is 0, is before `at`
abbrev pub is_before : ℕ → ℕ → Bool
is_before q at = both (not (eqb q 0)) (ltb q at)

-- looking a number of lo to hi up among some first Begins and endings tells whether it has begun and ended before any place up to `stop`
pub record Telling (s : List ℕ) (lo hi stop : ℕ) (bs es : List ℕ) : Type 0 where
  pub begin_places : Places s bs
  pub begins_rise : Rising (number s) bs
  pub end_places : Places s es
  pub ends_rise : Rising (number s) es
  pub tells_begun : (t at : ℕ) → lo ≤ t → t ≤ hi → Met s at → at ≤ stop → begun (before s at) t ≡ is_before (lookup (number s) t bs) at
  pub tells_ended : (t at : ℕ) → lo ≤ t → t ≤ hi → Met s at → at ≤ stop → ended (before s at) t ≡ is_before (lookup (number s) t es) at

-- an entry of the block's is in order; others are not looked at
unfoldable pub right_in : ℕ → ℕ → List Entry → Entry → Bool
right_in lo hi xs e = pick (in_block lo hi e.txn) (in_order xs e) true

-- no entry before `at` is wrong
pub record RightBefore (s : List ℕ) (lo hi at : ℕ) : Type 0 where
  pub met : Met s at
  pub right : (p : ℕ) → Met s p → Stands s p → p < at → right_in lo hi (before s p) (said s p) ≡ true

-- r is the first entry before stop that is out of order and has a number that R names, or stop
pub record FirstWrong (s : List ℕ) (R : ℕ → Bool) (stop r : ℕ) : Type 0 where
  pub met : Met s r
  pub is : FirstOf (Fails R in_order) (entries s) first stop r

-- the numbers below lo
abbrev pub below : ℕ → ℕ → Bool
below lo t = ltb t lo

-- every number
abbrev pub every_number : ℕ → Bool
every_number t = true
