-- Internal: what the first walk over a log answers: the verdict of all rules but that on clashes.
use Rattle.std.specs.Prelude.{ℕ, ◌/◌, ◌≡◌, List, [], Bool, false, Option, None, Some, Result, Ok, Err, ltb, leb}
use Rattle.refusals.specs.Refusal.{entry_type, entry_shape, lsn_order, transaction_order, no_record}
use Rattle.refusals.specs.Verdict.{◌then◌, told}
use Rattle.refusals.specs.declared.Refused.{Refused}
use Rattle.refusals.specs.declared.Verdict.{Verdict}
use Rattle.endian.specs.Pick.{pick}
use Rattle.wal.specs.Entry.{Entry}
use Rattle.wal.specs.Read.{first}
use Rattle.wal.specs.Walk.{entries, end_of, ending_of}
use Rattle.wal.specs.Prefix.{Met}
use Rattle.rules.specs.Shape.{both, is_known, is_shaped}
use Rattle.rules.specs.Order.{count, is_begin, last_lsn, in_order, end_verdict}
use Rattle.firsts.specs.Judge.{verdict_from}
use Rattle.order.specs.declared.Walked.{Walked}

-- a log has fewer bytes: its places fit a u32
abbrev pub reach : ℕ
reach = 4294967296 / 2

-- with a table, no record is left after so many; without one, there is no bound
abbrev pub full_of : Option ℕ → ℕ → Bool
full_of None n = false
full_of (Some records) n = leb records n

-- refusals 5 to 8 and 10 in turn, or 0
unfoldable pub basic_fault : (ℕ → Bool) → List Entry → Entry → ℕ
basic_fault full xs e =
    pick (is_known e.kind)
    (pick (is_shaped e)
    (pick (ltb (last_lsn xs) e.lsn)
    (pick (in_order xs e)
    (pick (both (is_begin e) (full (count is_begin xs))) no_record 0)
    transaction_order)
    lsn_order)
    entry_shape)
    entry_type

-- entry by entry 5 to 8 and 10 in turn, and 4 where the entries end in damage
unfoldable pub basic_verdict : (ℕ → Bool) → List ℕ → Verdict
basic_verdict full s = verdict_from (basic_fault full) [] (entries s) first then end_verdict (ending_of s) (end_of s)

-- where a walk stops
abbrev pub stop_of : Result Walked Refused → ℕ
stop_of (Ok w) = w.end
stop_of (Err e) = e.place

-- what the first walk tells; of an accepted log also its end and the last LSN
pub record FirstWalk (full : ℕ → Bool) (s : List ℕ) (r : Result Walked Refused) : Type 0 where
  pub met : Met s (stop_of r)
  pub tells : told r ≡ basic_verdict full s
  pub ends : (w : Walked) → r ≡ Ok w → w.end ≡ end_of s
  pub last : (w : Walked) → r ≡ Ok w → w.last.0 ≡ last_lsn (entries s)
