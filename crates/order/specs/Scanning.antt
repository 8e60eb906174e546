-- Internal: the walk with checksums and rules 5, 6, 7 and 10, on its way and where it stops.
use Rattle.std.specs.Prelude.{ℕ, ◌+◌, ◌≤◌, ◌<◌, ◌≡◌, List, [], Bool, Result, Ok, Err, ltb}
use Rattle.refusals.specs.Refusal.{number_of, entry_type, entry_shape, lsn_order, transaction_order}
use Rattle.refusals.specs.Verdict.{accepted, told_by}
use Rattle.refusals.specs.declared.Refusal.TheVariants.{EntryDamaged, NoRecord}
use Rattle.refusals.specs.declared.Refused.{Refused}
use Rattle.refusals.specs.declared.Verdict.{Verdict}
use Rattle.endian.specs.declared.Lsn.{Lsn}
use Rattle.wal.specs.declared.Reading.{Reading}
use Rattle.wal.specs.declared.Reading.TheVariants.{Whole, End, Torn, Unused, Damage}
use Rattle.endian.specs.Pick.{pick}
use Rattle.wal.specs.Entry.{Entry}
use Rattle.wal.specs.Read.{first, length_at}
use Rattle.wal.specs.Walk.{entries, end_of, ending_of}
use Rattle.wal.specs.Prefix.{Met, Stands, before, onward}
use Rattle.rules.specs.Shape.{is_known, is_shaped}
use Rattle.rules.specs.Order.{count, is_begin, last_lsn}
use Rattle.firsts.specs.Judge.{verdict_from, plain_fault}
use Rattle.order.specs.First.{stop_of}
use Rattle.order.specs.declared.Seen.{Seen}
use Rattle.order.specs.declared.Walked.{Walked}

-- refusals 5 to 7 in turn, or 0, by the last LSN
unfoldable pub early_fault : ℕ → Entry → ℕ
early_fault last e =
    pick (is_known e.kind)
    (pick (is_shaped e)
    (pick (ltb last e.lsn) 0 lsn_order)
    entry_shape)
    entry_type

-- the verdict of 5, 6, 7 and 10
abbrev pub plain_verdict : (ℕ → Bool) → List ℕ → Verdict
plain_verdict full s = verdict_from (plain_fault full) [] (entries s) first

-- what was seen of some entries
pub record Sees (es : List Entry) (w : Seen) : Type 0 where
  pub last : w.last.0 ≡ last_lsn es
  pub begins : w.begins ≡ count is_begin es

-- no entry before `at` breaks one of these rules
pub record Scanning (full : ℕ → Bool) (s : List ℕ) (at : ℕ) (w : Seen) : Type 0 where
  pub met : Met s at
  pub sees : Sees (before s at) w
  pub few : w.begins ≤ at
  pub plain : plain_verdict full s ≡ verdict_from (plain_fault full) (before s at) (onward s at) at

-- what the walk ends with at a place, after an LSN: refusal 4 where it ends in damage
abbrev pub ended : Reading → ℕ → Lsn → Result Walked Refused
ended (Whole v) at last = Ok (record { end = at; last = last })
ended End at last = Ok (record { end = at; last = last })
ended Torn at last = Ok (record { end = at; last = last })
ended Unused at last = Ok (record { end = at; last = last })
ended Damage at last = Err (record { refusal = EntryDamaged; place = at })

-- the walk stops with r, and rule 8 is to be tested up to `stop`: with the entry where that has no record left, since 8 has its turn before 10
pub data Halts (full : ℕ → Bool) (s : List ℕ) (r : Result Walked Refused) (stop : ℕ) : Type 0 where
  whole : (last : Lsn) → plain_verdict full s ≡ accepted → stop ≡ end_of s → r ≡ ended (ending_of s) stop last → last.0 ≡ last_lsn (entries s) → Halts full s r stop
  early : (e : Refused) → r ≡ Err e → plain_verdict full s ≡ told_by e → number_of e.refusal < transaction_order → stop ≡ e.place → Halts full s r stop
  late : (e : Refused) → r ≡ Err e → plain_verdict full s ≡ told_by e → e.refusal ≡ NoRecord → Stands s e.place → stop ≡ e.place + length_at s e.place → Halts full s r stop

pub record Scanned (full : ℕ → Bool) (s : List ℕ) (r : Result Walked Refused) (stop : ℕ) : Type 0 where
  pub met : Met s (stop_of r)
  pub met_stop : Met s stop
  pub halts : Halts full s r stop
