-- The order rules: the first fault of an entry after those before it, and the verdict on a log (paper 01, Log and Numbers given back).
use Rattle.std.specs.Prelude.{ℕ, zero, suc, ◌+◌, List, [], ◌∷◌, ◌++◌, Bool, true, false, not, ltb, leb, eqb}
use Rattle.refusals.specs.Refusal.{entry_damaged, entry_type, entry_shape, lsn_order, transaction_order, clash, no_record}
use Rattle.endian.specs.Pick.{pick}
use Rattle.wal.specs.Entry.{Entry, size_of, begin, commit, rollback, checkpoint}
use Rattle.wal.specs.Read.{header_fault, read_at, first}
use Rattle.wal.specs.Walk.{entries, end_of}
use Rattle.wal.specs.declared.Reading.{Reading}
use Rattle.wal.specs.declared.Reading.TheVariants.{Whole, End, Torn, Unused, Damage}
use Rattle.refusals.specs.Verdict.{verdict, accepted, ◌then◌}
use Rattle.refusals.specs.declared.Verdict.{Verdict}
use Rattle.rules.specs.Shape.{both, either, is_known, is_change, is_shaped, same_slot}

-- how many of some entries pass a test, and whether one does
abbrev pub one : Bool → ℕ
one true = 1
one false = 0

abbrev pub count : (Entry → Bool) → List Entry → ℕ
count f [] = zero
count f (e ∷ es) = one (f e) + count f es

abbrev pub any : (Entry → Bool) → List Entry → Bool
any f [] = false
any f (e ∷ es) = either (f e) (any f es)

-- an entry of type k by transaction t
abbrev pub is : ℕ → ℕ → Entry → Bool
is k t e = both (eqb e.kind k) (eqb e.txn t)

abbrev pub is_begin : Entry → Bool
is_begin e = eqb e.kind begin

-- the LSN of the last of some entries; 0 if there is none
abbrev pub last_lsn : List Entry → ℕ
last_lsn [] = zero
last_lsn (e ∷ []) = e.lsn
last_lsn (e ∷ f ∷ es) = last_lsn (f ∷ es)

-- ---- transactions after some entries

unfoldable pub begun : List Entry → ℕ → Bool
begun es t = any (is begin t) es

unfoldable pub ended : List Entry → ℕ → Bool
ended es t = either (any (is commit t) es) (any (is rollback t) es)

-- begun and unended
unfoldable pub is_open : List Entry → ℕ → Bool
is_open es t = both (begun es t) (not (ended es t))

-- ---- an entry e after the entries es

-- a number begins once; Begin, Commit and Rollback of 0 break the order; changes, Commit and Rollback need a begun, unended transaction;
-- changes with transaction 0 commit by themselves
unfoldable pub in_order : List Entry → Entry → Bool
in_order es e =
    pick (eqb e.kind checkpoint) true
    (pick (eqb e.txn 0) (is_change e)
    (pick (is_begin e) (not (begun es e.txn))
    (is_open es e.txn)))

-- the slot that e changes was changed by f, whose transaction is another and has not ended
unfoldable pub clashes : List Entry → Entry → Entry → Bool
clashes es e f = both (same_slot e f) (both (not (eqb f.txn e.txn)) (both (not (eqb f.txn 0)) (not (ended es f.txn))))

-- whether no record is left for one more Begin after n of them: `full` says; for a table of so many records, and for none at all
abbrev pub full_at : ℕ → ℕ → Bool
full_at records n = leb records n

abbrev pub never_full : ℕ → Bool
never_full n = false

-- refusals 5 to 10 in turn, or 0
unfoldable pub fault_after : (ℕ → Bool) → List Entry → Entry → ℕ
fault_after full es e =
    pick (is_known e.kind)
    (pick (is_shaped e)
    (pick (ltb (last_lsn es) e.lsn)
    (pick (in_order es e)
    (pick (any (clashes es e) es) clash
    (pick (both (is_begin e) (full (count is_begin es))) no_record 0))
    transaction_order)
    lsn_order)
    entry_shape)
    entry_type

-- ---- a list of entries, the first of which stands at a place, after the entries es

abbrev pub or_else : ℕ → ℕ → Verdict → Verdict
or_else zero at later = later
or_else (suc n) at later = verdict (suc n) at

unfoldable pub order_from : (ℕ → Bool) → List Entry → List Entry → ℕ → Verdict
order_from full es [] at = accepted
order_from full es (f ∷ fs) at = or_else (fault_after full es f) at (order_from full (es ++ (f ∷ [])) fs (at + size_of f))

-- ---- a log

-- refusal 4 where the walk ends in damage
abbrev pub end_verdict : Reading → ℕ → Verdict
end_verdict (Whole v) at = accepted
end_verdict End at = accepted
end_verdict Torn at = accepted
end_verdict Unused at = accepted
end_verdict Damage at = verdict entry_damaged at

-- 2 and 3; then entry by entry, 5 to 10 in turn, and 4 where the entries end in damage
unfoldable pub log_verdict : (ℕ → Bool) → List ℕ → Verdict
log_verdict full s =
    verdict (header_fault s) 0 then order_from full [] (entries s) first then end_verdict (read_at s (end_of s)) (end_of s)
