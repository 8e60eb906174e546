-- The walk that enters a log's entries into rows, and what a log in order tells at each of its places.
-- Assumes nothing.
use mathlib.Core.Path.{◌≡◌, sym, ap, ◌∙◌, subst}
use Prim.Native.Nat.{ℕ, ◌+◌, ◌≤◌, ◌<◌}
use native.Mathlib.Omega.{arith}
use mathlib.Core.List.{List, [], ◌∷◌, ◌++◌, append_assoc, append-nil, map}
use lib.ListN.{length, get_or, length-append}
use Rattle.wal.specs.Entry.{Entry, entry_of}
use Rattle.wal.specs.Read.{first}
use Rattle.wal.specs.Walk.{entries, end_of}
use Rattle.wal.specs.Prefix.{entry_in, said, Stands, Met, before, onward}
use Rattle.wal.specs.declared.EntryView.{EntryView}
use Rattle.wal.proofs.Prefix.{Along, start, more, along, stands_at, before-first, view-kind, view-txn, before-next, before-end, onward-next, met-split, met-le}
use Rattle.wal.proofs.Known.{Ahead}
use Rattle.rules.specs.Order.{never_full}
use Rattle.rules.proofs.OrderLaws.{Passes, InTurn, in-turn}
use Rattle.table.specs.Rows.{blank, Rising}
use Rattle.table.specs.Telling.{Orderly, tell, Entered, Untold}
use Rattle.table.specs.declared.Row.{Row}
use Rattle.table.proofs.Telling.{kept-number, told-rising, told-changes, entered}

-- ---- at a place of the walk

turn-split : (es fs gs : List Entry) → InTurn never_full es (fs ++ gs) → InTurn never_full (es ++ fs) gs
turn-split es [] gs h = rw (append-nil es) h
turn-split es (f ∷ fs) gs h = subst (λ (l : List Entry). InTurn never_full l gs) (append_assoc es (f ∷ []) fs) (turn-split (es ++ (f ∷ [])) fs gs h.1)

-- the entries in front of others are in order
pub front-turn : (es fs gs : List Entry) → InTurn never_full es (fs ++ gs) → InTurn never_full es fs
front-turn es [] gs h = tt
front-turn es (f ∷ fs) gs h = (h.0, front-turn (es ++ (f ∷ [])) fs gs h.1)

pub turn-all : (s : List ℕ) → Orderly s → InTurn never_full [] (entries s)
turn-all s o = in-turn never_full [] (entries s) first o

pub turn_at : {s : List ℕ} {p : ℕ} → Orderly s → Met s p → InTurn never_full (before s p) (onward s p)
turn_at {s} {p} o m = turn-split [] (before s p) (onward s p) (subst (InTurn never_full []) (met-split s m) (turn-all s o))

pub passes_at : {s : List ℕ} {p : ℕ} → Orderly s → Met s p → Stands s p → Passes never_full (before s p) (said s p)
passes_at {s} {p} o m h = let r : InTurn never_full (before s p) (said s p ∷ onward s _) = subst (InTurn never_full (before s p)) (onward-next s h) (turn_at o m) in r.0

-- an entry has bytes, so there are no more entries before a place than bytes
pub entries-few : {s : List ℕ} {p : ℕ} → Met s p → length (before s p) ≤ p
entries-few {s} m = go (along m)
  where
    go : {p : ℕ} → Along s p → length (before s p) ≤ p
    go start = rw (before-first s) (omega arith)
    go (more {p = p} a m h e) = let k = stands_at h in rw (e, before-next s m h, length-append (before s p) (said s p ∷ [])) (omega (arith, go a, k.front, k.low))

-- the walk is at its end
pub arrived : {s : List ℕ} {p end : ℕ} → Met s p → end_of s ≡ end → end ≤ p → p ≡ end_of s
arrived {s} m e h = omega (arith, met-le s m)

-- the LSN of the entry that was read
pub lsn-read : (s : List ℕ) (p : ℕ) {v : EntryView} → v ≡ entry_in s p → v.lsn ≡ record { 0 = (said s p).lsn }
unfolding entry_of
lsn-read s p e = ap (λ (u : EntryView). u.lsn) e

-- ---- entries entered into the rows l, that were there at the start

module _ {s : List ℕ} {from : ℕ} {l : List Row} (u : Untold s from l) {p : ℕ} (m : Met s p) (r : List Row) (q : r ≡ map (tell (before s p)) l) where
  pub walk-rising : Rising 0 r
  walk-rising = rw q (told-rising (before s p) 0 (kept-number (before s p)) u.rising)

  pub walk-small : (n : ℕ) → p ≤ n → (i : ℕ) → i < length r → (get_or r i blank).changes ≤ n
  walk-small n b = subst (λ (x : List Row). (i : ℕ) → i < length x → (get_or x i blank).changes ≤ n) (sym q) (λ i h. omega (arith, told-changes (before s p) l i h, entries-few m))

  pub walk-next : Orderly s → {end : ℕ} {v : EntryView} → Ahead s p end v → {d : List Row} → Entered r v.kind v.txn.0 v.lsn d → d ≡ map (tell (before s (p + v.length))) l
  walk-next o {end} {v} k {d} e =
      let t : Entered (map (tell (before s p)) l) (said s p).kind (said s p).txn (record { 0 = (said s p).lsn }) d = rw (q, view-kind s p k.is, view-txn s p k.is, lsn-read s p k.is) at e in
      entered (before s p) (said s p) (passes_at o m k.stands) l u.rising u.real t ∙ ap (λ (es : List Entry). map (tell es) l) (sym (before-next s m k.stands) ∙ ap (before s) (ap (λ (n : ℕ). p + n) (sym k.long)))

  pub walk_end : {end : ℕ} → end_of s ≡ end → end ≤ p → r ≡ map (tell (entries s)) l
  walk_end e h = q ∙ ap (λ (es : List Entry). map (tell es) l) (ap (before s) (arrived m e h) ∙ before-end s)
