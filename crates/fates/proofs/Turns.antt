-- What a log that keeps the order rules tells at a place of its walk: the state of each transaction, and that the entry there passes after those before it.
-- Assumes nothing.
use mathlib.Core.Path.{◌≡◌, refl, sym, ap, ◌∙◌, subst}
use mathlib.Core.Bool.{Bool, true, false, not}
use Prim.Native.Nat.{ℕ, ◌+◌, ◌≤◌, ◌<◌}
use native.Mathlib.Omega.{arith}
use mathlib.Core.List.{List, [], ◌∷◌, ◌++◌, append_assoc, append-nil}
use lib.Dec.{eqb}
use borrow.Author.Tests.{eqb-true, ne_eqb}
use Rattle.endian.specs.Pick.{pick}
use Rattle.wal.specs.Entry.{Entry, checkpoint}
use Rattle.wal.specs.Read.{first, length_at, view}
use Rattle.wal.specs.declared.EntryView.{EntryView}
use Rattle.wal.specs.Walk.{entries, end_of}
use Rattle.wal.specs.Prefix.{entry_in, said, Stands, Met, before, onward}
use Rattle.wal.proofs.Prefix.{Below, Along, start, more, along, before-first, before-next, met-split, met-below, met-end, met-le, met_next, onward-next}
use Rattle.rules.specs.Order.{is_begin, begun, is_open, in_order, never_full}
use Rattle.rules.proofs.OrderLaws.{Passes, InTurn, in-turn}
use Rattle.states.specs.State.{state_of}
use Rattle.states.proofs.States.{Told, told_none, told-snoc, open_is, ordered-is, checkpoint-zero}
use Rattle.fates.specs.Fate.{Ordered}

-- after the entries es, the state tells of every transaction
abbrev pub AllTold : List Entry → Type 0
AllTold es = (t : ℕ) → (t ≡ 0 → ⊥) → Told es t

module _ (full : ℕ → Bool) (es : List Entry) (f : Entry) (h : Passes full es f) (told : AllTold es) where
  pub told-next : AllTold (es ++ (f ∷ []))
  told-next = told-snoc es f h.shaped (sym (ordered-is es f told) ∙ h.ordered) told

  -- an entry of a transaction finds it not begun where it is a Begin, else begun and not ended
  pub own-state : (f.txn ≡ 0 → ⊥) → state_of f.txn es ≡ pick (is_begin f) 0 1
  unfolding in_order
  own-state n =
      let c : eqb f.kind checkpoint ≡ false = ne_eqb _ _ (λ q. n (checkpoint-zero f h.shaped q)) in
      go (is_begin f) (rw (c, ne_eqb f.txn 0 n) at h.ordered)
    where
      flip : (b : Bool) → not (not b) ≡ true → b ≡ true
      flip true q = refl
      flip false q = q

      go : (b : Bool) → pick b (not (begun es f.txn)) (is_open es f.txn) ≡ true → state_of f.txn es ≡ pick b 0 1
      go true q = eqb-true _ _ (flip (eqb (state_of f.txn es) 0) (rw (told f.txn n).begins at q))
      go false q = eqb-true _ _ (sym (open_is es f.txn (told f.txn n)) ∙ q)

  pub own-going : (f.txn ≡ 0 → ⊥) → state_of f.txn es ≡ 2 → ⊥
  own-going n q = go (is_begin f) (sym (own-state n) ∙ q)
    where
      go : (b : Bool) → pick {A = ℕ} b 0 1 ≡ 2 → ⊥
      go true r = omega arith
      go false r = omega arith

-- the entries after some of them
pub turn-split : (full : ℕ → Bool) (es fs gs : List Entry) → InTurn full es (fs ++ gs) → AllTold es → AllTold (es ++ fs) × InTurn full (es ++ fs) gs
turn-split full es [] gs h told = rw (append-nil es) (told, h)
turn-split full es (f ∷ fs) gs h told =
    subst (λ (l : List Entry). AllTold l × InTurn full l gs) (append_assoc es (f ∷ []) fs) (turn-split full (es ++ (f ∷ [])) fs gs h.1 (told-next full es f h.0 told))

-- ---- at a place of the walk

pub record Turn (s : List ℕ) (p : ℕ) : Type 0 where
  pub told : AllTold (before s p)
  pub rest : InTurn never_full (before s p) (onward s p)

pub turn_at : {s : List ℕ} {p : ℕ} → Ordered s → Met s p → Turn s p
turn_at {s} {p} o m =
    let h : InTurn never_full [] (before s p ++ onward s p) = subst (InTurn never_full []) (met-split s m) (in-turn never_full [] (entries s) first o) in
    let r = turn-split never_full [] (before s p) (onward s p) h (λ t n. told_none t) in
    record { told = r.0; rest = r.1 }

-- the entry that stands there
pub passes_at : {s : List ℕ} {p : ℕ} → Turn s p → Stands s p → Passes never_full (before s p) (said s p)
passes_at {s} {p} u h = let r : InTurn never_full (before s p) (said s p ∷ onward s _) = subst (InTurn never_full (before s p)) (onward-next s h) u.rest in r.0

-- what holds of no entries, and of one more that passes, holds of the entries before a place
pub held_at : (P : List Entry → Type 0) → P [] → ((es : List Entry) (f : Entry) → Passes never_full es f → AllTold es → P es → P (es ++ (f ∷ [])))
    → {s : List ℕ} {p : ℕ} → Ordered s → Met s p → P (before s p)
held_at P none next {s} o m = go (along m)
  where
    go : {p : ℕ} → Along s p → P (before s p)
    go start = subst P (sym (before-first s)) none
    go (more {p = p} a m h e) =
        let u = turn_at o m in
        rw (e, before-next s m h) (next (before s p) (said s p) (passes_at u h) u.told (go a))

-- ---- a walk up to a known end

pub record Step (s : List ℕ) (p end : ℕ) (v : EntryView) : Type 0 where
  pub stands : Stands s p
  pub long : v.length ≡ length_at s p
  pub met : Met s (p + v.length)
  pub low : 43 ≤ v.length
  pub next : p + v.length ≤ end

module _ {s : List ℕ} {p end : ℕ} (m : Met s p) (e : end_of s ≡ end) where
  pub still : p < end → Below s p end
  still h = met-below s m (subst (Met s) e (met-end s)) h

  -- the entry there and the place behind it
  pub step : p < end → (v : EntryView) → v ≡ entry_in s p → Step s p end v
  unfolding view
  step h v q =
      let b = still h in
      let n : v.length ≡ length_at s p = ap (λ (u : EntryView). u.length) q in
      record { stands = b.stands; long = n; met = rw n (met_next s m b.stands); low = omega (arith, b.low); next = omega (arith, b.next) }

  pub arrived : end ≤ p → p ≡ end_of s
  arrived h = omega (arith, met-le s m)
