-- What one entry more does to a page's top and last LSN, and the bounds of both. Assumes nothing.
use Prim.Native.Nat.{ℕ, zero, suc, ◌≤◌, ◌<◌, max}
use native.Mathlib.Omega.{arith}
use mathlib.Core.Path.{◌≡◌, ap, ◌∙◌}
use mathlib.Core.Bool.{Bool, true, false}
use mathlib.Core.List.{List, [], ◌∷◌, ◌++◌}
use Rattle.endian.specs.Pick.{pick}
use Rattle.endian.specs.Numbers.{Bytes}
use Rattle.endian.proofs.Bytes.{number-range}
use Rattle.wal.specs.Entry.{Entry}
use Rattle.wal.specs.Walk.{entries}
use Rattle.wal.specs.Prefix.{Met, Stands, said, before, onward}
use Rattle.wal.proofs.Prefix.{before-first, before-next, met-split, onward-next, Along, start, more, along, stands_at}
use Rattle.rules.specs.Shape.{is_on, slot_of, top_on, lsn_on}
use Rattle.rules.specs.Order.{last_lsn}
use Rattle.rules.specs.Mend.{top_of, last_on}
use Rattle.rules.proofs.OrderLaws.{Every, last_snoc, lsn-le}
use Rattle.rules.proofs.ImageLaws.{InRange}
use Rattle.rules.proofs.Range.{in-range}
use Rattle.rules.proofs.Slots.{top-append, last-append}
use Rattle.cells.specs.Measure.{Sound}

-- ---- one entry more

module _ (i : ℕ) (es : List Entry) (e : Entry) where
  pub top-snoc : top_of i (es ++ (e ∷ [])) ≡ max (top_of i es) (top_on i e)
  unfolding top_of
  top-snoc = omega (arith, top-append i es (e ∷ []))

  pub last-on-snoc : last_on i (es ++ (e ∷ [])) ≡ max (last_on i es) (lsn_on i e)
  unfolding last_on
  last-on-snoc = omega (arith, last-append i es (e ∷ []))

module _ (i : ℕ) (e : Entry) where
  pub top-on : is_on i e ≡ true → top_on i e ≡ suc (slot_of e)
  unfolding top_on
  top-on h = rw h

  pub top-off : is_on i e ≡ false → top_on i e ≡ 0
  unfolding top_on
  top-off h = rw h

  pub lsn-on : is_on i e ≡ true → lsn_on i e ≡ e.lsn
  unfolding lsn_on
  lsn-on h = rw h

  pub lsn-off : is_on i e ≡ false → lsn_on i e ≡ 0
  unfolding lsn_on
  lsn-off h = rw h

-- ---- bounds

-- no top is above 65536
entry_top : (i : ℕ) (e : Entry) → InRange e → top_on i e ≤ 65536
unfolding top_on
entry_top i e r = go (is_on i e)
  where
    go : (b : Bool) → pick b (suc (slot_of e)) zero ≤ 65536
    go true = omega (arith, number-range 2 8 r.key)
    go false = omega arith

entries-top : (i : ℕ) (es : List Entry) → Every InRange es → top_of i es ≤ 65536
unfolding top_of
entries-top i [] h = omega arith
entries-top i (e ∷ es) h = omega (arith, entry_top i e h.0, entries-top i es h.1)

module _ {s : List ℕ} where
  pub top-le : Bytes s → {p : ℕ} → Met s p → (i : ℕ) → top_of i (before s p) ≤ 65536
  top-le b {p} m i = omega (arith, entries-top i (entries s) (in-range s b), ap (top_of i) (met-split s m), top-append i (before s p) (onward s p))

  -- an entry's own top is within the page's
  pub top_within : {p : ℕ} → Met s p → Stands s p → (i : ℕ) → top_on i (said s p) ≤ top_of i (entries s)
  unfolding top_of
  top_within {p} m h i =
      omega (arith, ap (top_of i) (met-split s m), top-append i (before s p) (onward s p), ap (top_of i) (onward-next s h))

  -- LSNs rise, so no change on a page is above the last
  last-along : {stop p : ℕ} (i : ℕ) → Sound s stop → Along s p → p ≤ stop → last_on i (before s p) ≤ last_lsn (before s p)
  unfolding last_on
  last-along i d start h = rw (before-first s) (omega arith)
  last-along {stop} {p} i d (more {p = q} a m st e) h =
      let k = stands_at st in
      let b : before s p ≡ before s q ++ (said s q ∷ []) = ap (before s) e ∙ before-next s m st in
      let l : q < stop = omega (arith, k.low, k.front) in
      rw b
      (omega (arith, last-on-snoc i (before s q) (said s q), last_snoc (before s q) (said s q), lsn-le i (said s q), d.rises m l, last-along i d a (omega arith)))

  pub last-le : {stop p : ℕ} (i : ℕ) → Sound s stop → Met s p → p ≤ stop → last_on i (before s p) ≤ last_lsn (before s p)
  last-le i d m h = last-along i d (along m) h
