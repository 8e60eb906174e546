-- The walk with checksums: its first place, an entry more, and its three ends.
-- Assumes nothing.
use Prim.Native.Nat.{ℕ, zero, suc, ◌+◌, ◌≤◌, ◌<◌}
use mathlib.Core.Path.{◌≡◌, refl, sym, ap, ap₂, ◌∙◌, subst}
use mathlib.Core.Bool.{Bool, true, false}
use mathlib.Core.List.{List, [], ◌∷◌, ◌++◌}
use native.Mathlib.Omega.{arith}
use lib.Dec.{ltb, eqb}
use borrow.Author.Tests.{lt-ltb, le-ltb}
use Rattle.std.specs.Prelude.{Err}
use Rattle.refusals.specs.Refusal.{number_of}
use Rattle.refusals.specs.Verdict.{verdict, told_by}
use Rattle.refusals.specs.declared.Refusal.{Refusal}
use Rattle.refusals.specs.declared.Refusal.TheVariants.{NoRecord}
use Rattle.refusals.specs.declared.Refused.{Refused}
use Rattle.refusals.proofs.Told.{some-number}
use Rattle.endian.specs.Pick.{pick}
use Rattle.endian.specs.declared.Lsn.{Lsn}
use Rattle.wal.specs.Entry.{Entry, entry_of, begin}
use Rattle.wal.specs.Read.{length_at, read_at, view}
use Rattle.wal.specs.Walk.{views_from, end_of}
use Rattle.wal.specs.Prefix.{entry_in, said, Met, Stands, before, onward}
use Rattle.wal.specs.declared.EntryView.{EntryView}
use Rattle.wal.specs.declared.Reading.{Reading}
use Rattle.wal.specs.declared.Reading.TheVariants.{Whole, End, Torn, Unused, Damage}
use Rattle.wal.proofs.WalkLaws.{EntryAt, entry_at, stops}
use Rattle.wal.proofs.Places.{size-of}
use Rattle.wal.proofs.Prefix.{entry_in_lem, stands, stands_at, met-first, met_next, before-first, before-next, onward-first, onward-next, met-last, before-end}
use Rattle.rules.specs.Shape.{both, is_known, is_shaped}
use Rattle.rules.specs.Order.{one, count, is_begin, last_lsn, or_else}
use Rattle.rules.proofs.OrderLaws.{last_snoc}
use Rattle.rules.proofs.Counts.{count-snoc}
use Rattle.firsts.specs.Judge.{verdict_from, plain_fault}
use Rattle.order.specs.First.{stop_of}
use Rattle.order.specs.Scanning.{early_fault, ended, plain_verdict, Scanning, whole, early, late, Scanned}
use Rattle.order.specs.declared.Seen.{Seen}
use Rattle.order.proofs.There.{There, there, not-whole}

-- ---- 5, 6 and 7 of an entry

module _ (last : ℕ) (e : Entry) where
  pub early-type : is_known e.kind ≡ false → 5 ≡ early_fault last e
  unfolding early_fault
  early-type a = rw a

  pub early-shape : is_known e.kind ≡ true → is_shaped e ≡ false → 6 ≡ early_fault last e
  unfolding early_fault
  early-shape a b = rw (a, b)

  pub early-lsn : is_known e.kind ≡ true → is_shaped e ≡ true → e.lsn ≤ last → 7 ≡ early_fault last e
  unfolding early_fault
  early-lsn a b c = rw (a, b, le-ltb last e.lsn c)

  pub early-none : is_known e.kind ≡ true → is_shaped e ≡ true → last < e.lsn → 0 ≡ early_fault last e
  unfolding early_fault
  early-none a b c = rw (a, b, lt-ltb last e.lsn c)

-- a fault of these is the plain fault; where there is none, only 10 is left
module _ (full : ℕ → Bool) (xs : List Entry) (e : Entry) where
  plain-early : (n : ℕ) → early_fault (last_lsn xs) e ≡ suc n → (plain_fault full xs e ≡ suc n) × (suc n < 8)
  unfolding early_fault plain_fault
  plain-early n = go (is_known e.kind) (is_shaped e) (ltb (last_lsn xs) e.lsn) (pick (both (is_begin e) (full (count is_begin xs))) 10 0)
    where
      go : (k h l : Bool) (x : ℕ) → pick {A = ℕ} k (pick h (pick l 0 7) 6) 5 ≡ suc n → (pick k (pick h (pick l x 7) 6) 5 ≡ suc n) × (suc n < 8)
      go false h l x z = (z, omega arith)
      go true false l x z = (z, omega arith)
      go true true false x z = (z, omega arith)
      go true true true x z = absurd (omega arith)

  plain-late : early_fault (last_lsn xs) e ≡ 0 → plain_fault full xs e ≡ pick (both (is_begin e) (full (count is_begin xs))) 10 0
  unfolding early_fault plain_fault
  plain-late = go (is_known e.kind) (is_shaped e) (ltb (last_lsn xs) e.lsn) (pick (both (is_begin e) (full (count is_begin xs))) 10 0)
    where
      go : (k h l : Bool) (x : ℕ) → pick {A = ℕ} k (pick h (pick l 0 7) 6) 5 ≡ 0 → pick k (pick h (pick l x 7) 6) 5 ≡ x
      go false h l x z = absurd (omega arith)
      go true false l x z = absurd (omega arith)
      go true true false x z = absurd (omega arith)
      go true true true x z = refl

-- ---- the walk

module _ (full : ℕ → Bool) (s : List ℕ) where
  pub scanning-first : Scanning full s 32 (record { last = record { 0 = 0 }; begins = 0 })
  scanning-first =
      record {
        met = met-first s;
        sees = record { last = sym (ap last_lsn (before-first s)); begins = sym (ap (count is_begin) (before-first s)) };
        few = omega arith;
        plain = ap₂ (λ (es fs : List Entry). verdict_from (plain_fault full) es fs 32) (sym (before-first s)) (sym (onward-first s));
      }

  module _ {at : ℕ} {w : Seen} (k : Scanning full s at w) (v : EntryView) (q : read_at s at ≡ Whole v) where
    pub read-stands : Stands s at
    read-stands = stands q

    pub read_is : v ≡ entry_in s at
    read_is = entry_in_lem s at q

    pub read-there : There s at v
    read-there = there read_is read-stands

    pub read_length : v.length ≡ length_at s at
    unfolding view
    read_length = ap (λ (u : EntryView). u.length) read_is

    pub read-kind : v.kind ≡ (said s at).kind
    unfolding entry_of
    read-kind = ap (λ (u : EntryView). u.kind) read_is

    pub read_number : v.txn.0 ≡ (said s at).txn
    unfolding entry_of
    read_number = ap (λ (u : EntryView). u.txn.0) read_is

    -- what the fault's function asks
    pub read_at_lem : EntryAt s v.place v
    read_at_lem = let h = entry_at s at q in subst (λ (x : ℕ). EntryAt s x v) (sym h.here) h

    plain_step : plain_verdict full s
        ≡ or_else (plain_fault full (before s at) (said s at)) at (verdict_from (plain_fault full) (before s (at + length_at s at)) (onward s (at + length_at s at)) (at + length_at s at))
    unfolding verdict_from view
    plain_step = let b = stands_at read-stands in k.plain ∙ rw (onward-next s read-stands, before-next s k.met read-stands, size-of b)

    -- the fault of 5, 6 and 7, as it was found
    fault-is : {n : ℕ} → n ≡ early_fault w.last.0 (entry_of s v) → early_fault (last_lsn (before s at)) (said s at) ≡ n
    fault-is e = ap₂ (λ (l : ℕ) (u : EntryView). early_fault l (entry_of s u)) (sym k.sees.last) (sym read_is) ∙ sym e

    pub halts-early : (x : Refusal) → number_of x ≡ early_fault w.last.0 (entry_of s v) → (e : Refused) → e.refusal ≡ x → e.place ≡ at → Scanned full s (Err e) at
    halts-early x e y a b = go (number_of x) refl
      where
        go : (n : ℕ) → number_of x ≡ n → Scanned full s (Err y) at
        go zero z = absurd (some-number x z)
        go (suc n) z =
            let f = plain-early full (before s at) (said s at) n (fault-is (sym z ∙ e)) in
            let d : told_by y ≡ verdict (suc n) at = ap₂ verdict (ap number_of a ∙ z) b in
            record {
              met = subst (Met s) (sym b) k.met;
              met_stop = k.met;
              halts = early y refl (plain_step ∙ rw f.0 (sym d)) (omega (arith, ap number_of a, z, f.1)) (sym b);
            }

    module _ (e : 0 ≡ early_fault w.last.0 (entry_of s v)) {spent : Bool} (g : spent ≡ both (eqb v.kind begin) (full w.begins)) where
      -- whether there is no record left for it
      late_is : plain_fault full (before s at) (said s at) ≡ pick spent 10 0
      late_is =
          plain-late full (before s at) (said s at) (fault-is e)
          ∙ ap (λ (b : Bool). pick {A = ℕ} b 10 0) (ap₂ (λ (x c : ℕ). both (eqb x begin) (full c)) (sym read-kind) (sym k.sees.begins) ∙ sym g)

      pub halts-late : spent ≡ true → (next : ℕ) → next ≡ at + v.length → (y : Refused) → y.refusal ≡ NoRecord → y.place ≡ at → Scanned full s (Err y) next
      halts-late z next l y a b =
          let p : next ≡ at + length_at s at = l ∙ ap (λ (x : ℕ). at + x) read_length in
          let f : plain_fault full (before s at) (said s at) ≡ 10 = late_is ∙ ap (λ (b : Bool). pick {A = ℕ} b 10 0) z in
          let d : told_by y ≡ verdict 10 at = ap₂ verdict (ap number_of a) b in
          record {
            met = subst (Met s) (sym b) k.met;
            met_stop = subst (Met s) (sym p) (met_next s k.met read-stands);
            halts = late y refl (plain_step ∙ rw f (sym d)) a (subst (Stands s) (sym b) read-stands) (p ∙ ap (λ (x : ℕ). x + length_at s x) (sym b));
          }

      pub scanning-next : spent ≡ false → (next : ℕ) → next ≡ at + v.length → (u : Seen) → u.last.0 ≡ v.lsn.0 → u.begins ≡ w.begins + one (eqb v.kind begin)
          → Scanning full s next u
      unfolding entry_of
      scanning-next z next l u a b =
          let p : next ≡ at + length_at s at = l ∙ ap (λ (x : ℕ). at + x) read_length in
          let d : before s next ≡ before s at ++ (said s at ∷ []) = ap (before s) p ∙ before-next s k.met read-stands in
          let h = stands_at read-stands in
          let f : plain_fault full (before s at) (said s at) ≡ 0 = late_is ∙ ap (λ (b : Bool). pick {A = ℕ} b 10 0) z in
          record {
            met = subst (Met s) (sym p) (met_next s k.met read-stands);
            sees = record {
              last = a ∙ ap (λ (x : EntryView). x.lsn.0) read_is ∙ sym (ap last_lsn d ∙ last_snoc (before s at) (said s at));
              begins = b ∙ ap₂ (λ (x y : ℕ). x + one (eqb y begin)) k.sees.begins read-kind ∙ sym (ap (count is_begin) d ∙ count-snoc is_begin (before s at) (said s at));
            };
            few = omega (arith, b, k.few, one-le (eqb v.kind begin), h.front, h.low, p);
            plain = plain_step ∙ rw (f, ← p);
          }
        where
          one-le : (x : Bool) → one x ≤ 1
          one-le true = omega arith
          one-le false = omega arith

  -- the end of the log
  pub halts-whole : {at : ℕ} {w : Seen} → Scanning full s at w → (r : Reading) → r ≡ read_at s at → ((v : EntryView) → r ≡ Whole v → ⊥) → Scanned full s (ended r at w.last) at
  unfolding onward verdict_from
  halts-whole {at} {w} k r q h =
      let none : views_from s at ≡ [] = stops s at r q (not-whole r h) in
      let end : at ≡ end_of s = met-last s k.met none in
      let empty : onward s at ≡ [] = rw none in
      record {
        met = subst (Met s) (sym (stops-at r)) k.met;
        met_stop = k.met;
        halts = whole w.last (k.plain ∙ ap (λ (l : List Entry). verdict_from (plain_fault full) (before s at) l at) empty) end (ap (λ (x : Reading). ended x at w.last) (q ∙ ap (read_at s) end))
            (k.sees.last ∙ ap last_lsn (ap (before s) end ∙ before-end s));
      }
    where
      stops-at : (r : Reading) → stop_of (ended r at w.last) ≡ at
      stops-at (Whole v) = refl
      stops-at End = refl
      stops-at Torn = refl
      stops-at Unused = refl
      stops-at Damage = refl

-- what the walk ends with stops it at its place
pub stop-ended : (r : Reading) (at : ℕ) (last : Lsn) → stop_of (ended r at last) ≡ at
stop-ended (Whole v) at last = refl
stop-ended End at last = refl
stop-ended Torn at last = refl
stop-ended Unused at last = refl
stop-ended Damage at last = refl
