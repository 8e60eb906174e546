-- The outcome of a transaction is told by its first ending from any of its entries on: it had not ended before, and has no entry after its ending.
-- Assumes nothing.
use mathlib.Core.Path.{◌≡◌, refl, sym, ◌∙◌}
use mathlib.Core.Bool.{Bool, true, false}
use Prim.Native.Nat.{ℕ, ◌+◌, ◌≤◌}
use native.Mathlib.Omega.{arith}
use mathlib.Core.List.{List, [], ◌∷◌, ◌++◌}
use lib.Dec.{eqb}
use borrow.Author.Tests.{eqb-true, eqb-false, eq-eqb, ne_eqb}
use Rattle.endian.specs.Pick.{pick}
use Rattle.wal.specs.Entry.{Entry, commit, rollback, entry_of}
use Rattle.wal.specs.Read.{length_at}
use Rattle.wal.specs.Walk.{entries, end_of}
use Rattle.wal.specs.Prefix.{entry_in, said, Stands, Met, before, onward}
use Rattle.wal.specs.declared.EntryView.{EntryView}
use Rattle.wal.proofs.Prefix.{met-split, onward-next, onward-end}
use Rattle.rules.specs.Shape.{either}
use Rattle.rules.specs.Order.{any, is, ended}
use Rattle.rules.specs.Recover.{outcome_of}
use Rattle.rules.proofs.Tests.{both_true, both-none, either-false}
use Rattle.rules.proofs.OrderLaws.{InTurn}
use Rattle.states.specs.State.{state_after, state_of}
use Rattle.states.proofs.States.{state-snoc}
use Rattle.std.specs.Prelude.{Some}
use Rattle.fates.specs.Fate.{Ordered, outcome_number, ending_by, ending_of}
use Rattle.fates.specs.declared.Outcome.{Outcome}
use Rattle.fates.specs.declared.Outcome.TheVariants.{Committed, RolledBack}
use Rattle.fates.proofs.Turns.{AllTold, told-next, own-going, turn_at, passes_at}

-- ---- tests on entries

pub any_append : (f : Entry → Bool) (es fs : List Entry) → any f (es ++ fs) ≡ either (any f es) (any f fs)
any_append f [] fs = refl
any_append f (e ∷ es) fs = rw (any_append f es fs) (go (f e))
  where
    go : (b : Bool) → either b (either (any f es) (any f fs)) ≡ either (either b (any f es)) (any f fs)
    go true = refl
    go false = refl

-- an entry of another transaction is none of t
pub of_other : (k t : ℕ) (e : Entry) → eqb e.txn t ≡ false → is k t e ≡ false
of_other k t e h = rw h (both-none (eqb e.kind k))

-- ---- no entry follows the ending

pub no_more : (k t : ℕ) → (t ≡ 0 → ⊥) → (full : ℕ → Bool) (es fs : List Entry) → InTurn full es fs → AllTold es → state_of t es ≡ 2 → any (is k t) fs ≡ false
no_more k t n full es [] h told e = refl
no_more k t n full es (f ∷ fs) h told e = go (eqb f.txn t) refl (λ s. no_more k t n full (es ++ (f ∷ [])) fs h.1 (told-next full es f h.0 told) s)
  where
    go : (b : Bool) → eqb f.txn t ≡ b → (state_of t (es ++ (f ∷ [])) ≡ 2 → any (is k t) fs ≡ false) → either (is k t f) (any (is k t) fs) ≡ false
    go true q more =
        let o : f.txn ≡ t = eqb-true _ _ q in
        absurd (own-going full es f h.0 told (λ z. n (sym o ∙ z)) (rw o e))
    go false q more = rw (of_other k t f q) (more (state-snoc t es f ∙ rw q e))

pub outcome-ending : (t : ℕ) → (t ≡ 0 → ⊥) → (full : ℕ → Bool) (es fs : List Entry) → InTurn full es fs → AllTold es → outcome_of fs t ≡ ending_of t fs
unfolding outcome_of ending_of state_after
outcome-ending t n full es [] h told = refl
outcome-ending t n full es (f ∷ fs) h told =
    go (is commit t f) (is rollback t f) refl (outcome-ending t n full (es ++ (f ∷ [])) fs h.1 (told-next full es f h.0 told)) (λ s. no_more commit t n full (es ++ (f ∷ [])) fs h.1 (told-next full es f h.0 told) s)
  where
    go : (c r : Bool) → is rollback t f ≡ r → pick (any (is commit t) fs) 1 (pick (any (is rollback t) fs) 2 0) ≡ ending_of t fs → (state_of t (es ++ (f ∷ [])) ≡ 2 → any (is commit t) fs ≡ false)
        → pick (either c (any (is commit t) fs)) 1 (pick (either r (any (is rollback t) fs)) 2 0) ≡ pick c 1 (pick r 2 (ending_of t fs))
    go true r q more last = refl
    go false true q more last =
        let k = both_true (eqb f.kind rollback) (eqb f.txn t) q in
        let kind : f.kind ≡ rollback = eqb-true _ _ k.0 in
        rw (last (state-snoc t es f ∙ rw (k.1, kind)))
    go false false q more last = more

-- ---- from one of its entries on

pub unended : (es : List Entry) (t : ℕ) → (t ≡ 0 → ⊥) → AllTold es → (state_of t es ≡ 2 → ⊥) → (any (is commit t) es ≡ false) × (any (is rollback t) es ≡ false)
unfolding ended
unended es t n told h = either-false (any (is commit t) es) (any (is rollback t) es) ((told t n).ends ∙ ne_eqb _ _ h)

pub outcome-unended : (es : List Entry) (t : ℕ) → (t ≡ 0 → ⊥) → AllTold es → (state_of t es ≡ 2 → ⊥) → outcome_of es t ≡ 0
unfolding outcome_of
outcome-unended es t n told h = let u = unended es t n told h in rw (u.0, u.1)

pub fate-is : {s : List ℕ} {p : ℕ} (t : ℕ) → Ordered s → Met s p → Stands s p → t ≡ (said s p).txn → (t ≡ 0 → ⊥) → outcome_of (entries s) t ≡ ending_of t (onward s p)
unfolding outcome_of
fate-is {s} {p} t o m h e n =
    let u = turn_at o m in
    let d = unended (before s p) t n u.told (λ q. own-going _ (before s p) (said s p) (passes_at u h) u.told (λ z. n (e ∙ z)) (rw (← e) q)) in
    rw (met-split s m, any_append (is commit t) (before s p) (onward s p), any_append (is rollback t) (before s p) (onward s p), d.0, d.1) (outcome-ending t n _ (before s p) (onward s p) u.rest u.told)

-- ---- one turn of the look forward

pub outcome-le : (es : List Entry) (t : ℕ) → outcome_of es t ≤ 2
unfolding outcome_of
outcome-le es t = go (any (is commit t) es) (any (is rollback t) es)
  where
    go : (c r : Bool) → pick {A = ℕ} c 1 (pick r 2 0) ≤ 2
    go true r = omega arith
    go false true = omega arith
    go false false = omega arith

pub ending-le : (t : ℕ) (es : List Entry) → ending_of t es ≤ 2
unfolding ending_of
ending-le t [] = omega arith
ending-le t (e ∷ es) = go (is commit t e) (is rollback t e) (ending-le t es)
  where
    go : (c r : Bool) → ending_of t es ≤ 2 → pick c 1 (pick r 2 (ending_of t es)) ≤ 2
    go true r h = omega arith
    go false true h = omega arith
    go false false h = h

module _ (s : List ℕ) (p t : ℕ) (h : Stands s p) (v : EntryView) (e : v ≡ entry_in s p) where
  pub commit-here : v.txn.0 ≡ t → v.kind ≡ commit → 1 ≡ ending_of t (onward s p)
  unfolding ending_of entry_of
  commit-here o k = rw (onward-next s h, ← e, o, k, eq-eqb t t refl)

  pub rollback-here : v.txn.0 ≡ t → v.kind ≡ rollback → 2 ≡ ending_of t (onward s p)
  unfolding ending_of entry_of
  rollback-here o k = rw (onward-next s h, ← e, o, k, eq-eqb t t refl)

  pub going-here : v.txn.0 ≡ t → (v.kind ≡ commit → ⊥) → (v.kind ≡ rollback → ⊥) → ending_of t (onward s p) ≡ ending_of t (onward s (p + length_at s p))
  unfolding ending_of entry_of
  going-here o c r = rw (onward-next s h, ← e, ne_eqb _ _ c, ne_eqb _ _ r)

  pub other-here : (v.txn.0 ≡ t → ⊥) → ending_of t (onward s p) ≡ ending_of t (onward s (p + length_at s p))
  unfolding ending_of entry_of
  other-here o = rw (onward-next s h, of_other commit t (said s p) (rw (← e) (ne_eqb _ _ o)), of_other rollback t (said s p) (rw (← e) (ne_eqb _ _ o)))

  -- by what its type says
  pub found-here : v.txn.0 ≡ t → (x : Outcome) → outcome_number (Some x) ≡ ending_by v.kind → outcome_number (Some x) ≡ ending_of t (onward s p)
  found-here o x q = go (eqb v.kind commit) refl (eqb v.kind rollback) refl x q
    where
      go : (a : Bool) → eqb v.kind commit ≡ a → (b : Bool) → eqb v.kind rollback ≡ b → (x : Outcome) → outcome_number (Some x) ≡ pick a 1 (pick b 2 0) → outcome_number (Some x) ≡ ending_of t (onward s p)
      go true k b l x q = q ∙ commit-here o (eqb-true _ _ k)
      go false k true l x q = q ∙ rollback-here o (eqb-true _ _ l)
      go false k false l Committed q = absurd (omega arith)
      go false k false l RolledBack q = absurd (omega arith)

  pub passed-here : v.txn.0 ≡ t → 0 ≡ ending_by v.kind → ending_of t (onward s p) ≡ ending_of t (onward s (p + length_at s p))
  passed-here o q = go (eqb v.kind commit) refl (eqb v.kind rollback) refl q
    where
      go : (a : Bool) → eqb v.kind commit ≡ a → (b : Bool) → eqb v.kind rollback ≡ b → ◌≡◌ {A = ℕ} 0 (pick a 1 (pick b 2 0)) → ending_of t (onward s p) ≡ ending_of t (onward s (p + length_at s p))
      go true k b l q = absurd (omega arith)
      go false k true l q = absurd (omega arith)
      go false k false l q = going-here o (eqb-false _ _ k) (eqb-false _ _ l)

-- the outcome of a transaction whose ending stands at a place
module _ {s : List ℕ} {p : ℕ} (t : ℕ) (o : Ordered s) (m : Met s p) (h : Stands s p) (e : t ≡ (said s p).txn) (n : t ≡ 0 → ⊥) where
  pub ending-told : (x : Outcome) → outcome_number (Some x) ≡ ending_by (said s p).kind → outcome_of (entries s) t ≡ outcome_number (Some x)
  unfolding entry_of
  ending-told x q = fate-is t o m h e n ∙ sym (found-here s p t h (entry_in s p) refl (sym e) x q)

pub ending-none : (t : ℕ) (s : List ℕ) (p : ℕ) → p ≡ end_of s → 0 ≡ ending_of t (onward s p)
unfolding ending_of
ending-none t s p e = rw (e, onward-end s)
