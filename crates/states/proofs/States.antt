-- In entries that keep the order rules, the state of a transaction is told by its newest entry.
-- Assumes nothing.
use mathlib.Core.Path.{◌≡◌, refl, sym, ap, ◌∙◌}
use mathlib.Core.Bool.{Bool, true, false, not}
use Prim.Native.Nat.{ℕ, zero, suc, ◌+◌, ◌≤◌}
use native.Mathlib.Omega.{arith}
use mathlib.Core.List.{List, [], ◌∷◌, ◌++◌}
use lib.Dec.{eqb}
use borrow.Author.Tests.{eqb-true, eqb-false, eq-eqb, ne_eqb}
use Rattle.endian.specs.Pick.{pick}
use Rattle.wal.specs.Entry.{Entry, begin, commit, rollback, checkpoint}
use Rattle.rules.specs.Shape.{both, either, is_change, is_shaped, is_bare}
use Rattle.rules.specs.Order.{one, count, any, is, is_begin, begun, ended, is_open, in_order}
use Rattle.rules.proofs.Tests.{both_true, either-none}
use Rattle.states.specs.State.{state_after, state_from, state_of, may_follow, ordered}

-- ---- one entry more

pub state-append : (t s : ℕ) (es fs : List Entry) → state_from t s (es ++ fs) ≡ state_from t (state_from t s es) fs
unfolding state_from
state-append t s [] fs = refl
state-append t s (e ∷ es) fs = state-append t (pick (eqb e.txn t) (state_after e.kind) s) es fs

pub state-snoc : (t : ℕ) (es : List Entry) (e : Entry) → state_of t (es ++ (e ∷ [])) ≡ pick (eqb e.txn t) (state_after e.kind) (state_of t es)
unfolding state_from
state-snoc t es e = state-append t 0 es (e ∷ [])

-- a change of transaction t
abbrev pub changing : ℕ → Entry → Bool
changing t f = both (is_change f) (eqb f.txn t)

-- a transaction that has not begun has no change
pub none-changed : (t s : ℕ) (es : List Entry) → state_from t s es ≡ 0 → (s ≡ 0) × (count (changing t) es ≡ 0)
unfolding state_from state_after
none-changed t s [] h = (h, refl)
none-changed t s (e ∷ es) h = go (eqb e.txn t) (either (eqb e.kind commit) (eqb e.kind rollback)) (is_change e) (none-changed t (pick (eqb e.txn t) (state_after e.kind) s) es h)
  where
    go : (w b c : Bool) → (pick w (pick b 2 1) s ≡ 0) × (count (changing t) es ≡ 0) → (s ≡ 0) × (one (both c w) + count (changing t) es ≡ 0)
    go true true c k = absurd (omega arith)
    go true false c k = absurd (omega arith)
    go false b true k = (k.0, omega arith)
    go false b false k = (k.0, omega arith)

any_snoc : (f : Entry → Bool) (es : List Entry) (e : Entry) → any f (es ++ (e ∷ [])) ≡ either (any f es) (f e)
any_snoc f [] e = either-none (f e)
any_snoc f (d ∷ es) e = rw (any_snoc f es e) (go (f d))
  where
    go : (b : Bool) → either b (either (any f es) (f e)) ≡ either (either b (any f es)) (f e)
    go true = refl
    go false = refl

pub begun-snoc : (es : List Entry) (e : Entry) (t : ℕ) → begun (es ++ (e ∷ [])) t ≡ either (begun es t) (is begin t e)
unfolding begun
begun-snoc es e t = any_snoc (is begin t) es e

pub ended-snoc : (es : List Entry) (e : Entry) (t : ℕ) → ended (es ++ (e ∷ [])) t ≡ either (ended es t) (either (is commit t e) (is rollback t e))
unfolding ended
ended-snoc es e t = rw (any_snoc (is commit t) es e, any_snoc (is rollback t) es e) (go (any (is commit t) es) (is commit t e) (any (is rollback t) es))
  where
    go : (a b c : Bool) → either (either a b) (either c (is rollback t e)) ≡ either (either a c) (either b (is rollback t e))
    go true b c = refl
    go false true true = refl
    go false true false = refl
    go false false true = refl
    go false false false = refl

-- ---- what the state tells

pub record Told (es : List Entry) (t : ℕ) : Type 0 where
  pub begins : begun es t ≡ not (eqb (state_of t es) 0)
  pub ends : ended es t ≡ eqb (state_of t es) 2

pub told_none : (t : ℕ) → Told [] t
unfolding begun ended state_from
told_none t = record { begins = refl; ends = refl }

pub state-le : (t s : ℕ) (es : List Entry) → s ≤ 2 → state_from t s es ≤ 2
unfolding state_from state_after
state-le t s [] h = h
state-le t s (e ∷ es) h = state-le t (pick (eqb e.txn t) (state_after e.kind) s) es (go (eqb e.txn t) (either (eqb e.kind commit) (eqb e.kind rollback)))
  where
    go : (a b : Bool) → pick a (pick b 2 1) s ≤ 2
    go true true = omega arith
    go true false = omega arith
    go false b = h

-- begun and not ended is the state 1
open-one : (s : ℕ) → s ≤ 2 → both (not (eqb s 0)) (not (eqb s 2)) ≡ eqb s 1
open-one zero h = refl
open-one (suc zero) h = refl
open-one (suc (suc zero)) h = refl
open-one (suc (suc (suc s))) h = absurd (omega arith)

twice-not : (b : Bool) → not (not b) ≡ b
twice-not true = refl
twice-not false = refl

pub open_is : (es : List Entry) (t : ℕ) → Told es t → is_open es t ≡ eqb (state_of t es) 1
unfolding is_open
open_is es t k = rw (k.begins, k.ends) (open-one (state_of t es) (state-le t 0 es (omega arith)))

-- by the state, the order rule is the same
pub ordered-is : (es : List Entry) (e : Entry) → ((t : ℕ) → (t ≡ 0 → ⊥) → Told es t) → in_order es e ≡ ordered (state_of e.txn es) e
unfolding in_order may_follow
ordered-is es e told = go (eqb e.txn 0) refl
  where
    go : (z : Bool) → eqb e.txn 0 ≡ z
        → pick (eqb e.kind checkpoint) true (pick z (is_change e) (pick (is_begin e) (not (begun es e.txn)) (is_open es e.txn)))
        ≡ pick (eqb e.kind checkpoint) true (pick z (is_change e) (pick (is_begin e) (eqb (state_of e.txn es) 0) (eqb (state_of e.txn es) 1)))
    go true q = refl
    go false q =
        let k = told e.txn (eqb-false _ _ q) in
        rw (k.begins, open_is es e.txn k, twice-not)

-- ---- an entry that keeps the rules keeps the state telling

-- a Checkpoint is of transaction 0
pub checkpoint-zero : (e : Entry) → is_shaped e ≡ true → e.kind ≡ checkpoint → e.txn ≡ 0
unfolding is_shaped is_bare
checkpoint-zero e h k =
    let a : both (is_bare e) (eqb e.txn 0) ≡ true = rw k at h in
    eqb-true _ _ (both_true (is_bare e) (eqb e.txn 0) a).1

told-other : (es : List Entry) (e : Entry) (t : ℕ) → (e.txn ≡ t → ⊥) → Told es t → Told (es ++ (e ∷ [])) t
told-other es e t n k =
    let x : eqb e.txn t ≡ false = ne_eqb _ _ n in
    let s : state_of t (es ++ (e ∷ [])) ≡ state_of t es = state-snoc t es e ∙ rw x in
    record {
      begins = begun-snoc es e t ∙ rw (x, s) (ap (λ (b : Bool). either b (both (eqb e.kind begin) false)) k.begins ∙ none (not (eqb (state_of t es) 0)) (eqb e.kind begin));
      ends = ended-snoc es e t ∙ rw (x, s) (ap (λ (b : Bool). either b (either (both (eqb e.kind commit) false) (both (eqb e.kind rollback) false))) k.ends ∙ neither (eqb (state_of t es) 2) (eqb e.kind commit) (eqb e.kind rollback));
    }
  where
    none : (a b : Bool) → either a (both b false) ≡ a
    none true b = refl
    none false true = refl
    none false false = refl

    neither : (a b c : Bool) → either a (either (both b false) (both c false)) ≡ a
    neither true b c = refl
    neither false true true = refl
    neither false true false = refl
    neither false false true = refl
    neither false false false = refl

told-own : (es : List Entry) (e : Entry) (t : ℕ) → e.txn ≡ t → (t ≡ 0 → ⊥) → is_shaped e ≡ true → ordered (state_of t es) e ≡ true → Told es t → Told (es ++ (e ∷ [])) t
unfolding may_follow state_after
told-own es e t own n shaped h k =
    let x : eqb e.txn t ≡ true = eq-eqb _ _ own in
    let z : eqb e.txn 0 ≡ false = ne_eqb _ _ (λ q. n (sym own ∙ q)) in
    let c : eqb e.kind checkpoint ≡ false = ne_eqb _ _ (λ q. n (sym own ∙ checkpoint-zero e shaped q)) in
    let s : state_of t (es ++ (e ∷ [])) ≡ state_after e.kind = state-snoc t es e ∙ rw x in
    let o : pick (eqb e.kind begin) (eqb (state_of t es) 0) (eqb (state_of t es) 1) ≡ true = rw (c, z) at h in
    record {
      begins = begun-snoc es e t ∙ rw (x, s, k.begins) (one_more (eqb e.kind begin) (eqb e.kind commit) (eqb e.kind rollback) (state_of t es) o);
      ends = ended-snoc es e t ∙ rw (x, s, k.ends) (at-end (eqb e.kind begin) (eqb e.kind commit) (eqb e.kind rollback) (state_of t es) o);
    }
  where
    one_more : (b c r : Bool) (s : ℕ) → pick b (eqb s 0) (eqb s 1) ≡ true → either (not (eqb s 0)) (both b true) ≡ not (eqb (pick (either c r) 2 1) 0)
    one_more true true r s o = rw (eqb-true s 0 o)
    one_more true false true s o = rw (eqb-true s 0 o)
    one_more true false false s o = rw (eqb-true s 0 o)
    one_more false true r s o = rw (eqb-true s 1 o)
    one_more false false true s o = rw (eqb-true s 1 o)
    one_more false false false s o = rw (eqb-true s 1 o)

    at-end : (b c r : Bool) (s : ℕ) → pick b (eqb s 0) (eqb s 1) ≡ true → either (eqb s 2) (either (both c true) (both r true)) ≡ eqb (pick (either c r) 2 1) 2
    at-end true true r s o = rw (eqb-true s 0 o)
    at-end true false true s o = rw (eqb-true s 0 o)
    at-end true false false s o = rw (eqb-true s 0 o)
    at-end false true r s o = rw (eqb-true s 1 o)
    at-end false false true s o = rw (eqb-true s 1 o)
    at-end false false false s o = rw (eqb-true s 1 o)

-- the state tells of every transaction after an entry that keeps the rules
pub told-snoc : (es : List Entry) (e : Entry) → is_shaped e ≡ true → ordered (state_of e.txn es) e ≡ true → ((t : ℕ) → (t ≡ 0 → ⊥) → Told es t) → (t : ℕ) → (t ≡ 0 → ⊥) → Told (es ++ (e ∷ [])) t
told-snoc es e shaped h told t n = go (eqb e.txn t) refl
  where
    go : (b : Bool) → eqb e.txn t ≡ b → Told (es ++ (e ∷ [])) t
    go true q = let own : e.txn ≡ t = eqb-true _ _ q in told-own es e t own n shaped (ap (λ (u : ℕ). ordered (state_of u es) e) (sym own) ∙ h) (told t n)
    go false q = told-other es e t (eqb-false _ _ q) (told t n)
