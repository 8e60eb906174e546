-- In entries that keep the order rules a number begins once, and 0 never.
-- Assumes nothing.
use mathlib.Core.Path.{◌≡◌, refl, ◌∙◌}
use mathlib.Core.Bool.{Bool, true, false}
use Prim.Native.Nat.{ℕ, suc, ◌+◌, ◌≤◌}
use native.Mathlib.Omega.{arith}
use mathlib.Core.List.{List, [], ◌∷◌, ◌++◌}
use lib.ListN.{length}
use lib.Dec.{eqb}
use borrow.Author.Tests.{eqb-true, eqb-false, eq-eqb}
use Rattle.endian.specs.Pick.{pick}
use Rattle.wal.specs.Entry.{Entry, begin, commit, rollback}
use Rattle.rules.specs.Shape.{both, either, is_changing}
use Rattle.rules.specs.Order.{one, count, is, is_begin, never_full}
use Rattle.rules.proofs.OrderLaws.{Passes, numbered}
use Rattle.rules.proofs.Counts.{count-append}
use Rattle.states.specs.State.{state_after, state_from, state_of}
use Rattle.states.proofs.States.{state-snoc}
use Rattle.fates.proofs.Turns.{AllTold, own-state}
use Rattle.fates.proofs.Endings.{of_other}

-- ---- counts

pub count-le : (f : Entry → Bool) (es : List Entry) → count f es ≤ length es
count-le f [] = omega arith
count-le f (e ∷ es) = go (f e) (count-le f es)
  where
    go : (b : Bool) → count f es ≤ length es → one b + count f es ≤ suc (length es)
    go true h = omega arith
    go false h = omega arith

-- ---- one Begin

pub record Once (es : List Entry) : Type 0 where
  pub at : (t : ℕ) → count (is begin t) es ≡ pick (eqb t 0) 0 (pick (eqb (state_of t es) 0) 0 1)

pub once-none : Once []
unfolding state_from
once-none = record { at = λ t. go (eqb t 0) }
  where
    go : (b : Bool) → 0 ≡ pick {A = ℕ} b 0 0
    go true = refl
    go false = refl

pub once-next : (es : List Entry) (f : Entry) → Passes never_full es f → AllTold es → Once es → Once (es ++ (f ∷ []))
unfolding is_changing state_after
once-next es f h told o = record { at = λ t. count-append (is begin t) es (f ∷ []) ∙ go t (eqb f.txn t) refl }
  where
    other : (n : ℕ) → n + (0 + 0) ≡ n
    other n = omega arith

    -- an entry of the transaction itself
    own : (b c r : Bool) → pick {A = ℕ} (eqb (pick {A = ℕ} b 0 1) 0) 0 1 + (one (both b true) + 0) ≡ pick {A = ℕ} (eqb (pick {A = ℕ} (either c r) 2 1) 0) 0 1
    own true true r = refl
    own true false true = refl
    own true false false = refl
    own false true r = refl
    own false false true = refl
    own false false false = refl

    never : (b : Bool) → is_begin f ≡ b → f.txn ≡ 0 → 0 + (one (both b true) + 0) ≡ 0
    never true q z = absurd (numbered never_full es f h begin refl refl (eqb-true _ _ q) z)
    never false q z = refl

    mine : (z : Bool) → eqb f.txn 0 ≡ z → count (is begin f.txn) es + (one (is begin f.txn f) + 0) ≡ pick (eqb f.txn 0) 0 (pick (eqb (state_of f.txn (es ++ (f ∷ []))) 0) 0 1)
    mine true z = rw (o.at f.txn, z, eq-eqb f.txn f.txn refl) (never (is_begin f) refl (eqb-true _ _ z))
    mine false z =
        rw (o.at f.txn, z, eq-eqb f.txn f.txn refl, state-snoc f.txn es f, eq-eqb f.txn f.txn refl, own-state never_full es f h told (eqb-false _ _ z))
        (own (is_begin f) (eqb f.kind commit) (eqb f.kind rollback))

    go : (t : ℕ) (b : Bool) → eqb f.txn t ≡ b → count (is begin t) es + (one (is begin t f) + 0) ≡ pick (eqb t 0) 0 (pick (eqb (state_of t (es ++ (f ∷ []))) 0) 0 1)
    go t true q = rw (← eqb-true f.txn t q) (mine (eqb f.txn 0) refl)
    go t false q = rw (of_other begin t f q, state-snoc t es f, q) (other (count (is begin t) es) ∙ o.at t)
