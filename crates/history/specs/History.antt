-- Honest histories (paper 01, Which image wins; paper 02, W5): entries that are logged and changes that are taken back, step by step, and what they leave in the slots.
--
-- Asked is only what demand 3 needs. Paper 01 also asks that the starting pages are good, that the log rules hold, that a rollback takes back all its changes, newest first, and
-- a commit none, that a page's LSN is bounded by the floor and its felt changes, and that a step keeps a page's magic, id and reserved bytes: each history that
-- keeps these too is one of those here.
use Rattle.std.specs.Prelude.{ℕ, ◌≡◌, Bool, List, [], ◌∷◌, eqb}
use Rattle.endian.specs.Pick.{pick}
use Rattle.wal.specs.Entry.{Entry}
use Rattle.page.specs.Layout.{page_at, slot_at}
use Rattle.rules.specs.Shape.{Change, both, effect_on}
use Rattle.rules.specs.Mend.{committed}

-- a step: an entry is logged and takes effect, or slot k of page i gets back what it held before the newest change of transaction t on it that was not yet taken back
-- (paper 01: a restoring). A change may be of many slots, and a moment may fall between two of them
pub data Step : Type 0 where
  logged : Entry → Step
  restored : ℕ → ℕ → ℕ → Step

-- what each slot of each page holds, and the changes of each transaction on it that can be taken back, newest first
pub record State : Type 0 where
  pub slot : ℕ → ℕ → List ℕ
  pub undo : ℕ → ℕ → ℕ → List Change

-- the entries that steps log, in order
abbrev pub logged_in : List Step → List Entry
logged_in [] = []
logged_in (logged e ∷ steps) = e ∷ logged_in steps
logged_in (restored t i k ∷ steps) = logged_in steps

-- ---- one slot under changes: each leaves its after-image
abbrev pub applied : List Change → List ℕ → List ℕ
applied [] v = v
applied (x ∷ xs) v = applied xs x.after

-- each change finds its before-image in the slot
abbrev pub Finds : List ℕ → List Change → Type 0
Finds v [] = Unit {0}
Finds v (x ∷ xs) = (v ≡ x.before) × Finds x.after xs

-- ---- all slots under a step

-- changes laid on a stack, one after the other
abbrev pub onto : List Change → List Change → List Change
onto [] us = us
onto (x ∷ xs) us = onto xs (x ∷ us)

abbrev pub change : State → Entry → State
change s e =
    record {
      slot = λ i k. applied (effect_on i k e) (s.slot i k);
      undo = λ t i k. pick (eqb e.txn t) (onto (effect_on i k e) (s.undo t i k)) (s.undo t i k);
    }

-- slot (i, k) is slot (j, m)
abbrev pub is_at : ℕ → ℕ → ℕ → ℕ → Bool
is_at i k j m = both (eqb i j) (eqb k m)

abbrev pub restore : State → ℕ → ℕ → ℕ → List Change → State
restore s t i k [] = s
restore s t i k (x ∷ xs) =
    record {
      slot = λ j m. pick (is_at i k j m) x.before (s.slot j m);
      undo = λ u j m. pick (both (eqb t u) (is_at i k j m)) xs (s.undo u j m);
    }

abbrev pub run : State → List Step → State
run s [] = s
run s (logged e ∷ steps) = run (change s e) steps
run s (restored t i k ∷ steps) = run (restore s t i k (s.undo t i k)) steps

-- on the pages that are named, each change finds its before-image in its slot
abbrev pub Honest : (ℕ → Type 0) → State → List Step → Type 0
Honest named s [] = Unit {0}
Honest named s (logged e ∷ steps) = ((i k : ℕ) → named i → Finds (s.slot i k) (effect_on i k e)) × Honest named (change s e) steps
Honest named s (restored t i k ∷ steps) = Honest named (restore s t i k (s.undo t i k)) steps

-- the state of the starting pages: nothing to take back
abbrev pub start : List ℕ → State
start pages = record { slot = λ i k. slot_at (page_at i pages) k; undo = λ t i k. [] }

-- ---- the ledger of a cut (paper 01): slot k of page i, at first the starting pages' tuple; fed the entries in order, a change by a committed transaction puts its after-image
abbrev pub fed : (ℕ → Bool) → ℕ → ℕ → List Entry → List ℕ → List ℕ
fed c i k [] v = v
fed c i k (e ∷ es) v = fed c i k es (pick (c e.txn) (applied (effect_on i k e) v) v)

unfoldable pub ledger : List ℕ → List Entry → ℕ → ℕ → List ℕ
ledger pages es i k = fed (committed es) i k es (slot_at (page_at i pages) k)
