-- In entries that keep the order rules, the transactions that committed are as many as the Commits, and those that rolled back as many as the Rollbacks.
-- Assumes nothing.
use mathlib.Core.Path.{◌≡◌, refl, sym, ◌∙◌, subst}
use mathlib.Core.Bool.{Bool, true, false}
use Prim.Native.Nat.{ℕ, ◌+◌}
use native.Mathlib.Omega.{arith}
use mathlib.Core.List.{List, [], ◌∷◌, ◌++◌}
use lib.Dec.{eqb}
use borrow.Author.Tests.{eqb-true, eqb-false, eq-eqb, ne_eqb}
use Rattle.endian.specs.Pick.{pick}
use Rattle.wal.specs.Entry.{Entry, begin, commit, rollback}
use Rattle.wal.specs.Walk.{entries}
use Rattle.wal.proofs.Prefix.{met-end, before-end}
use Rattle.rules.specs.Shape.{both, either, is_changing}
use Rattle.rules.specs.Order.{one, count, any, is, is_begin, never_full}
use Rattle.rules.specs.Recover.{outcome_of, transactions}
use Rattle.rules.proofs.Tests.{either-none}
use Rattle.rules.proofs.OrderLaws.{Passes, numbered}
use Rattle.rules.proofs.Counts.{count-append, transactions-sum}
use Rattle.states.specs.State.{state_of}
use Rattle.fates.specs.Fate.{Ordered}
use Rattle.fates.proofs.Turns.{AllTold, own-state, own-going, held_at}
use Rattle.fates.proofs.Endings.{any_append, of_other, unended, outcome-unended}
use Rattle.tally.proofs.Begins.{Once, once-none, once-next}

abbrev pub is_kind : ℕ → Entry → Bool
is_kind k e = eqb e.kind k

-- ---- outcomes after one entry more

module _ (es : List Entry) (f : Entry) (u : ℕ) where
  after : outcome_of (es ++ (f ∷ [])) u ≡ pick (either (any (is commit u) es) (either (is commit u f) false)) 1 (pick (either (any (is rollback u) es) (either (is rollback u f) false)) 2 0)
  unfolding outcome_of
  after = rw (any_append (is commit u) es (f ∷ []), any_append (is rollback u) es (f ∷ []))

  -- an entry that is no ending of the transaction
  pub outcome-same : is commit u f ≡ false → is rollback u f ≡ false → outcome_of (es ++ (f ∷ [])) u ≡ outcome_of es u
  unfolding outcome_of
  outcome-same c r = after ∙ rw (c, r, either-none (any (is commit u) es), either-none (any (is rollback u) es))

  pub outcome-plain : eqb f.kind commit ≡ false → eqb f.kind rollback ≡ false → outcome_of (es ++ (f ∷ [])) u ≡ outcome_of es u
  outcome-plain c r = outcome-same (rw c) (rw r)

  pub outcome-other : eqb f.txn u ≡ false → outcome_of (es ++ (f ∷ [])) u ≡ outcome_of es u
  outcome-other q = outcome-same (of_other commit u f q) (of_other rollback u f q)

-- the first ending of a transaction
module _ (full : ℕ → Bool) (es : List Entry) (f : Entry) (h : Passes full es f) (told : AllTold es) where
  pub outcome-own : (f.txn ≡ 0 → ⊥) → outcome_of es f.txn ≡ 0
  outcome-own n = outcome-unended es f.txn n told (own-going full es f h told n)

  pub outcome-commit : f.kind ≡ commit → outcome_of (es ++ (f ∷ [])) f.txn ≡ 1
  unfolding is_changing
  outcome-commit k =
      let n : f.txn ≡ 0 → ⊥ = numbered full es f h commit refl refl k in
      let a = unended es f.txn n told (own-going full es f h told n) in
      after es f f.txn ∙ rw (a.0, k, eq-eqb f.txn f.txn refl)

  pub outcome-rollback : f.kind ≡ rollback → outcome_of (es ++ (f ∷ [])) f.txn ≡ 2
  unfolding is_changing
  outcome-rollback k =
      let n : f.txn ≡ 0 → ⊥ = numbered full es f h rollback refl refl k in
      let a = unended es f.txn n told (own-going full es f h told n) in
      after es f f.txn ∙ rw (a.0, a.1, k, eq-eqb f.txn f.txn refl)

-- ---- transactions by outcome

-- those of the Begins among es whose transactions have the outcome o in all
abbrev having : ℕ → List Entry → List Entry → ℕ
having o all es = count (λ e. both (is_begin e) (eqb (outcome_of all e.txn) o)) es

same-having : (o : ℕ) (all more es : List Entry) → ((u : ℕ) → outcome_of more u ≡ outcome_of all u) → having o more es ≡ having o all es
same-having o all more [] h = refl
same-having o all more (e ∷ es) h = rw (h e.txn, same-having o all more es h)

-- where only t changed, from 0 to p, its Begins are counted for p
moved-having : (o p t : ℕ) (all more : List Entry) → eqb 0 o ≡ false → ((u : ℕ) → eqb t u ≡ false → outcome_of more u ≡ outcome_of all u)
    → outcome_of all t ≡ 0 → outcome_of more t ≡ p → (es : List Entry) → having o more es ≡ having o all es + pick (eqb p o) (count (is begin t) es) 0
moved-having o p t all more z h a m [] = go (eqb p o)
  where
    go : (b : Bool) → 0 ≡ 0 + pick {A = ℕ} b 0 0
    go true = refl
    go false = refl
moved-having o p t all more z h a m (e ∷ es) = at (eqb e.txn t) refl (moved-having o p t all more z h a m es)
  where
    own : (b y : Bool) (n c d : ℕ) → n ≡ c + pick y d 0 → one (both b y) + n ≡ one (both b false) + c + pick y (one (both b true) + d) 0
    own true true n c d q = omega arith
    own true false n c d q = omega arith
    own false true n c d q = omega arith
    own false false n c d q = omega arith

    other : (b x y : Bool) (n c d : ℕ) → n ≡ c + pick y d 0 → one (both b x) + n ≡ one (both b x) + c + pick y (one (both b false) + d) 0
    other true x true n c d q = omega arith
    other true x false n c d q = omega arith
    other false x true n c d q = omega arith
    other false x false n c d q = omega arith

    at : (w : Bool) → eqb e.txn t ≡ w → having o more es ≡ having o all es + pick (eqb p o) (count (is begin t) es) 0
        → having o more (e ∷ es) ≡ having o all (e ∷ es) + pick (eqb p o) (one (is begin t e) + count (is begin t) es) 0
    at true w q =
        let k : e.txn ≡ t = eqb-true _ _ w in
        rw (k, a, m, z, eq-eqb t t refl) (own (is_begin e) (eqb p o) _ _ _ q)
    at false w q =
        let v : eqb t e.txn ≡ false = ne_eqb t e.txn (λ k. eqb-false e.txn t w (sym k)) in
        rw (h e.txn v, w) (other (is_begin e) (eqb (outcome_of all e.txn) o) (eqb p o) _ _ _ q)

pub record Ends (es : List Entry) : Type 0 where
  pub once : Once es
  pub commits : transactions 1 es ≡ count (is_kind commit) es
  pub rollbacks : transactions 2 es ≡ count (is_kind rollback) es

ends-none : Ends []
unfolding transactions
ends-none = record { once = once-none; commits = refl; rollbacks = refl }

module _ (es : List Entry) (f : Entry) (h : Passes never_full es f) (told : AllTold es) (ends : Ends es) where
  -- an entry that is no ending
  plain : (o : ℕ) → eqb 0 o ≡ false → eqb f.kind commit ≡ false → eqb f.kind rollback ≡ false → transactions o (es ++ (f ∷ [])) ≡ transactions o es
  unfolding transactions is_changing
  plain o z c r =
      count-append (λ e. both (is_begin e) (eqb (outcome_of (es ++ (f ∷ [])) e.txn) o)) es (f ∷ [])
      ∙ rw (same-having o es (es ++ (f ∷ [])) es (λ u. outcome-plain es f u c r), outcome-plain es f f.txn c r) (own (is_begin f) refl)
    where
      own : (b : Bool) → is_begin f ≡ b → having o es es + (one (both b (eqb (outcome_of es f.txn) o)) + 0) ≡ having o es es
      own true q = rw (outcome-own never_full es f h told (numbered never_full es f h begin refl refl (eqb-true _ _ q)), z) (omega arith)
      own false q = omega arith

  -- the ending of a transaction with outcome p
  ending : (o p k : ℕ) → eqb 0 o ≡ false → f.kind ≡ k → is_changing k ≡ false → eqb k 7 ≡ false → eqb k begin ≡ false
      → outcome_of (es ++ (f ∷ [])) f.txn ≡ p → transactions o (es ++ (f ∷ [])) ≡ transactions o es + one (eqb p o)
  unfolding transactions
  ending o p k z e c d b m =
      let n : f.txn ≡ 0 → ⊥ = numbered never_full es f h k c d e in
      let nb : is_begin f ≡ false = rw e b in
      let s : state_of f.txn es ≡ 1 = own-state never_full es f h told n ∙ rw nb in
      let w : count (is begin f.txn) es ≡ 1 = ends.once.at f.txn ∙ rw (ne_eqb f.txn 0 n, s) in
      count-append (λ e. both (is_begin e) (eqb (outcome_of (es ++ (f ∷ [])) e.txn) o)) es (f ∷ [])
      ∙ rw (moved-having o p f.txn es (es ++ (f ∷ [])) z (λ u q. outcome-other es f u q) (outcome-own never_full es f h told n) m es, nb, w) (last (eqb p o))
    where
      last : (y : Bool) → having o es es + pick y 1 0 + (0 + 0) ≡ having o es es + one y
      last true = omega arith
      last false = omega arith

  pub ends_next : Ends (es ++ (f ∷ []))
  unfolding is_changing
  ends_next = at (eqb f.kind commit) (eqb f.kind rollback) refl refl
    where
      more : (k : ℕ) → count (is_kind k) (es ++ (f ∷ [])) ≡ count (is_kind k) es + one (eqb f.kind k)
      more k = count-append (is_kind k) es (f ∷ []) ∙ omega arith

      next : Once (es ++ (f ∷ []))
      next = once-next es f h told ends.once

      at : (c r : Bool) → eqb f.kind commit ≡ c → eqb f.kind rollback ≡ r → Ends (es ++ (f ∷ []))
      at true r c q =
          let k : f.kind ≡ commit = eqb-true _ _ c in
          let m = outcome-commit never_full es f h told k in
          record {
            once = next;
            commits = ending 1 1 commit refl k refl refl refl m ∙ rw (ends.commits, more commit, c);
            rollbacks = ending 2 1 commit refl k refl refl refl m ∙ rw (ends.rollbacks, more rollback, k);
          }
      at false true c q =
          let k : f.kind ≡ rollback = eqb-true _ _ q in
          let m = outcome-rollback never_full es f h told k in
          record {
            once = next;
            commits = ending 1 2 rollback refl k refl refl refl m ∙ rw (ends.commits, more commit, k);
            rollbacks = ending 2 2 rollback refl k refl refl refl m ∙ rw (ends.rollbacks, more rollback, q);
          }
      at false false c q =
          record {
            once = next;
            commits = plain 1 refl c q ∙ ends.commits ∙ sym (more commit ∙ rw c (omega arith));
            rollbacks = plain 2 refl c q ∙ ends.rollbacks ∙ sym (more rollback ∙ rw q (omega arith));
          }

-- ---- all entries of a log

pub ends-all : (s : List ℕ) → Ordered s → Ends (entries s)
ends-all s o = subst Ends (before-end s) (held_at Ends ends-none (λ es f h told e. ends_next es f h told e) o (met-end s))

pub unended-all : (s : List ℕ) → Ordered s → count (is_kind commit) (entries s) + count (is_kind rollback) (entries s) + transactions 0 (entries s) ≡ count is_begin (entries s)
unended-all s o = let e = ends-all s o in omega (arith, transactions-sum (entries s), e.commits, e.rollbacks)
