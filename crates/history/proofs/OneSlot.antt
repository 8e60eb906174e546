-- Demand 3 of one slot: what wins over the slot as it stood at a moment is what the ledger of the cut says.
-- Assumes nothing.
use mathlib.Core.Path.{◌≡◌, refl, sym, ap, ap₂, ◌∙◌}
use Prim.Native.Nat.{ℕ}
use native.Mathlib.Omega.{arith}
use mathlib.Core.Bool.{Bool, true, false}
use mathlib.Core.List.{List, [], ◌∷◌, ◌++◌}
use lib.ListN.{length, take, drop, take-append-drop}
use lib.Dec.{eqb}
use borrow.Author.Tests.{eqb-true}
use Rattle.endian.specs.Pick.{pick}
use Rattle.wal.specs.Entry.{Entry}
use Rattle.rules.specs.Shape.{Change, both, is_on, slot_of, before_of, after_of, effect_on}
use Rattle.rules.specs.Mend.{winner, last_after, changes, top_of}
use Rattle.rules.proofs.Tests.{both_true}
use Rattle.rules.proofs.Slots.{changes-append, changes-past}
use Rattle.history.specs.History.{Step, logged, restored, State, logged_in, applied, Finds, change, is_at, restore, run, Honest, fed}

-- slot k of page i
module _ (i k : ℕ) where
  -- the slot holds v, and no change of it can be taken back
  record Quiet (v : List ℕ) (s : State) : Type 0 where
    holds : s.slot i k ≡ v
    none : (t : ℕ) → s.undo t i k ≡ []

  quiet-change : (v : List ℕ) (s : State) (e : Entry) → effect_on i k e ≡ [] → Quiet v s → Quiet v (change s e)
  quiet-change v s e n q = record { holds = rw n q.holds; none = λ t. rw n (either t (eqb e.txn t)) }
    where
      either : (t : ℕ) (b : Bool) → pick b (s.undo t i k) (s.undo t i k) ≡ []
      either t true = q.none t
      either t false = q.none t

  quiet-restore : (t j m : ℕ) (v : List ℕ) (s : State) (us : List Change) → s.undo t j m ≡ us → Quiet v s → Quiet v (restore s t j m us)
  quiet-restore t j m v s [] h q = q
  quiet-restore t j m v s (x ∷ us) h q = record { holds = hold (is_at j m i k) refl; none = λ u. rest u (eqb t u) refl }
    where
      -- the slot itself has nothing to take back
      other : is_at j m i k ≡ true → ⊥
      other e =
          let b = both_true (eqb j i) (eqb m k) e in
          let ji : j ≡ i = eqb-true _ _ b.0 in
          let mk : m ≡ k = eqb-true _ _ b.1 in
          let n : s.undo t j m ≡ [] = rw (ji, mk) (q.none t) in
          omega (arith, ap length (sym h ∙ n))

      hold : (b : Bool) → is_at j m i k ≡ b → pick b x.before (s.slot i k) ≡ v
      hold true e = absurd (other e)
      hold false e = q.holds

      rest : (u : ℕ) (a : Bool) → eqb t u ≡ a → pick (both a (is_at j m i k)) us (s.undo u i k) ≡ []
      rest u true e = go (is_at j m i k) refl
        where
          go : (b : Bool) → is_at j m i k ≡ b → pick b us (s.undo u i k) ≡ []
          go true d = absurd (other d)
          go false d = q.none u
      rest u false e = q.none u

  first-nil : {A : Type 0} (xs ys : List A) → xs ++ ys ≡ [] → xs ≡ []
  first-nil [] ys h = refl
  first-nil (x ∷ xs) ys h = absurd (omega (arith, ap length h))

  second-nil : {A : Type 0} (xs ys : List A) → xs ++ ys ≡ [] → ys ≡ []
  second-nil [] ys h = h
  second-nil (x ∷ xs) ys h = absurd (omega (arith, ap length h))

  -- while nothing changes the slot, it stays as it was
  quiet-run : (v : List ℕ) (s : State) (steps : List Step) → changes i k (logged_in steps) ≡ [] → Quiet v s → Quiet v (run s steps)
  unfolding changes
  quiet-run v s [] n q = q
  quiet-run v s (logged e ∷ steps) n q =
      quiet-run v (change s e) steps (second-nil (effect_on i k e) _ n) (quiet-change v s e (first-nil (effect_on i k e) _ n) q)
  quiet-run v s (restored t j m ∷ steps) n q = quiet-run v (restore s t j m (s.undo t j m)) steps n (quiet-restore t j m v s (s.undo t j m) refl q)

  pub untouched : (s : State) (steps : List Step) → ((t : ℕ) → s.undo t i k ≡ []) → changes i k (logged_in steps) ≡ [] → (run s steps).slot i k ≡ s.slot i k
  untouched s steps none n = (quiet-run (s.slot i k) s steps n (record { holds = refl; none = none })).holds

  -- the first change on the slot finds what it held at first
  first-before : (named : ℕ → Type 0) (v : List ℕ) (s : State) (steps : List Step) (x : Change) (xs : List Change) → named i → Honest named s steps → changes i k (logged_in steps) ≡ x ∷ xs → Quiet v s → x.before ≡ v
  unfolding changes
  first-before named v s [] x xs at h n q = absurd (omega (arith, ap length n))
  first-before named v s (logged e ∷ steps) x xs at h n q =
      go (effect_on i k e) refl n (h.0 i k at) (λ a b. first-before named v (change s e) steps x xs at h.1 a (quiet-change v s e b q))
    where
      go : (ys : List Change) → effect_on i k e ≡ ys → ys ++ changes i k (logged_in steps) ≡ x ∷ xs → Finds (s.slot i k) ys
          → (changes i k (logged_in steps) ≡ x ∷ xs → effect_on i k e ≡ [] → x.before ≡ v) → x.before ≡ v
      go [] m a f later = later a m
      go (y ∷ ys) m a f later =
          let yx : y ≡ x = cc in
          ap (λ (z : Change). z.before) (sym yx) ∙ sym f.0 ∙ q.holds
  first-before named v s (restored t j m ∷ steps) x xs at h n q =
      first-before named v (restore s t j m (s.undo t j m)) steps x xs at h n (quiet-restore t j m v s (s.undo t j m) refl q)

  -- ---- the ledger keeps the after-image of the last committed change

  last-append : (c : ℕ → Bool) (xs ys : List Change) (d : List ℕ) → last_after c (xs ++ ys) d ≡ last_after c ys (last_after c xs d)
  last-append c [] ys d = refl
  last-append c (x ∷ xs) ys d = last-append c xs ys (pick (c x.by) x.after d)

  last_one : (c : ℕ → Bool) (e : Entry) (d : List ℕ) → last_after c (effect_on i k e) d ≡ pick (c e.txn) (applied (effect_on i k e) d) d
  unfolding effect_on
  last_one c e d = go (both (is_on i e) (eqb (slot_of e) k))
    where
      none : (b : Bool) → d ≡ pick b d d
      none true = refl
      none false = refl

      go : (b : Bool) → last_after c (pick {A = List Change} b (record { by = e.txn; before = before_of e; after = after_of e } ∷ []) []) d
          ≡ pick (c e.txn) (applied (pick {A = List Change} b (record { by = e.txn; before = before_of e; after = after_of e } ∷ []) []) d) d
      go true = refl
      go false = none (c e.txn)

  pub fed-last : (c : ℕ → Bool) (es : List Entry) (v : List ℕ) → fed c i k es v ≡ last_after c (changes i k es) v
  unfolding changes
  fed-last c [] v = refl
  fed-last c (e ∷ es) v =
      fed-last c es (pick (c e.txn) (applied (effect_on i k e) v) v) ∙ ap (last_after c (changes i k es)) (sym (last_one c e v)) ∙ sym (last-append c (effect_on i k e) (changes i k es) v)

  -- ---- a moment and a cut

  -- of two lists that begin alike, what the first has within the second's length is a part of the second
  within : {A : Type 0} (xs ys es zs : List A) → xs ++ ys ≡ es ++ zs → (ws : List A) × (take (length es) xs ++ ws ≡ es)
  within xs ys [] zs h = ([], refl)
  within [] ys (e ∷ es) zs h = (e ∷ es, refl)
  within {A} (x ∷ xs) ys (e ∷ es) zs h =
      let xe : x ≡ e = cc in
      let r : (ws : List A) × (take (length es) xs ++ ws ≡ es) = within xs ys es zs (cc) in
      (r.0, ap₂ ◌∷◌ xe r.1)

  logged-append : (xs ys : List Step) → logged_in (xs ++ ys) ≡ logged_in xs ++ logged_in ys
  logged-append [] ys = refl
  logged-append (logged e ∷ xs) ys = ap (λ (l : List Entry). e ∷ l) (logged-append xs ys)
  logged-append (restored t j m ∷ xs) ys = logged-append xs ys

  pub slot-recovers : (named : ℕ → Type 0) → named i → (s : State) (steps : List Step) (m : ℕ) (c : ℕ → Bool) (es zs : List Entry) → ((t : ℕ) → s.undo t i k ≡ []) → Honest named s steps
      → es ++ zs ≡ logged_in steps → top_of i (drop (length es) (logged_in (take m steps))) ≡ 0
      → winner c (changes i k es) ((run s (take m steps)).slot i k) ≡ last_after c (changes i k es) (s.slot i k)
  slot-recovers named at s steps m c es zs none h cut felt = go (changes i k es) refl
    where
      start : Quiet (s.slot i k) s
      start = record { holds = refl; none = none }

      A : List Entry
      A = logged_in (take m steps)

      split : A ++ logged_in (drop m steps) ≡ es ++ zs
      split = sym (logged-append (take m steps) (drop m steps)) ∙ ap logged_in (take-append-drop m steps) ∙ sym cut

      no_change : changes i k es ≡ [] → changes i k A ≡ []
      no_change n =
          let w = within A (logged_in (drop m steps)) es zs split in
          let a : changes i k (take (length es) A) ≡ [] = first-nil (changes i k (take (length es) A)) (changes i k w.0) (sym (changes-append i k (take (length es) A) w.0) ∙ ap (changes i k) w.1 ∙ n) in
          let b : changes i k (drop (length es) A) ≡ [] = changes-past i k (drop (length es) A) (omega arith) in
          ap (changes i k) (sym (take-append-drop (length es) A)) ∙ changes-append i k (take (length es) A) (drop (length es) A) ∙ rw (a, b)

      go : (xs : List Change) → changes i k es ≡ xs → winner c xs ((run s (take m steps)).slot i k) ≡ last_after c xs (s.slot i k)
      go [] n = untouched s (take m steps) none (no_change n)
      go (x ∷ xs) n =
          let all : changes i k (logged_in steps) ≡ x ∷ (xs ++ changes i k zs) = ap (changes i k) (sym cut) ∙ changes-append i k es zs ∙ ap (λ (l : List Change). l ++ changes i k zs) n in
          ap (last_after c (x ∷ xs)) (first-before named (s.slot i k) s steps x (xs ++ changes i k zs) at h all start)
