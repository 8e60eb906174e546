-- In entries without a clash, all open changes on a slot are of one transaction, that of the newest; so an entry clashes exactly if it clashes with the newest.
-- Assumes nothing.
use mathlib.Core.Path.{◌≡◌, refl, sym, ◌∙◌, subst}
use mathlib.Core.Bool.{Bool, true, false, not}
use Prim.Native.Nat.{ℕ, zero, suc, ◌≤◌}
use native.Mathlib.Omega.{arith}
use mathlib.Core.List.{List, [], ◌∷◌, ◌++◌, append_assoc}
use lib.Dec.{eqb}
use borrow.Author.Tests.{eqb-true, eqb-false, eq-eqb, ne_eqb}
use Rattle.endian.specs.Pick.{pick}
use Rattle.wal.specs.Entry.{Entry, commit, rollback}
use Rattle.rules.specs.Shape.{both, either, is_change, is_on, page_of, slot_of, same_slot}
use Rattle.rules.specs.Order.{any, ended, clashes}
use Rattle.rules.proofs.Tests.{false-true, both_true, true-both, either-false, not-true}
use Rattle.rules.proofs.OrderLaws.{Every, every_map}
use Rattle.states.specs.State.{state_after, state_from, state_of}
use Rattle.states.specs.Clash.{newest_from, newest_by, clash_after}
use Rattle.states.proofs.States.{Told, ended-snoc, state-append, state-le}

-- ---- one slot

-- two entries that change the slot of a third change one slot
same-two : (e f g : Entry) → same_slot e f ≡ true → same_slot e g ≡ true → same_slot g f ≡ true
unfolding same_slot is_on
same-two e f g h k =
    let a = both_true (both (is_change f) (eqb (page_of f) (page_of e))) _ h in
    let b = both_true (is_change f) _ a.0 in
    let c = both_true (is_change e) _ a.1 in
    let p = both_true (both (is_change g) (eqb (page_of g) (page_of e))) _ k in
    let q = both_true (is_change g) _ p.0 in
    let r = both_true (is_change e) _ p.1 in
    let pages : page_of f ≡ page_of g = eqb-true (page_of f) (page_of e) b.1 ∙ sym (eqb-true (page_of g) (page_of e) q.1) in
    let slots : slot_of g ≡ slot_of f = sym (eqb-true (slot_of e) (slot_of g) r.1) ∙ eqb-true (slot_of e) (slot_of f) c.1 in
    true-both (true-both b.0 (eq-eqb _ _ pages)) (true-both q.0 (eq-eqb _ _ slots))

newest-append : (e : Entry) (u : ℕ) (es fs : List Entry) → newest_from e u (es ++ fs) ≡ newest_from e (newest_from e u es) fs
unfolding newest_from
newest-append e u [] fs = refl
newest-append e u (d ∷ es) fs = newest-append e (pick (same_slot e d) d.txn u) es fs

pub newest-snoc : (e : Entry) (es : List Entry) (g : Entry) → newest_by e (es ++ (g ∷ [])) ≡ pick (same_slot e g) g.txn (newest_by e es)
unfolding newest_from
newest-snoc e es g = newest-append e 0 es (g ∷ [])

-- ---- each entry of a list

any-every : (f : Entry → Bool) (es : List Entry) → any f es ≡ false → Every (λ e. f e ≡ false) es
any-every f [] h = tt
any-every f (e ∷ es) h = let r = either-false (f e) (any f es) h in (r.0, any-every f es r.1)

every-snoc : (P : Entry → Type 0) (es : List Entry) (e : Entry) → Every P es → P e → Every P (es ++ (e ∷ []))
every-snoc P [] e h p = (p, tt)
every-snoc P (d ∷ es) e h p = (h.0, every-snoc P es e h.1 p)

every-both : (P Q : Entry → Type 0) (es : List Entry) → Every P es → Every Q es → Every (λ e. P e × Q e) es
every-both P Q [] h k = tt
every-both P Q (e ∷ es) h k = ((h.0, k.0), every-both P Q es h.1 k.1)

-- an open change f on the slot of e is of the newest one's transaction
abbrev pub OfNewest : List Entry → Entry → Entry → Type 0
OfNewest es e f = same_slot e f ≡ true → (f.txn ≡ 0 → ⊥) → ended es f.txn ≡ false → f.txn ≡ newest_by e es

abbrev pub Clear : List Entry → Type 0
Clear es = (e : Entry) → Every (OfNewest es e) es

pub clear_none : Clear []
clear_none e = tt

pub clear-snoc : (es : List Entry) (g : Entry) → any (clashes es g) es ≡ false → Clear es → Clear (es ++ (g ∷ []))
unfolding clashes
clear-snoc es g apart clear e =
    every-snoc (OfNewest (es ++ (g ∷ [])) e) es g
    (every_map (λ f. OfNewest es e f × (clashes es g f ≡ false)) (OfNewest (es ++ (g ∷ [])) e) old es (every-both (OfNewest es e) (λ f. clashes es g f ≡ false) es (clear e) (any-every (clashes es g) es apart)))
    new
  where
    new : OfNewest (es ++ (g ∷ [])) e g
    new s z o = sym (newest-snoc e es g ∙ rw s)

    old : (f : Entry) → OfNewest es e f × (clashes es g f ≡ false) → OfNewest (es ++ (g ∷ [])) e f
    old f h s z o = at (same_slot e g) refl
      where
        going : ended es f.txn ≡ false
        going = (either-false (ended es f.txn) _ (sym (ended-snoc es g f.txn) ∙ o)).0

        at : (b : Bool) → same_slot e g ≡ b → f.txn ≡ newest_by e (es ++ (g ∷ []))
        at true q = same (eqb f.txn g.txn) refl h.1
          where
            same : (b : Bool) → eqb f.txn g.txn ≡ b → clashes es g f ≡ false → f.txn ≡ newest_by e (es ++ (g ∷ []))
            same true r c = eqb-true _ _ r ∙ sym (newest-snoc e es g ∙ rw q)
            same false r c = false-true (sym c ∙ rw (same-two e f g s q, r, ne_eqb f.txn 0 z, going))
        at false q = h.0 s z going ∙ sym (newest-snoc e es g ∙ rw q)

-- ---- the newest change clashes exactly if one does

-- what a test says of the newest change's transaction, it says of a change on the slot
newest-any : (T : ℕ → Bool) (e : Entry) (u : ℕ) (fs : List Entry) → T (newest_from e u fs) ≡ true → either (T u) (any (λ f. both (same_slot e f) (T f.txn)) fs) ≡ true
unfolding newest_from
newest-any T e u [] h = rw h
newest-any T e u (f ∷ fs) h = go (same_slot e f) (T u) (newest-any T e (pick (same_slot e f) f.txn u) fs h) refl
  where
    go : (a b : Bool) → either (T (pick a f.txn u)) (any (λ g. both (same_slot e g) (T g.txn)) fs) ≡ true
        → T u ≡ b → either b (either (both a (T f.txn)) (any (λ g. both (same_slot e g) (T g.txn)) fs)) ≡ true
    go true true k q = refl
    go true false k q = k
    go false true k q = refl
    go false false k q = rw q at k

any-from : {R : Type 0} (P : Entry → Bool) (es : List Entry) → Every (λ f. P f ≡ true → R) es → any P es ≡ true → R
any-from P [] h k = false-true k
any-from {R} P (e ∷ es) h k = go (P e) refl k h.0 (any-from P es h.1)
  where
    go : (b : Bool) → P e ≡ b → either b (any P es) ≡ true → (P e ≡ true → R) → (any P es ≡ true → R) → R
    go true q k f g = f q
    go false q k f g = g k

-- a transaction with an entry has a state
state-kept : (t s : ℕ) (es : List Entry) → (s ≡ 0 → ⊥) → state_from t s es ≡ 0 → ⊥
unfolding state_from state_after
state-kept t s [] n h = n h
state-kept t s (e ∷ es) n h = state-kept t (pick (eqb e.txn t) (state_after e.kind) s) es (go (eqb e.txn t) (either (eqb e.kind commit) (eqb e.kind rollback))) h
  where
    go : (a b : Bool) → pick a (pick b 2 1) s ≡ 0 → ⊥
    go true true q = omega arith
    go true false q = omega arith
    go false b q = n q

has-state : (es fs : List Entry) → Every (λ f. state_of f.txn (es ++ fs) ≡ 0 → ⊥) fs
unfolding state_from state_after
has-state es [] = tt
has-state es (f ∷ fs) =
    (here, subst (λ (l : List Entry). Every (λ g. state_of g.txn l ≡ 0 → ⊥) fs) (append_assoc es (f ∷ []) fs) (has-state (es ++ (f ∷ [])) fs))
  where
    one : (b : Bool) → pick {A = ℕ} b 2 1 ≡ 0 → ⊥
    one true q = omega arith
    one false q = omega arith

    here : state_of f.txn (es ++ (f ∷ fs)) ≡ 0 → ⊥
    here q =
        state-kept f.txn (state_after f.kind) fs (one (either (eqb f.kind commit) (eqb f.kind rollback)))
        (sym (state-append f.txn 0 es (f ∷ fs) ∙ rw (eq-eqb f.txn f.txn refl)) ∙ q)

module _ (es : List Entry) (e : Entry) (told : (t : ℕ) → (t ≡ 0 → ⊥) → Told es t) (clear : Clear es) where
  -- the transaction v is another one than e's and has not ended
  other : ℕ → Bool
  other v = both (not (eqb v e.txn)) (both (not (eqb v 0)) (not (ended es v)))

  one_of_two : (s : ℕ) → s ≤ 2 → (s ≡ 0 → ⊥) → eqb s 2 ≡ false → eqb s 1 ≡ true
  one_of_two zero h n k = absurd (n refl)
  one_of_two (suc zero) h n k = refl
  one_of_two (suc (suc zero)) h n k = sym k
  one_of_two (suc (suc (suc s))) h n k = absurd (omega arith)

  newest-clashes : clash_after es e ≡ true → any (clashes es e) es ≡ true
  unfolding clash_after clashes other
  newest-clashes h =
      let u = newest_by e es in
      let a = both_true (not (eqb u 0)) _ h in
      let b = both_true (not (eqb u e.txn)) _ a.1 in
      let k = told u (eqb-false _ _ (not-true (eqb u 0) a.0)) in
      let s : state_of u es ≡ 1 = eqb-true _ _ b.1 in
      let o : ended es u ≡ false = k.ends ∙ rw s in
      let t : other u ≡ true = true-both b.0 (true-both a.0 (rw o)) in
      rw (eq-eqb 0 0 refl, gone (eqb 0 e.txn)) at (newest-any other e 0 es t)
    where
      gone : (b : Bool) → both (not b) false ≡ false
      gone true = refl
      gone false = refl

  clash-newest : any (clashes es e) es ≡ true → clash_after es e ≡ true
  unfolding clash_after clashes
  clash-newest h = any-from (clashes es e) es (every_map (λ f. OfNewest es e f × (state_of f.txn es ≡ 0 → ⊥)) (λ f. clashes es e f ≡ true → clash_after es e ≡ true) one es (every-both (OfNewest es e) (λ f. state_of f.txn es ≡ 0 → ⊥) es (clear e) (has-state [] es))) h
    where
      one : (f : Entry) → OfNewest es e f × (state_of f.txn es ≡ 0 → ⊥) → clashes es e f ≡ true → clash_after es e ≡ true
      one f m c =
          let a = both_true (same_slot e f) _ c in
          let b = both_true (not (eqb f.txn e.txn)) _ a.1 in
          let d = both_true (not (eqb f.txn 0)) _ b.1 in
          let z : f.txn ≡ 0 → ⊥ = eqb-false _ _ (not-true (eqb f.txn 0) d.0) in
          let o : ended es f.txn ≡ false = not-true (ended es f.txn) d.1 in
          let u : f.txn ≡ newest_by e es = m.0 a.0 z o in
          let s : eqb (state_of f.txn es) 1 ≡ true = one_of_two (state_of f.txn es) (state-le f.txn 0 es (omega arith)) m.1 (sym (told f.txn z).ends ∙ o) in
          rw (← u) (true-both d.0 (true-both b.0 s))

  same_test : (a b : Bool) → (a ≡ true → b ≡ true) → (b ≡ true → a ≡ true) → a ≡ b
  same_test true b f g = sym (f refl)
  same_test false true f g = g refl
  same_test false false f g = refl

  pub clash-is : any (clashes es e) es ≡ clash_after es e
  clash-is = same_test (any (clashes es e) es) (clash_after es e) clash-newest newest-clashes
