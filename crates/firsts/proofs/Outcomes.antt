-- In a list in order, the outcome of a transaction is told by its first ending.
-- Assumes nothing.
use mathlib.Core.Path.{◌≡◌, refl, sym, ap, ◌∙◌}
use mathlib.Core.Bool.{Bool, true, false}
use Prim.Native.Nat.{ℕ, ◌+◌, ◌≤◌, ◌<◌}
use native.Mathlib.Omega.{arith}
use mathlib.Core.List.{List, [], ◌∷◌, ◌++◌, append_assoc, append-nil}
use lib.Dec.{eqb}
use borrow.Author.Tests.{eqb-true, ne_eqb}
use Rattle.endian.specs.Pick.{pick}
use Rattle.wal.specs.Entry.{Entry, sizes_of, begin, commit, rollback, checkpoint}
use Rattle.rules.specs.Shape.{both, either}
use Rattle.rules.specs.Order.{any, is, begun, ended, is_open, in_order}
use Rattle.rules.specs.Mend.{committed}
use Rattle.rules.specs.Recover.{outcome_of}
use Rattle.rules.proofs.Tests.{false-true, both_true, either-false}
use Rattle.firsts.specs.First.{is_ending, FirstOf}
use Rattle.firsts.proofs.FirstLaws.{any_append, none_any, clean-before}
use Rattle.firsts.proofs.Judging.{stands-in, same_place}
use Rattle.firsts.proofs.Orders.{ended-any}

-- every entry is in order after those before it
abbrev pub InOrder : List Entry → Type 0
InOrder es = (xs : List Entry) (e : Entry) (ys : List Entry) → es ≡ xs ++ (e ∷ ys) → in_order xs e ≡ true

-- an ending after an ending is out of order
again : (k : ℕ) → eqb k checkpoint ≡ false → eqb k begin ≡ false → (t : ℕ) → (t ≡ 0 → ⊥) → (xs : List Entry) (e : Entry) → ended xs t ≡ true → is k t e ≡ true → in_order xs e ≡ true → ⊥
unfolding in_order is_open
again k c b t n xs e h i o =
    let j = both_true (eqb e.kind k) (eqb e.txn t) i in
    let kind : e.kind ≡ k = eqb-true _ _ j.0 in
    let txn : e.txn ≡ t = eqb-true _ _ j.1 in
    let z : eqb t 0 ≡ false = ne_eqb t 0 n in
    let x : both (begun xs t) false ≡ true = rw (kind, txn, c, b, z, h) at o in
    never (begun xs t) x
  where
    never : (b : Bool) → both b false ≡ true → ⊥
    never true q = false-true q
    never false q = false-true q

module _ {es : List Entry} (o : InOrder es) (t : ℕ) (n : t ≡ 0 → ⊥) where
  -- no ending follows an ending
  no_more : (k : ℕ) → eqb k checkpoint ≡ false → eqb k begin ≡ false → (xs ys : List Entry) → es ≡ xs ++ ys → ended xs t ≡ true → any (is k t) ys ≡ false
  no_more k c b xs [] q h = refl
  no_more k c b xs (y ∷ ys) q h = go (is k t y) refl (no_more k c b (xs ++ (y ∷ [])) ys (q ∙ sym (append_assoc xs (y ∷ []) ys)) (ended-any (xs ++ (y ∷ [])) t ∙ any_append (is_ending t) xs (y ∷ []) ∙ rw (← ended-any xs t, h)))
    where
      go : (x : Bool) → is k t y ≡ x → any (is k t) ys ≡ false → either x (any (is k t) ys) ≡ false
      go true i r = absurd (again k c b t n xs y h i (o xs y ys q))
      go false i r = r

  -- the first ending is the only one
  pub outcome-first : (xs : List Entry) (e : Entry) (ys : List Entry) → es ≡ xs ++ (e ∷ ys) → ended xs t ≡ false → is_ending t e ≡ true → outcome_of es t ≡ pick (is commit t e) 1 2
  unfolding outcome_of ended
  outcome-first xs e ys q f i =
      let a = either-false (any (is commit t) xs) (any (is rollback t) xs) f in
      let all : ended (xs ++ (e ∷ [])) t ≡ true = ended-any (xs ++ (e ∷ [])) t ∙ any_append (is_ending t) xs (e ∷ []) ∙ rw i (right (any (is_ending t) xs)) in
      let m : any (is commit t) ys ≡ false = no_more commit refl refl (xs ++ (e ∷ [])) ys (q ∙ sym (append_assoc xs (e ∷ []) ys)) all in
      rw (q, any_append (is commit t) xs (e ∷ ys), any_append (is rollback t) xs (e ∷ ys), a.0, a.1, m) (go (is commit t e) (is rollback t e) i)
    where
      right : (x : Bool) → either x (either true false) ≡ true
      right true = refl
      right false = refl

      go : (x y : Bool) → either x y ≡ true → pick (either x false) 1 (pick (either y (any (is rollback t) ys)) 2 0) ≡ pick {A = ℕ} x 1 2
      go true y h = refl
      go false true h = refl
      go false false h = false-true h

-- without an ending
pub outcome-none : (es : List Entry) (t : ℕ) → any (is_ending t) es ≡ false → outcome_of es t ≡ 0
unfolding outcome_of ended
outcome-none es t h =
    let a = either-false (any (is commit t) es) (any (is rollback t) es) (ended-any es t ∙ h) in
    rw (a.0, a.1)

-- committed is outcome 1
pub committed-one : (es : List Entry) (t : ℕ) → (t ≡ 0 → ⊥) → committed es t ≡ eqb (outcome_of es t) 1
unfolding committed outcome_of
committed-one es t n = rw (ne_eqb t 0 n) (go (any (is commit t) es) (any (is rollback t) es))
  where
    go : (x y : Bool) → x ≡ eqb (pick x 1 (pick y 2 0)) 1
    go true y = refl
    go false true = refl
    go false false = refl

-- a search for a fault of order that found none
pub in_order_lem : {es : List Entry} {at r : ℕ} → FirstOf (λ xs e. in_order xs e ≡ false) es at r r → at + sizes_of es ≤ r → InOrder es
in_order_lem {es} {at} {r} f h xs e ys q = go (in_order xs e) refl
  where
    go : (b : Bool) → in_order xs e ≡ b → in_order xs e ≡ true
    go true k = k
    go false k = absurd (f.none xs e ys q (stands-in at xs e ys q h) k)

-- by what a search for the first ending found
module _ {es : List Entry} (o : InOrder es) (t : ℕ) (n : t ≡ 0 → ⊥) {at stop r : ℕ} (f : FirstOf (λ xs e. is_ending t e ≡ true) es at stop r) where
  pub outcome-found : (xs : List Entry) (e : Entry) (ys : List Entry) → es ≡ xs ++ (e ∷ ys) → r ≡ at + sizes_of xs → r < stop → outcome_of es t ≡ pick (eqb e.kind commit) 1 2
  outcome-found xs e ys q z l =
      let s = f.some l in
      let w = same_place s.xs s.e s.ys xs e ys (sym s.split ∙ q) (omega (arith, s.place)) in
      let i : is_ending t e ≡ true = ap (is_ending t) (sym w.entry) ∙ s.holds in
      let g : ended xs t ≡ false = ended-any xs t ∙ none_any (is_ending t) xs (λ us d bs p. clean-before (λ us d. is_ending t d ≡ true) f xs (e ∷ ys) q (omega arith) us d bs p) in
      outcome-first o t n xs e ys q g i ∙ ap (λ (b : Bool). pick {A = ℕ} b 1 2) (go (eqb e.kind commit) (eqb e.kind rollback) (eqb e.txn t) i)
    where
      go : (c k x : Bool) → either (both c x) (both k x) ≡ true → both c x ≡ c
      go true k true h = refl
      go false k x h = refl
      go true true false h = false-true h
      go true false false h = false-true h

  pub outcome-missing : at + sizes_of es ≤ r → outcome_of es t ≡ 0
  outcome-missing h = outcome-none es t (none_any (is_ending t) es (λ us d bs p. clean-before (λ us d. is_ending t d ≡ true) f es [] (sym (append-nil es)) h us d bs p))
