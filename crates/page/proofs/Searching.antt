-- A search over visible rows: how code goes from row to row, and that it gives the first row that passes the test, or none exactly when there is none.
-- Assumes nothing.
use mathlib.Core.Path.{◌≡◌, refl, sym, ap, subst, ◌∙◌}
use mathlib.Core.Logic.{inr}
use mathlib.Core.Bool.{Bool, true, false}
use Prim.Native.Nat.{ℕ, suc, ◌+◌}
use native.Mathlib.Omega.{arith}
use mathlib.Core.List.{List, [], ◌∷◌}
use borrow.Author.Tests.{eq-eqb, ne_eqb}
use Rattle.endian.specs.Pick.{pick}
use Rattle.page.specs.Layout.{pages_in, page_at}
use Rattle.page.specs.Rows.{visible, row, visible_rows, at_or_after, first_at, rows_at, first_with, searched}
use Rattle.page.specs.Fault.{verdict_of}
use Rattle.page.specs.declared.Row.{Row}
use Rattle.std.specs.Prelude.{Some, None, Result, Ok, Err}
use Rattle.refusals.specs.declared.Refused.{Refused}
use Rattle.refusals.specs.Verdict.{told_by, told}
use Rattle.refusals.proofs.Told.{err-refused, err-some, ok-accepted}
use Rattle.page.proofs.Picks.{never}
use Rattle.page.proofs.ListedRows.{InSlot, Each, rows-each, each_row}
use Rattle.page.proofs.RowLists.{before-is, Rising, down, lower, rising-pages, all-at, row_or, row_next}

-- ---- as code goes from row to row

module _ (f : Row → Bool) where
  pub with-here : (r : Row) (rs : List Row) → f r ≡ true → first_with f (r ∷ rs) ≡ Some r
  unfolding first_with
  with-here r rs e = rw e

  pub with-passed : (r : Row) (rs : List Row) → f r ≡ false → first_with f (r ∷ rs) ≡ first_with f rs
  unfolding first_with
  with-passed r rs e = rw e

  module _ (s : List ℕ) where
    -- it starts at the first slot of page 0
    pub search-all : first_with f (rows_at 0 0 (visible_rows s)) ≡ first_with f (visible_rows s)
    search-all = ap (first_with f) (all-at 0 0 (visible_rows s) (rising-pages visible s (pages_in s) 0))

    module _ (i k : ℕ) where
      pub search-end : rows_at i k (visible_rows s) ≡ [] → None ≡ first_with f (rows_at i k (visible_rows s))
      unfolding first_with
      search-end e = rw e

      module _ (r : Row) (met : first_at i k (visible_rows s) ≡ Some r) where
        pub search-here : f r ≡ true → Some r ≡ first_with f (rows_at i k (visible_rows s))
        search-here e = sym (ap (first_with f) (row_next visible s i k r met) ∙ with-here r (rows_at r.page.0 (r.slot + 1) (visible_rows s)) e)

        pub search-on : f r ≡ false → first_with f (rows_at r.page.0 (r.slot + 1) (visible_rows s)) ≡ first_with f (rows_at i k (visible_rows s))
        search-on e = sym (ap (first_with f) (row_next visible s i k r met) ∙ with-passed r (rows_at r.page.0 (r.slot + 1) (visible_rows s)) e)

-- ---- the whole answer

module _ (magic : ℕ) (s : List ℕ) (f : Row → Bool) where
  pub search-refused : ((verdict_of magic s).number ≡ 0 → ⊥) → Err (verdict_of magic s) ≡ searched magic s f
  unfolding searched
  search-refused h = rw (ne_eqb _ _ h)

  pub search-taken : (verdict_of magic s).number ≡ 0 → Ok (first_with f (visible_rows s)) ≡ searched magic s f
  unfolding searched
  search-taken e = rw (eq-eqb _ _ e)

  -- as verification tells it
  module _ {r : Result Unit Refused} (is : told r ≡ verdict_of magic s) where
    pub search-err : {e : Refused} → r ≡ Err e → Err (told_by e) ≡ searched magic s f
    search-err q = ap Err (err-refused is q) ∙ search-refused (err-some is q)

    pub search-ok : {u : Unit} → r ≡ Ok u → Ok (first_with f (visible_rows s)) ≡ searched magic s f
    search-ok q = search-taken (ok-accepted is q)

-- ---- what it gives

none-not : (r : Row) → None ≡ Some r → ⊥
none-not r e = cc

module _ (f : Row → Bool) where
  none_each : (rs : List Row) → first_with f rs ≡ None → Each (λ r. f r ≡ false) rs
  unfolding first_with
  none_each [] e = tt
  none_each (r ∷ rs) e = go (f r) refl (none_each rs) e
    where
      go : (t : Bool) → f r ≡ t → (first_with f rs ≡ None → Each (λ q. f q ≡ false) rs) → pick t (Some r) (first_with f rs) ≡ None → Each (λ q. f q ≡ false) (r ∷ rs)
      go true q more h = absurd (none-not r (sym h))
      go false q more h = (q, more h)

  each_none : (rs : List Row) → Each (λ r. f r ≡ false) rs → first_with f rs ≡ None
  unfolding first_with
  each_none [] u = refl
  each_none (r ∷ rs) u = rw u.0 (each_none rs u.1)

  found-each : (P : Row → Type 0) (r : Row) (rs : List Row) → Each P rs → first_with f rs ≡ Some r → P r × (f r ≡ true)
  unfolding first_with
  found-each P r [] u e = absurd (none-not r e)
  found-each P r (q ∷ rs) u e = go (f q) refl (found-each P r rs u.1) e
    where
      go : (t : Bool) → f q ≡ t → (first_with f rs ≡ Some r → P r × (f r ≡ true)) → pick t (Some q) (first_with f rs) ≡ Some r → P r × (f r ≡ true)
      go true h more z = let w : q ≡ r = ap (row_or r) z in (rw (← w) u.0, rw (← w) h)
      go false h more z = more z

  -- rows in their order stand at or after the place where they start
  rising-each : (i k : ℕ) (rs : List Row) → Rising i k rs → Each (λ q. at_or_after i k q ≡ true) rs
  rising-each i k [] u = tt
  rising-each i k (q ∷ rs) u = (before-is i k q u.0, rising-each i k rs (lower q.page.0 (suc q.slot) i k rs (down i k q u.0) u.1))

  -- each stands at or after r, and so does each that passes the test
  passes-weaker : (r : Row) (xs : List Row) → Each (λ x. at_or_after r.page.0 r.slot x ≡ true) xs → Each (λ x. f x ≡ true → at_or_after r.page.0 r.slot x ≡ true) xs
  passes-weaker r [] v = tt
  passes-weaker r (x ∷ xs) v = (λ o. v.0, passes-weaker r xs v.1)

  first-each : (r : Row) (i k : ℕ) (rs : List Row) → Rising i k rs → first_with f rs ≡ Some r → Each (λ q. f q ≡ true → at_or_after r.page.0 r.slot q ≡ true) rs
  unfolding first_with
  first-each r i k [] u e = tt
  first-each r i k (q ∷ rs) u e = go (f q) refl (first-each r q.page.0 (suc q.slot) rs u.1) e
    where
      go : (t : Bool) → f q ≡ t → (first_with f rs ≡ Some r → Each (λ x. f x ≡ true → at_or_after r.page.0 r.slot x ≡ true) rs) → pick t (Some q) (first_with f rs) ≡ Some r
          → Each (λ x. f x ≡ true → at_or_after r.page.0 r.slot x ≡ true) (q ∷ rs)
      go true h more z =
          let w : q ≡ r = ap (row_or r) z in
          let all : Each (λ x. at_or_after q.page.0 q.slot x ≡ true) (q ∷ rs) = rising-each q.page.0 q.slot (q ∷ rs) (inr (refl, omega arith), u.1) in
          passes-weaker r (q ∷ rs) (subst (λ (p : Row). Each (λ x. at_or_after p.page.0 p.slot x ≡ true) (q ∷ rs)) w all)
      go false h more z = (λ o. never (sym h ∙ o), more z)

  module _ (s : List ℕ) where
    -- none exactly when there is none
    pub none_is : first_with f (visible_rows s) ≡ None → (i k : ℕ) → InSlot visible s i k → f (row i k (page_at i s)) ≡ false
    none_is e = each_row visible (λ r. f r ≡ false) s (none_each (visible_rows s) e)

    pub is-none : ((i k : ℕ) → InSlot visible s i k → f (row i k (page_at i s)) ≡ false) → first_with f (visible_rows s) ≡ None
    is-none h = each_none (visible_rows s) (rows-each visible (λ r. f r ≡ false) s h)

    module _ (r : Row) (found : first_with f (visible_rows s) ≡ Some r) where
      -- a row that is given is a visible row that passes the test
      pub found-is : (r ≡ row r.page.0 r.slot (page_at r.page.0 s)) × InSlot visible s r.page.0 r.slot × (f r ≡ true)
      found-is =
          let p = found-each (λ q. (q ≡ row q.page.0 q.slot (page_at q.page.0 s)) × InSlot visible s q.page.0 q.slot) r (visible_rows s) (rows-each visible _ s (λ i k h. (refl, h))) found in
          (p.0.0, p.0.1, p.1)

      -- and every other that passes it stands behind
      pub found_first : (i k : ℕ) → InSlot visible s i k → f (row i k (page_at i s)) ≡ true → at_or_after r.page.0 r.slot (row i k (page_at i s)) ≡ true
      found_first = each_row visible _ s (first-each r 0 0 (visible_rows s) (rising-pages visible s (pages_in s) 0) found)
