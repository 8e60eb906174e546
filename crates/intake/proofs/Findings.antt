-- What the search for a mark gives, on pages that verification accepts: the first visible order with that mark, or none exactly when there is none.
-- Assumes nothing.
use mathlib.Core.Path.{◌≡◌, refl, sym, ap, ◌∙◌, subst}
use mathlib.Core.Bool.{true, false}
use Prim.Native.Nat.{ℕ}
use mathlib.Core.List.{List}
use borrow.Author.Tests.{eq-eqb}
use Rattle.page.specs.Layout.{page_at, slot_at, payload_of}
use Rattle.page.specs.Fault.{verdict_of}
use Rattle.page.specs.Rows.{visible, row, visible_rows, at_or_after, row_payload, first_with}
use Rattle.page.specs.declared.Row.{Row}
use Rattle.std.specs.Prelude.{Option, Some, None, Result, Ok, Err}
use Rattle.std.specs.Option.{option_map}
use Rattle.refusals.specs.declared.Verdict.{Verdict}
use Rattle.page.proofs.Picks.{never}
use Rattle.page.proofs.ListedRows.{InSlot}
use Rattle.page.proofs.Searching.{none_is, found-is, found_first}
use Rattle.intake.specs.Orders.{part_of, quantity_of, bears, order_of, short_in, found_in, order_found}
use Rattle.intake.specs.declared.Order.{Order}
use Rattle.intake.specs.declared.FoundOrder.{FoundOrder}

-- one answer
ok-same : {g h : FoundOrder} → ◌≡◌ {A = Result FoundOrder Verdict} (Ok g) (Ok h) → g ≡ h
ok-same {g} {h} e = ap (λ (r : Result FoundOrder Verdict). elim r [ Ok f ↦ f | Err v ↦ h ]) e

module _ (s : List ℕ) (mark : ℕ) where
  -- what is found: a visible order with that mark, and no earlier one has it
  pub record First (o : Order) : Type 0 where
    pub there : InSlot visible s o.page.0 o.slot
    pub marked : bears mark (payload_of (slot_at (page_at o.page.0 s) o.slot)) ≡ true
    pub part : o.part ≡ part_of (payload_of (slot_at (page_at o.page.0 s) o.slot))
    pub quantity : o.quantity ≡ quantity_of (payload_of (slot_at (page_at o.page.0 s) o.slot))
    pub earliest : (i k : ℕ) → InSlot visible s i k → bears mark (payload_of (slot_at (page_at i s) k)) ≡ true → at_or_after o.page.0 o.slot (row i k (page_at i s)) ≡ true

  -- none is there
  abbrev pub NoneThere : Type 0
  NoneThere = (i k : ℕ) → InSlot visible s i k → bears mark (payload_of (slot_at (page_at i s) k)) ≡ false

  abbrev pub FirstIf : Option Order → Type 0
  FirstIf None = NoneThere
  FirstIf (Some o) = First o

-- an answer that has an order, at a row or before it
pub record FoundBy (magic : ℕ) (s : List ℕ) (mark : ℕ) (r : Row) : Type 0 where
  pub answer : FoundOrder
  pub order : Order
  pub is : order_found magic s mark ≡ Ok answer
  pub has : answer.order ≡ Some order
  pub by : at_or_after order.page.0 order.slot r ≡ true

module _ (magic : ℕ) (s : List ℕ) (mark : ℕ) (ok : (verdict_of magic s).number ≡ 0) where
  -- it answers
  pub taken : order_found magic s mark ≡ Ok (found_in s mark (visible_rows s))
  unfolding order_found
  taken = rw (eq-eqb _ _ ok)

  first-row : (r : Row) → first_with (λ q. bears mark (row_payload s q)) (visible_rows s) ≡ Some r → First s mark (order_of s r)
  first-row r h =
      let f = found-is (λ q. bears mark (row_payload s q)) s r h in
      record { there = f.1; marked = f.2; part = refl; quantity = refl; earliest = found_first (λ q. bears mark (row_payload s q)) s r h }

  -- what is answered: the first, or none exactly when there is none
  pub first-found : FirstIf s mark (found_in s mark (visible_rows s)).order
  unfolding found_in
  first-found = go (first_with (λ q. bears mark (row_payload s q)) (visible_rows s)) refl
    where
      go : (x : Option Row) → first_with (λ q. bears mark (row_payload s q)) (visible_rows s) ≡ x → FirstIf s mark (option_map (order_of s) x)
      go None e = none_is (λ r. bears mark (row_payload s r)) s e
      go (Some r) e = first-row r e

  module _ (g : FoundOrder) (is : order_found magic s mark ≡ Ok g) where
    known : found_in s mark (visible_rows s) ≡ g
    known = ok-same (sym taken ∙ is)

    pub none-there : g.order ≡ None → NoneThere s mark
    none-there e = subst (FirstIf s mark) (ap (λ (f : FoundOrder). f.order) known ∙ e) first-found

    pub there-none : NoneThere s mark → g.order ≡ None
    there-none h = go g.order (subst (FirstIf s mark) (ap (λ (f : FoundOrder). f.order) known) first-found)
      where
        go : (o : Option Order) → FirstIf s mark o → o ≡ None
        go None f = refl
        go (Some o) f = never (sym (h o.page.0 o.slot f.there) ∙ f.marked)

    pub found-first-order : (o : Order) → g.order ≡ Some o → First s mark o
    found-first-order o e = subst (FirstIf s mark) (ap (λ (f : FoundOrder). f.order) known ∙ e) first-found

    -- the short payloads of all pages are counted, wherever the answer stands
    pub all-counted : g.short ≡ short_in s (visible_rows s)
    unfolding found_in
    all-counted = ap (λ (f : FoundOrder). f.short) (sym known)

  -- a visible order with the mark is found, or one before it
  pub there-found : (i k : ℕ) → InSlot visible s i k → bears mark (payload_of (slot_at (page_at i s) k)) ≡ true → FoundBy magic s mark (row i k (page_at i s))
  there-found i k h b = go (found_in s mark (visible_rows s)).order refl first-found
    where
      go : (o : Option Order) → (found_in s mark (visible_rows s)).order ≡ o → FirstIf s mark o → FoundBy magic s mark (row i k (page_at i s))
      go None e f = never (sym (f i k h) ∙ b)
      go (Some o) e f = record { answer = found_in s mark (visible_rows s); order = o; is = taken; has = e; by = f.earliest i k h b }
