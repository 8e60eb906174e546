-- A row that stands in a page area: its payload's length and fields, and its place.
-- Assumes nothing.
use mathlib.Core.Path.{◌≡◌, sym, ap, ◌∙◌}
use mathlib.Core.Bool.{true, false}
use Prim.Native.Nat.{ℕ, ◌+◌, ◌-◌, ◌*◌, ◌/◌, ◌%◌, ◌<◌, ◌≤◌}
use native.Mathlib.Omega.{arith}
use mathlib.Core.List.{List}
use lib.ListN.{length, drop, length-drop}
use lib.Seq.{length-take-le}
use borrow.Author.Tests.{le-leb, lt-leb}
use Rattle.endian.specs.Numbers.{number_at, Bytes}
use Rattle.endian.proofs.Places.{number-take, number-drop}
use Rattle.page.specs.Rows.{row_payload}
use Rattle.page.specs.declared.Row.{Row}
use Rattle.page.proofs.ListedRows.{Standing}
use Rattle.intake.specs.Orders.{mark_of, is_order, order_of}
use Rattle.intake.specs.declared.Order.{Order}
use Rattle.intake.specs.Places.{place_of, tuple_at, low_at, high_at, mark_at, order_at, Place}
use Rattle.intake.proofs.Halves.{halves-at}

module _ (s : List ℕ) (r : Row) (st : Standing s r) where
  payload-long : length (row_payload s r) ≡ r.length - 24
  payload-long =
      let n : r.offset + r.length - (r.offset + 24) ≡ r.length - 24 = omega arith in
      sym (ap length st.payload) ∙ length-take-le (r.offset + r.length - (r.offset + 24)) (drop (r.offset + 24) s) (simp length-drop (omega (arith, st.within, st.long))) ∙ n

  pub short_row : r.length < 48 → is_order (row_payload s r) ≡ false
  unfolding is_order
  short_row h = lt-leb 24 (length (row_payload s r)) (omega (arith, payload-long, st.long))

  pub order_row : 48 ≤ r.length → is_order (row_payload s r) ≡ true
  unfolding is_order
  order_row h = le-leb 24 (length (row_payload s r)) (omega (arith, payload-long, st.long))

  -- a field of the payload, in the page area
  pub field : (w at p : ℕ) → r.offset + 24 + at ≡ p → at + w + 24 ≤ r.length → number_at w p s ≡ number_at w at (row_payload s r)
  field w at p e h =
      ap (λ (q : ℕ). number_at w q s) (sym e) ∙ sym (number-drop w at (r.offset + 24) s)
      ∙ sym (number-take w at (r.offset + r.length - (r.offset + 24)) (drop (r.offset + 24) s) (omega arith)) ∙ ap (number_at w at) st.payload

  pub mark-there : 48 ≤ r.length → number_at 16 (r.offset + 24) s ≡ mark_of (row_payload s r)
  mark-there h = field 16 0 (r.offset + 24) (omega arith) (omega arith)

  -- the order of its slot
  pub order-there : 48 ≤ r.length → (o : Order) → o ≡ record { page = r.page; slot = r.slot; part = number_at 4 (r.offset + 40) s; quantity = number_at 4 (r.offset + 44) s } → o ≡ order_of s r
  order-there h o e = e ∙ rw (field 4 16 (r.offset + 40) (omega arith) (omega arith), field 4 20 (r.offset + 44) (omega arith) (omega arith))

  -- ---- its place

  module _ (few : length s ≤ 1073741824) where
    pub offset-small : r.offset < 1073741824
    offset-small = omega (arith, st.within, st.long)

    pub place-tuple : tuple_at (place_of r) ≡ r.offset
    unfolding place_of
    place-tuple = omega (arith, offset-small)

    place-slot : place_of r / 4294967296 ≡ r.page.0 * 4096 + r.slot
    unfolding place_of
    place-slot = omega (arith, offset-small)

    module _ (h : 48 ≤ r.length) where
      pub place-mark : mark_at s (place_of r) ≡ mark_of (row_payload s r)
      unfolding low_at high_at
      place-mark = rw place-tuple (sym (halves-at (r.offset + 24) s ∙ ap (λ (q : ℕ). number_at 8 (r.offset + 24) s + 18446744073709551616 * number_at 8 q s) (omega arith)) ∙ mark-there h)

      pub place-order : order_at s (place_of r) ≡ order_of s r
      unfolding order_at
      place-order =
          let p : place_of r / 4294967296 / 4096 ≡ r.page.0 = omega (arith, place-slot, st.low) in
          let k : place_of r / 4294967296 % 4096 ≡ r.slot = omega (arith, place-slot, st.low) in
          order-there h (order_at s (place_of r)) (rw (place-tuple, p, k))

      pub place-good : Bytes s → r.page.0 < 65536 → Place s (place_of r)
      unfolding place_of
      place-good b p = record { room = omega (arith, place-tuple, st.within); small = omega (arith, offset-small, st.low); bytes = b }
