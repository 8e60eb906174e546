-- Orders and their request marks (paper 02, W9): the first visible order with a mark, and the least pair of visible orders with the same one.
use Rattle.std.specs.Prelude.{ℕ, suc, Bool, false, List, [], ◌∷◌, Option, Some, None, Result, length, leb, eqb}
use Rattle.std.specs.Option.{option_map}
use Rattle.endian.specs.Pick.{pick}
use Rattle.endian.specs.Numbers.{number_at}
use Rattle.refusals.specs.Verdict.{answered}
use Rattle.refusals.specs.declared.Verdict.{Verdict}
use Rattle.page.specs.Fault.{verdict_of}
use Rattle.page.specs.Rows.{visible_rows, row_payload, first_with}
use Rattle.page.specs.declared.Row.{Row}
use Rattle.intake.specs.declared.Order.{Order}
use Rattle.intake.specs.declared.FoundOrder.{FoundOrder}
use Rattle.intake.specs.declared.RepeatedOrders.{RepeatedOrders}

-- ---- a payload: the request mark, 16 bytes, as the number that they are; part number u32; quantity u32

abbrev pub mark_of : List ℕ → ℕ
mark_of p = number_at 16 0 p

abbrev pub part_of : List ℕ → ℕ
part_of p = number_at 4 16 p

abbrev pub quantity_of : List ℕ → ℕ
quantity_of p = number_at 4 20 p

-- a payload under 24 bytes is no order
unfoldable pub is_order : List ℕ → Bool
is_order p = leb 24 (length p)

-- an order with that mark
unfoldable pub bears : ℕ → List ℕ → Bool
bears mark p = pick (is_order p) (eqb (mark_of p) mark) false

-- the order of a row
abbrev pub order_of : List ℕ → Row → Order
order_of s r = record { page = r.page; slot = r.slot; part = part_of (row_payload s r); quantity = quantity_of (row_payload s r) }

-- ---- the first visible order with a mark

-- how many of some rows have a payload under 24 bytes
unfoldable pub short_in : List ℕ → List Row → ℕ
short_in s [] = 0
short_in s (r ∷ rs) = pick (is_order (row_payload s r)) (short_in s rs) (suc (short_in s rs))

-- among some rows: the first order with the mark, and how many payloads are short
unfoldable pub found_in : List ℕ → ℕ → List Row → FoundOrder
found_in s mark rs = record { order = option_map (order_of s) (first_with (λ r. bears mark (row_payload s r)) rs); short = short_in s rs }

-- among the visible ones, in the order of the listing; refused as the listing is
unfoldable pub order_found : ℕ → List ℕ → ℕ → Result FoundOrder Verdict
order_found magic s mark = answered (verdict_of magic s) (found_in s mark (visible_rows s))

-- ---- the least pair of visible orders with the same mark

-- two rows are orders with the same mark
unfoldable pub same_mark : List ℕ → Row → Row → Bool
same_mark s r q = pick (is_order (row_payload s r)) (bears (mark_of (row_payload s r)) (row_payload s q)) false

-- a row and what was found behind it, or else a later pair
abbrev pub pair_or : List ℕ → Row → Option Row → Option RepeatedOrders → Option RepeatedOrders
pair_or s r (Some q) later = Some (record { first = order_of s r; second = order_of s q })
pair_or s r None later = later

-- of some rows the first that has its mark again behind it, and the first behind it that has
unfoldable pub repeated_in : List ℕ → List Row → Option RepeatedOrders
repeated_in s [] = None
repeated_in s (r ∷ rs) = pair_or s r (first_with (same_mark s r) rs) (repeated_in s rs)

-- of the visible ones, in the order of the listing; refused as the listing is
unfoldable pub orders_repeated : ℕ → List ℕ → Result (Option RepeatedOrders) Verdict
orders_repeated magic s = answered (verdict_of magic s) (repeated_in s (visible_rows s))
