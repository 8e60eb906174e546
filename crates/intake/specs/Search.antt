-- Only the algorithm needs this: a search for a mark that goes from page to page, and over the slots of each.
use Rattle.std.specs.Prelude.{ℕ, zero, suc, ◌+◌, Bool, false, not, List, Option, Some, None, eqb}
use Rattle.std.specs.Option.{option_map, option_or}
use Rattle.endian.specs.Pick.{pick}
use Rattle.page.specs.Layout.{data_type, type_of, count_of, slot_at, payload_of}
use Rattle.page.specs.Rows.{visible}
use Rattle.intake.specs.Orders.{part_of, quantity_of, is_order, bears}
use Rattle.intake.specs.declared.Order.{Order}
use Rattle.intake.specs.declared.FoundOrder.{FoundOrder}

-- a tuple is visible, and its payload is no order
unfoldable pub is_short : List ℕ → Bool
is_short t = pick (visible t) (not (is_order (payload_of t))) false

-- how many of the n slots of page p from k on hold such a tuple
unfoldable pub short_slots : List ℕ → ℕ → ℕ → ℕ
short_slots p zero k = 0
short_slots p (suc n) k = pick (is_short (slot_at p k)) (suc (short_slots p n (suc k))) (short_slots p n (suc k))

-- a tuple is visible, and its payload an order with that mark
unfoldable pub is_marked : ℕ → List ℕ → Bool
is_marked mark t = pick (visible t) (bears mark (payload_of t)) false

-- the first of the n slots of page p from k on that holds such a tuple
unfoldable pub first_slot : ℕ → List ℕ → ℕ → ℕ → Option ℕ
first_slot mark p zero k = None
first_slot mark p (suc n) k = pick (is_marked mark (slot_at p k)) (Some k) (first_slot mark p n (suc k))

-- the order in slot k of page i, by its payload
abbrev pub order_in : ℕ → ℕ → List ℕ → Order
order_in i k p = record { page = record { 0 = i }; slot = k; part = part_of p; quantity = quantity_of p }

-- the first order with that mark in the first n slots of page i, which is p
unfoldable pub first_order : ℕ → ℕ → List ℕ → ℕ → Option Order
first_order mark i p n = option_map (λ k. order_in i k (payload_of (slot_at p k))) (first_slot mark p n 0)

-- what those slots answer
unfoldable pub slots_found : ℕ → ℕ → List ℕ → ℕ → FoundOrder
slots_found mark i p n = record { order = first_order mark i p n; short = short_slots p n 0 }

-- two answers, of rows and of later ones, as one: the earlier order counts, and the short payloads of both
unfoldable pub both : FoundOrder → FoundOrder → FoundOrder
both g h = record { order = option_or g.order h.order; short = g.short + h.short }

-- what is known after page i
unfoldable pub with_page : ℕ → ℕ → List ℕ → FoundOrder → FoundOrder
with_page mark i p g = pick (eqb (type_of p) data_type) (both g (slots_found mark i p (count_of p))) g
