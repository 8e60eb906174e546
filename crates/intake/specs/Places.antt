-- Only the algorithm needs this: orders as numbers, their places, which rise in the order of the listing; and what a list of numbers holds, in any order.
use Rattle.std.specs.Prelude.{ℕ, ◌+◌, ◌*◌, ◌/◌, ◌%◌, ◌≤◌, ◌<◌, ◌≡◌, Bool, true, false, List, [], ◌∷◌, Option, Some, None, length, eqb}
use Rattle.endian.specs.Pick.{cons_if}
use Rattle.endian.specs.Numbers.{number_at, Bytes}
use Rattle.page.specs.Rows.{visible_rows, row_payload, rows_at}
use Rattle.page.specs.declared.Row.{Row}
use Rattle.intake.specs.Orders.{is_order}
use Rattle.intake.specs.declared.Order.{Order}
use Rattle.intake.specs.declared.orders.NextOrder.{NextOrder}

-- ---- places

abbrev pub slot_span : ℕ
slot_span = 4096

abbrev pub offset_span : ℕ
offset_span = 4294967296

-- the place of a row: its page, its slot, and where in the page area its tuple starts
unfoldable pub place_of : Row → ℕ
place_of r = (r.page.0 * slot_span + r.slot) * offset_span + r.offset

-- where in the page area the tuple of a place starts
abbrev pub tuple_at : ℕ → ℕ
tuple_at x = x % offset_span

-- the two halves of the mark of the order at a place, and the mark
unfoldable pub low_at : List ℕ → ℕ → ℕ
low_at s x = number_at 8 (tuple_at x + 24) s

unfoldable pub high_at : List ℕ → ℕ → ℕ
high_at s x = number_at 8 (tuple_at x + 32) s

-- a number of two halves
abbrev pub wide : ℕ → ℕ → ℕ
wide low high = low + 18446744073709551616 * high

abbrev pub mark_at : List ℕ → ℕ → ℕ
mark_at s x = wide (low_at s x) (high_at s x)

-- the order at a place
unfoldable pub order_at : List ℕ → ℕ → Order
order_at s x = record { page = record { 0 = x / offset_span / slot_span }; slot = x / offset_span % slot_span; part = number_at 4 (tuple_at x + 40) s; quantity = number_at 4 (tuple_at x + 44) s }

-- the places of the orders among some rows
unfoldable pub places_of : List ℕ → List Row → List ℕ
places_of s [] = []
places_of s (r ∷ rs) = cons_if (is_order (row_payload s r)) (place_of r) (places_of s rs)

-- those of the visible orders from slot k of page i on
abbrev pub places_from : List ℕ → ℕ → ℕ → List ℕ
places_from s i k = places_of s (rows_at i k (visible_rows s))

-- ---- what a list holds, in any order

abbrev pub one : Bool → ℕ
one true = 1
one false = 0

-- how often x stands in a list
unfoldable pub count : ℕ → List ℕ → ℕ
count x [] = 0
count x (y ∷ l) = one (eqb y x) + count x l

abbrev pub Has : ℕ → List ℕ → Type 0
Has x l = 1 ≤ count x l

-- r is a permutation of l
pub record Same (l r : List ℕ) : Type 0 where
  pub at : (x : ℕ) → count x r ≡ count x l

-- a place of an order of a page area of bytes
pub record Place (s : List ℕ) (x : ℕ) : Type 0 where
  pub room : tuple_at x + 48 ≤ length s
  pub small : x < 18446744073709551615
  pub bytes : Bytes s

-- each element is one
pub record Places (s l : List ℕ) : Type 0 where
  pub at : (x : ℕ) → Has x l → Place s x

-- what a step to the next order at or after slot k of page i finds
abbrev pub Met : List ℕ → ℕ → ℕ → Option NextOrder → Type 0
Met s i k None = places_from s i k ≡ []
Met s i k (Some n) = (places_from s i k ≡ n.place ∷ places_from s n.page n.slot) × Place s n.place
