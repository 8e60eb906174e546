-- Packed pages one after the other: their number, and each of them.
-- Assumes nothing.
use mathlib.Core.Path.{◌≡◌, refl, ap, ◌∙◌}
use mathlib.Core.Logic.{inl, inr}
use Prim.Native.Nat.{ℕ, zero, suc, ◌+◌, ◌*◌, ◌^◌, ◌≤◌, ◌<◌}
use native.Mathlib.Omega.{arith}
use native.Mathlib.Nat.{add-zero}
use mathlib.Core.List.{List, [], ◌∷◌}
use lib.ListN.{length, get_or, replicate, length-append}
use lib.Dec.{lit<, lit≤}
use Rattle.endian.specs.Numbers.{Bytes, number_of, number_at}
use Rattle.endian.proofs.Bytes.{bytes-nil, bytes-append, bytes-zeros}
use Rattle.page.specs.Layout.{page_bytes, body_bytes, data_type, pages_in, page_at, type_of, lsn_of, count_of, slot_at}
use Rattle.page.specs.Packed.{room_for}
use Rattle.page.specs.Good.{Good, TupleGood}
use Rattle.page.proofs.Fields.{count-back, lsn-back, type-back}
use Rattle.page.proofs.Slots.{length-packed, slot-back}
use Rattle.page.proofs.Goodness.{packed-good, packed-bytes, body_bytes_lem}
use Rattle.page.proofs.Areas.{page-first, page-later}
use Rattle.cases.specs.Build.{Page, page, tuple, head_of, magic, page_of, area_from, area}
use Rattle.cases.proofs.Parts.{tuple-bytes}

-- what a page of the cases keeps
pub record PageOk (p : Page) : Type 0 where
  pub small : p.lsn < 2 ^ 64
  pub tuples : (k : ℕ) → TupleGood (get_or p.slots k [])
  pub bytes : (k : ℕ) → Bytes (get_or p.slots k [])
  pub room : room_for p.slots ≤ body_bytes

pub empty-ok : PageOk (page 0 [])
empty-ok = record { small = lit< tt; tuples = λ k. inl refl; bytes = λ k. bytes-nil; room = lit≤ tt }

-- a page of one tuple of thirty bytes, the last of which is n
pub filled_ok : (lsn n : ℕ) → lsn < 2 ^ 64 → n < 256 → PageOk (page lsn (tuple 29 n ∷ []))
unfolding number_at number_of
filled_ok lsn n l h = record { small = l; tuples = good; bytes = bytes; room = lit≤ tt }
  where
    good : (k : ℕ) → TupleGood (get_or (tuple 29 n ∷ []) k [])
    good zero = inr (lit≤ tt, lit≤ tt)
    good (suc k) = inl refl

    bytes : (k : ℕ) → Bytes (get_or (tuple 29 n ∷ []) k [])
    bytes zero = tuple-bytes 29 n h
    bytes (suc k) = bytes-nil

abbrev pub EachPage : (Page → Type 0) → List Page → Type 0
EachPage P [] = Unit {0}
EachPage P (p ∷ ps) = P p × EachPage P ps

-- page i of the list
abbrev pub nth : List Page → ℕ → Page
nth ps i = get_or ps i (page 0 [])

pub each-nth : (P : Page → Type 0) (ps : List Page) → EachPage P ps → (i : ℕ) → i < length ps → P (nth ps i)
each-nth P [] h i l = absurd (omega arith)
each-nth P (p ∷ ps) h zero l = h.0
each-nth P (p ∷ ps) h (suc i) l = each-nth P ps h.1 i (omega arith)

reserved : length {A = ℕ} (replicate 28 0) ≡ 28
reserved = refl

module _ (i : ℕ) (p : Page) (ok : PageOk p) where
  pub size-of : length (page_of i p) ≡ page_bytes
  size-of = length-packed (head_of i p.lsn) p.slots reserved ok.room

  pub good_of : i < 2 ^ 64 → Good magic i (page_of i p)
  good_of l = packed-good (head_of i p.lsn) p.slots (omega arith) (omega arith) l reserved ok.room (body_bytes_lem p.slots ok.bytes) ok.tuples

  pub lsn-of : lsn_of (page_of i p) ≡ p.lsn
  lsn-of = lsn-back (head_of i p.lsn) p.slots ok.small

  pub type-of : type_of (page_of i p) ≡ data_type
  type-of = type-back (head_of i p.lsn) p.slots (omega arith)

  pub count-of : count_of (page_of i p) ≡ length p.slots
  count-of = count-back (head_of i p.lsn) p.slots (omega (arith, ok.room))

  pub slot-of : (k : ℕ) → slot_at (page_of i p) k ≡ get_or p.slots k []
  slot-of k = slot-back (head_of i p.lsn) p.slots k reserved ok.room

area-size : (i : ℕ) (ps : List Page) → EachPage PageOk ps → length (area_from i ps) ≡ length ps * page_bytes
area-size i [] h = refl
area-size i (p ∷ ps) h = length-append (page_of i p) (area_from (suc i) ps) ∙ omega (arith, size-of i p h.0, area-size (suc i) ps h.1)

pub pages-in : (ps : List Page) → EachPage PageOk ps → pages_in (area ps) ≡ length ps
pages-in ps h = omega (arith, area-size 0 ps h)

pub area-whole : (ps : List Page) → EachPage PageOk ps → length (area ps) ≡ length ps * page_bytes
area-whole ps h = area-size 0 ps h

page-from : (i : ℕ) (ps : List Page) → EachPage PageOk ps → (j : ℕ) → j < length ps → page_at j (area_from i ps) ≡ page_of (i + j) (nth ps j)
page-from i [] h j l = absurd (omega arith)
page-from i (p ∷ ps) h zero l = rw add-zero (page-first (page_of i p) (area_from (suc i) ps) (size-of i p h.0))
page-from i (p ∷ ps) h (suc j) l =
    let e : suc i + j ≡ i + suc j = omega arith in
    page-later j (page_of i p) (area_from (suc i) ps) (size-of i p h.0) ∙ page-from (suc i) ps h.1 j (omega arith) ∙ ap (λ (k : ℕ). page_of k (nth ps j)) e

pub page-at : (ps : List Page) → EachPage PageOk ps → (i : ℕ) → i < length ps → page_at i (area ps) ≡ page_of i (nth ps i)
page-at ps h i l = let e : 0 + i ≡ i = omega arith in page-from 0 ps h i l ∙ ap (λ (k : ℕ). page_of k (nth ps i)) e

bytes-from : (i : ℕ) (ps : List Page) → EachPage PageOk ps → Bytes (area_from i ps)
bytes-from i [] h = bytes-nil
bytes-from i (p ∷ ps) h = bytes-append (packed-bytes (head_of i p.lsn) p.slots (bytes-zeros 28) h.0.bytes) (bytes-from (suc i) ps h.1)

pub area-bytes : (ps : List Page) → EachPage PageOk ps → Bytes (area ps)
area-bytes ps h = bytes-from 0 ps h
