-- Which rows of a page area a listing shows, and where their tuples stand in the area.
-- Assumes nothing.
use mathlib.Core.Path.{◌≡◌, refl, sym, ap, ◌∙◌}
use mathlib.Core.Logic.{inl, inr}
use mathlib.Core.Bool.{Bool, true, false}
use Prim.Native.Nat.{ℕ, zero, suc, ◌+◌, ◌-◌, ◌*◌, ◌≤◌, ◌<◌}
use native.Mathlib.Decide.{dec_le}
use native.Mathlib.Omega.{arith}
use mathlib.Core.List.{List, [], ◌∷◌, ◌++◌}
use lib.Dec.{eqb}
use lib.ListN.{length, take, drop, length-drop}
use lib.Seq.{length-take-le}
use borrow.Author.Tests.{eq-eqb, eqb-true}
use Rattle.endian.specs.Pick.{pick, cons_if}
use Rattle.endian.specs.Numbers.{part}
use Rattle.endian.proofs.Places.{part-take, part-drop, drop-part}
use Rattle.page.specs.Layout.{page_bytes, slot_limit, row_head, longest_tuple, data_type, pages_in, page_at, type_of, count_of, free_end_of, body_of, slot_off, slot_len, slot_at, tuple_offset, payload_of}
use Rattle.page.specs.Good.{Filled, DataGood}
use Rattle.page.specs.Rows.{cancelled, row, slot_rows, page_rows, rows_from, rows_of, row_payload, Listable}
use Rattle.page.specs.Notes.{NoneCancelled}
use Rattle.page.specs.declared.Row.{Row}
use Rattle.page.proofs.Picks.{never}
use Rattle.page.proofs.Slots.{slot-in}
use Rattle.page.proofs.Verdicts.{page-length}

-- slot k of page i of an area holds a row that the listing shows
pub record InSlot (shows : List ℕ → Bool) (s : List ℕ) (i k : ℕ) : Type 0 where
  pub lent : i < pages_in s
  pub typed : type_of (page_at i s) ≡ data_type
  pub below : k < count_of (page_at i s)
  pub seen : shows (slot_at (page_at i s) k) ≡ true

-- each of some rows has a property
abbrev pub Each : (Row → Type 0) → List Row → Type 0
Each P [] = Unit
Each P (r ∷ rs) = P r × Each P rs

-- ---- a property of all rows of a listing is one of every slot that holds one

module _ (shows : List ℕ → Bool) (P : Row → Type 0) where
  each_append : (xs ys : List Row) → Each P xs → Each P ys → Each P (xs ++ ys)
  each_append [] ys u v = v
  each_append (r ∷ xs) ys u v = (u.0, each_append xs ys u.1 v)

  each-front : (xs ys : List Row) → Each P (xs ++ ys) → Each P xs
  each-front [] ys u = tt
  each-front (r ∷ xs) ys u = (u.0, each-front xs ys u.1)

  each_back : (xs ys : List Row) → Each P (xs ++ ys) → Each P ys
  each_back [] ys u = u
  each_back (r ∷ xs) ys u = each_back xs ys u.1

  module _ (i : ℕ) (p : List ℕ) where
    slots-each : (n k : ℕ) → ((m : ℕ) → k ≤ m → m < k + n → shows (slot_at p m) ≡ true → P (row i m p)) → Each P (slot_rows shows i p n k)
    unfolding slot_rows
    slots-each zero k h = tt
    slots-each (suc n) k h = go (shows (slot_at p k)) refl (slots-each n (suc k) (λ m a b e. h m (omega arith) (omega arith) e))
      where
        go : (t : Bool) → shows (slot_at p k) ≡ t → Each P (slot_rows shows i p n (suc k)) → Each P (cons_if t (row i k p) (slot_rows shows i p n (suc k)))
        go true e u = (h k (omega arith) (omega arith) e, u)
        go false e u = u

    each-slot : (n k m : ℕ) → Each P (slot_rows shows i p n k) → k ≤ m → m < k + n → shows (slot_at p m) ≡ true → P (row i m p)
    unfolding slot_rows
    each-slot zero k m u a b e = absurd (omega arith)
    each-slot (suc n) k m u a b e = go (shows (slot_at p k)) refl u (λ v l. each-slot n (suc k) m v l (omega arith) e)
      where
        later : (t : Bool) → Each P (cons_if t (row i k p) (slot_rows shows i p n (suc k))) → Each P (slot_rows shows i p n (suc k))
        later true v = v.1
        later false v = v

        go : (t : Bool) → shows (slot_at p k) ≡ t → Each P (cons_if t (row i k p) (slot_rows shows i p n (suc k))) → (Each P (slot_rows shows i p n (suc k)) → suc k ≤ m → P (row i m p)) → P (row i m p)
        go true q v f = elim (dec_le (suc k) m) [ yes l ↦ f v.1 l | no l ↦ let z : m ≡ k = omega arith in rw z v.0 ]
        go false q v f = elim (dec_le (suc k) m) [ yes l ↦ f v l | no l ↦ let z : k ≡ m = omega arith in never (sym q ∙ ap (λ (j : ℕ). shows (slot_at p j)) z ∙ e) ]

    page-each : ((k : ℕ) → type_of p ≡ data_type → k < count_of p → shows (slot_at p k) ≡ true → P (row i k p)) → Each P (page_rows shows i p)
    unfolding page_rows
    page-each h = go (eqb (type_of p) data_type) refl
      where
        go : (t : Bool) → eqb (type_of p) data_type ≡ t → Each P (pick t (slot_rows shows i p (count_of p) 0) [])
        go true e = slots-each (count_of p) 0 (λ m a b q. h m (eqb-true _ _ e) (omega arith) q)
        go false e = tt

    each-page : (k : ℕ) → Each P (page_rows shows i p) → type_of p ≡ data_type → k < count_of p → shows (slot_at p k) ≡ true → P (row i k p)
    unfolding page_rows
    each-page k u d l e = each-slot (count_of p) 0 k (rw (eq-eqb _ _ d) at u) (omega arith) (omega arith) e

  module _ (s : List ℕ) where
    pages-each : (n i : ℕ) → i + n ≡ pages_in s → ((j k : ℕ) → InSlot shows s j k → P (row j k (page_at j s))) → Each P (rows_from shows s n i)
    unfolding rows_from
    pages-each zero i e h = tt
    pages-each (suc n) i e h =
        each_append (page_rows shows i (page_at i s)) (rows_from shows s n (suc i))
        (page-each i (page_at i s) (λ k d l v. h i k (record { lent = omega arith; typed = d; below = l; seen = v })))
        (pages-each n (suc i) (omega arith) h)

    each-of-pages : (n i j k : ℕ) → Each P (rows_from shows s n i) → i ≤ j → j < i + n → InSlot shows s j k → P (row j k (page_at j s))
    unfolding rows_from
    each-of-pages zero i j k u a b h = absurd (omega arith)
    each-of-pages (suc n) i j k u a b h =
        elim (dec_le (suc i) j) [
          | yes l ↦ each-of-pages n (suc i) j k (each_back (page_rows shows i (page_at i s)) (rows_from shows s n (suc i)) u) l (omega arith) h
          | no l ↦ let z : j ≡ i = omega arith in
              each-page j (page_at j s) k (rw (← z) at (each-front (page_rows shows i (page_at i s)) (rows_from shows s n (suc i)) u)) h.typed h.below h.seen
        ]

    pub rows-each : ((i k : ℕ) → InSlot shows s i k → P (row i k (page_at i s))) → Each P (rows_of shows s)
    rows-each h = pages-each (pages_in s) 0 (omega arith) h

    pub each_row : Each P (rows_of shows s) → (i k : ℕ) → InSlot shows s i k → P (row i k (page_at i s))
    each_row u i k h = each-of-pages (pages_in s) 0 i k u (omega arith) (omega (arith, h.lent)) h

-- a page without cancelled rows
pub none-cancelled : (i : ℕ) (p : List ℕ) → type_of p ≡ data_type → page_rows cancelled i p ≡ [] → NoneCancelled p
none-cancelled i p d e = record { at = λ k l. by-test (cancelled (slot_at p k)) (λ q. each-page cancelled (λ r. ⊥) i p k (rw e tt) d l q) }
  where
    by-test : (t : Bool) → (t ≡ true → ⊥) → t ≡ false
    by-test true h = absurd (h refl)
    by-test false h = refl

-- ---- the tuple of a row

-- where a row and its tuple stand in their page area, and how long the tuple may be
pub record Standing (s : List ℕ) (r : Row) : Type 0 where
  pub lent : r.page.0 < pages_in s
  pub low : r.slot < slot_limit
  pub long : row_head ≤ r.length
  pub short : r.length ≤ longest_tuple
  pub within : r.offset + r.length ≤ length s
  -- `&pages[a..e]` from behind its row header to its end
  pub payload : take (r.offset + r.length - (r.offset + row_head)) (drop (r.offset + row_head) s) ≡ row_payload s r

-- a listing that shows no empty slot
module _ (shows : List ℕ → Bool) (none : shows [] ≡ false) (s : List ℕ) (fine : Listable s) (i k : ℕ) (h : InSlot shows s i k) where
  good : DataGood (page_at i s)
  good = fine.at i h.lent h.typed

  filled : Filled (body_of (page_at i s)) (free_end_of (page_at i s)) k
  filled =
      elim (good.slots k h.below) [
        | inl e ↦ let t : slot_at (page_at i s) k ≡ [] = slot-in (page_at i s) k h.below ∙ ap (λ (n : ℕ). part (slot_off (body_of (page_at i s)) k) n (body_of (page_at i s))) e.1 in
            never (sym none ∙ ap shows (sym t) ∙ h.seen)
        | inr f ↦ f
      ]

  tuple-length : length (slot_at (page_at i s) k) ≡ slot_len (body_of (page_at i s)) k
  tuple-length =
      ap length (slot-in (page_at i s) k h.below)
      ∙ length-take-le _ (drop (slot_off (body_of (page_at i s)) k) (body_of (page_at i s))) (simp length-drop (omega (arith, filled.within, page-length s i h.lent)))

  tuple-here : part (tuple_offset i (page_at i s) k) (length (slot_at (page_at i s) k)) s ≡ slot_at (page_at i s) k
  tuple-here =
      let o : ℕ = slot_off (body_of (page_at i s)) k in
      let n : ℕ = slot_len (body_of (page_at i s)) k in
      ap (λ (m : ℕ). part (tuple_offset i (page_at i s) k) m s) tuple-length
      ∙ sym (part-drop (64 + o) n (i * page_bytes) s) ∙ sym (part-take (64 + o) n page_bytes (drop (i * page_bytes) s) (omega (arith, filled.within)))
      ∙ sym (part-drop o n 64 (page_at i s)) ∙ sym (slot-in (page_at i s) k h.below)

  stands : Standing s (row i k (page_at i s))
  stands =
      let o : ℕ = tuple_offset i (page_at i s) k in
      let n : ℕ = length (slot_at (page_at i s) k) in
      let l : row_head ≤ n = omega (arith, tuple-length, filled.long) in
      let e : o + n - (o + row_head) ≡ n - row_head = omega arith in
      record {
        lent = h.lent;
        low = omega (arith, h.below, good.start, good.start_end, good.end);
        long = l;
        short = omega (arith, tuple-length, filled.above, filled.within, good.start, good.start_end);
        within = omega (arith, tuple-length, filled.within, h.lent);
        payload = rw e (sym (drop-part row_head o n s l) ∙ ap payload_of tuple-here);
      }

pub rows-stand : (shows : List ℕ → Bool) → shows [] ≡ false → (s : List ℕ) → Listable s → Each (Standing s) (rows_of shows s)
rows-stand shows none s fine = rows-each shows (Standing s) s (stands shows none s fine)
