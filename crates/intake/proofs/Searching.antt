-- The search for a mark: the slots of a page as code meets them, and page after page; that it is the first order with the mark, and what it answers.
-- Assumes nothing.
use mathlib.Core.Path.{◌≡◌, refl, sym, ap, ◌∙◌, subst}
use mathlib.Core.Logic.{inl, inr}
use mathlib.Core.Bool.{Bool, true, false, not}
use Prim.Native.Nat.{ℕ, zero, suc, ◌+◌, ◌-◌, ◌*◌, ◌%◌, ◌≤◌, ◌<◌}
use native.Mathlib.Omega.{arith}
use native.Mathlib.Numerals.{add-one}
use native.Mathlib.Decide.{dec_le}
use native.Mathlib.Nat.{zero-add}
use mathlib.Core.List.{List, [], ◌∷◌, ◌++◌, append-nil, append_assoc}
use lib.Dec.{eqb}
use lib.ListN.{length, take, drop, length-drop}
use lib.Seq.{length-take-le}
use borrow.Author.Tests.{le-leb, lt-leb, eq-eqb, ne_eqb, eqb-true}
use Rattle.endian.specs.Pick.{pick, cons_if}
use Rattle.endian.specs.Numbers.{part, number_at}
use Rattle.endian.proofs.Places.{part-take, part-drop, drop-part, number-take, number-drop}
use Rattle.refusals.specs.Verdict.{verdict, accepted, told_by, told}
use Rattle.refusals.specs.declared.Verdict.{Verdict}
use Rattle.page.specs.Layout.{page_bytes, data_type, pages_in, page_at, type_of, count_of, body_of, slot_off, slot_len, slot_at, payload_of}
use Rattle.page.specs.Good.{DataGood, Good}
use Rattle.page.specs.Fault.{fault_of, fault_verdict, size_wrong, verdict_from, verdict_of}
use Rattle.page.specs.Rows.{visible, row, slot_rows, page_rows, rows_from, row_payload, first_with}
use Rattle.page.specs.declared.Row.{Row}
use Rattle.std.specs.Prelude.{Option, Some, None, Result, Ok, Err}
use Rattle.std.specs.Option.{option_map, option_or}
use Rattle.refusals.specs.declared.Refused.{Refused}
use Rattle.refusals.proofs.Told.{err-refused, err-some, ok-accepted}
use Rattle.page.proofs.Picks.{never}
use Rattle.page.proofs.Slots.{slot-in}
use Rattle.page.proofs.Verdicts.{right-size, number_of, case-size, accepted-good, good-accepted, bad-refused}
use Rattle.page.proofs.Visibility.{empty}
use Rattle.intake.specs.Orders.{mark_of, is_order, bears, order_of, short_in, found_in, order_found}
use Rattle.intake.specs.Places.{wide}
use Rattle.intake.specs.Search.{is_short, short_slots, is_marked, first_slot, order_in, first_order, slots_found, both, with_page}
use Rattle.intake.specs.declared.FoundOrder.{FoundOrder}
use Rattle.intake.specs.declared.Order.{Order}
use Rattle.intake.proofs.Halves.{halves-at}

neither : (t : Bool) → false ≡ pick t false false
neither true = refl
neither false = refl

-- ---- slot k of a good Data page

pub slot-low : (p : List ℕ) → DataGood p → (k : ℕ) → k < count_of p → k < 4080
slot-low p d k l = omega (arith, d.start, d.start_end, d.end)

module _ (p : List ℕ) (size : length p ≡ page_bytes) (d : DataGood p) (k : ℕ) (l : k < count_of p) where
  tuple-length : length (slot_at p k) ≡ slot_len (body_of p) k
  tuple-length = ap length (slot-in p k l) ∙ length-take-le (slot_len (body_of p) k) (drop (slot_off (body_of p) k) (body_of p)) (simp length-drop (omega (arith, room)))
    where
      room : slot_len (body_of p) k ≤ 16320 - slot_off (body_of p) k
      room = elim (d.slots k l) [ inl e ↦ omega (arith, e.1) | inr f ↦ omega (arith, f.within) ]

  payload-length : length (payload_of (slot_at p k)) ≡ slot_len (body_of p) k - 24
  payload-length = length-drop 24 (slot_at p k) ∙ ap (λ (n : ℕ). n - 24) tuple-length

  -- it has no tuple
  pub short-empty : 0 ≡ slot_len (body_of p) k → false ≡ is_short (slot_at p k)
  unfolding is_short
  short-empty e =
      let z : slot_at p k ≡ [] = slot-in p k l ∙ ap (λ (n : ℕ). part (slot_off (body_of p) k) n (body_of p)) (sym e) in
      rw (z, empty true)

  module _ (n : ℕ) (en : n ≡ slot_len (body_of p) k) where
    -- its payload is no order
    module _ (h : n < 48) where
      no-order : is_order (payload_of (slot_at p k)) ≡ false
      unfolding is_order
      no-order = lt-leb 24 (length (payload_of (slot_at p k))) (omega (arith, payload-length))

      pub short-is : (v : Bool) → v ≡ visible (slot_at p k) → v ≡ is_short (slot_at p k)
      unfolding is_short
      short-is v e = rw (no-order, ← e) (go v)
        where
          go : (t : Bool) → t ≡ pick t true false
          go true = refl
          go false = refl

      pub marked-short : (mark : ℕ) → false ≡ is_marked mark (slot_at p k)
      unfolding is_marked bears
      marked-short mark = rw no-order (neither (visible (slot_at p k)))

    -- it is one
    module _ (h : 48 ≤ n) where
      is-order : is_order (payload_of (slot_at p k)) ≡ true
      unfolding is_order
      is-order = le-leb 24 (length (payload_of (slot_at p k))) (omega (arith, payload-length))

      pub short-long : false ≡ is_short (slot_at p k)
      unfolding is_short
      short-long = rw is-order (neither (visible (slot_at p k)))

      module _ (o : ℕ) (eo : o ≡ slot_off (body_of p) k) where
        pub order-in : 64 + o + 48 ≤ length p
        order-in = elim (d.slots k l) [ inl e ↦ absurd (omega (arith, e.1)) | inr f ↦ omega (arith, f.within) ]

        payload-there : payload_of (slot_at p k) ≡ part (64 + o + 24) (n - 24) p
        payload-there =
            let z : 64 + (o + 24) ≡ 64 + o + 24 = omega arith in
            rw (slot-in p k l, ← eo, ← en) (drop-part 24 o n (body_of p) (omega arith) ∙ part-drop (o + 24) (n - 24) 64 p ∙ ap (λ (x : ℕ). part x (n - 24) p) z)

        field : (w x y : ℕ) → 64 + o + 24 + x ≡ y → x + w ≤ 24 → number_at w y p ≡ number_at w x (payload_of (slot_at p k))
        field w x y e b =
            ap (λ (z : ℕ). number_at w z p) (sym e) ∙ sym (number-drop w x (64 + o + 24) p) ∙ sym (number-take w x (n - 24) (drop (64 + o + 24) p) (omega arith)) ∙ ap (number_at w x) (sym payload-there)

        pub order-there : (i : ℕ) (r : Order) → r ≡ record { page = record { 0 = i }; slot = k; part = number_at 4 (64 + o + 40) p; quantity = number_at 4 (64 + o + 44) p } → r ≡ order_in i k (payload_of (slot_at p k))
        order-there i r e = e ∙ rw (field 4 16 (64 + o + 40) (omega arith) (omega arith), field 4 20 (64 + o + 44) (omega arith) (omega arith))

        module _ (mark : ℕ) (b : Bool) (is : b ≡ eqb (number_at 16 (64 + o + 24) p) mark) where
          bearing : b ≡ bears mark (payload_of (slot_at p k))
          unfolding bears
          bearing = is ∙ rw (is-order, field 16 0 (64 + o + 24) (omega arith) (omega arith))

          pub marked_other : b ≡ false → false ≡ is_marked mark (slot_at p k)
          unfolding is_marked
          marked_other e = let z : bears mark (payload_of (slot_at p k)) ≡ false = sym bearing ∙ e in rw z (neither (visible (slot_at p k)))

          pub marked-is : b ≡ true → (v : Bool) → v ≡ visible (slot_at p k) → v ≡ is_marked mark (slot_at p k)
          unfolding is_marked
          marked-is e v q = let z : bears mark (payload_of (slot_at p k)) ≡ true = sym bearing ∙ e in rw (z, ← q) (go v)
            where
              go : (t : Bool) → t ≡ pick t true false
              go true = refl
              go false = refl

  -- a marked slot has room for an order
  pub marked-long : (mark : ℕ) → is_marked mark (slot_at p k) ≡ true → 48 ≤ slot_len (body_of p) k
  marked-long mark e = elim (dec_le 48 (slot_len (body_of p) k)) [ yes a ↦ a | no a ↦ never (marked-short (slot_len (body_of p) k) refl (omega arith) mark ∙ e) ]

-- ---- the slots of a page, one after the other: how many are short

module _ (p : List ℕ) where
  pub short-few : (n k : ℕ) → short_slots p n k ≤ n
  unfolding short_slots
  short-few zero k = omega arith
  short-few (suc n) k = go (is_short (slot_at p k)) (short-few n (suc k))
    where
      go : (t : Bool) → short_slots p n (suc k) ≤ n → pick t (suc (short_slots p n (suc k))) (short_slots p n (suc k)) ≤ suc n
      go true h = omega arith
      go false h = omega arith

  pub short-start : (n : ℕ) → 0 + short_slots p (n - 0) 0 ≡ short_slots p n 0
  short-start n = let e : n - 0 ≡ n = omega arith in rw (e, zero-add (short_slots p n 0))

  module _ (n k c : ℕ) where
    pub short-end : n ≤ k → c ≡ c + short_slots p (n - k) k
    unfolding short_slots
    short-end l = let e : n - k ≡ 0 = omega arith in rw e (omega arith)

    module _ (l : k < n) where
      pub short-more : is_short (slot_at p k) ≡ true → c + 1 + short_slots p (n - (k + 1)) (k + 1) ≡ c + short_slots p (n - k) k
      unfolding short_slots
      short-more h = let e : n - k ≡ suc (n - (k + 1)) = omega arith in rw (e, add-one k, h) (omega arith)

      pub short-same : is_short (slot_at p k) ≡ false → c + short_slots p (n - (k + 1)) (k + 1) ≡ c + short_slots p (n - k) k
      unfolding short_slots
      short-same h = let e : n - k ≡ suc (n - (k + 1)) = omega arith in rw (e, add-one k, h)

-- and which is the first with the mark

abbrev MarkedIf : ℕ → List ℕ → ℕ → Option ℕ → Type 0
MarkedIf mark p n None = Unit {0}
MarkedIf mark p n (Some k) = (k < n) × (is_marked mark (slot_at p k) ≡ true)

module _ (mark : ℕ) (p : List ℕ) where
  pub first-start : (n : ℕ) → first_slot mark p (n - 0) 0 ≡ first_slot mark p n 0
  first-start n = let e : n - 0 ≡ n = omega arith in rw e

  module _ (n k : ℕ) where
    pub first-end : n ≤ k → None ≡ first_slot mark p (n - k) k
    unfolding first_slot
    first-end l = let e : n - k ≡ 0 = omega arith in rw e

    module _ (l : k < n) where
      pub first-here : is_marked mark (slot_at p k) ≡ true → Some k ≡ first_slot mark p (n - k) k
      unfolding first_slot
      first-here h = let e : n - k ≡ suc (n - (k + 1)) = omega arith in rw (e, h)

      pub first_next : is_marked mark (slot_at p k) ≡ false → first_slot mark p (n - (k + 1)) (k + 1) ≡ first_slot mark p (n - k) k
      unfolding first_slot
      first_next h = let e : n - k ≡ suc (n - (k + 1)) = omega arith in rw (e, add-one k, h)

  first-marked : (n k : ℕ) → MarkedIf mark p (k + n) (first_slot mark p n k)
  unfolding first_slot
  first-marked zero k = tt
  first-marked (suc n) k = go (is_marked mark (slot_at p k)) refl (first_slot mark p n (suc k)) (let z : suc k + n ≡ k + suc n = omega arith in rw z at (first-marked n (suc k)))
    where
      go : (t : Bool) → is_marked mark (slot_at p k) ≡ t → (m : Option ℕ) → MarkedIf mark p (k + suc n) m → MarkedIf mark p (k + suc n) (pick t (Some k) m)
      go true e m f = (omega arith, e)
      go false e m f = f

-- ---- all slots of page i, with what is known

module _ (mark i : ℕ) (p : List ℕ) (size : length p ≡ page_bytes) (d : DataGood p) where
  -- a slot that was found has room for an order
  pub first-long : (k : ℕ) → Some k ≡ first_slot mark p (count_of p) 0 → (k < count_of p) × (48 ≤ slot_len (body_of p) k)
  first-long k e =
      let m : MarkedIf mark p (0 + count_of p) (Some k) = subst (MarkedIf mark p (0 + count_of p)) (sym e) (first-marked mark p (count_of p) 0) in
      let l : k < count_of p = omega (arith, m.0) in
      (l, marked-long p size d k l mark m.1)

  pub order-first : (k : ℕ) → Some k ≡ first_slot mark p (count_of p) 0 → (o : ℕ) → o ≡ slot_off (body_of p) k
      → (r : Order) → r ≡ record { page = record { 0 = i }; slot = k; part = number_at 4 (64 + o + 40) p; quantity = number_at 4 (64 + o + 44) p } → Some r ≡ first_order mark i p (count_of p)
  unfolding first_order
  order-first k e o eo r q =
      let l = first-long k e in
      rw (← e) (ap Some (order-there p size d k l.0 (slot_len (body_of p) k) refl l.1 o eo i r q))

  pub order-room : (k : ℕ) → Some k ≡ first_slot mark p (count_of p) 0 → (o : ℕ) → o ≡ slot_off (body_of p) k → 64 + o + 48 ≤ length p
  order-room k e o eo = let l = first-long k e in order-in p size d k l.0 (slot_len (body_of p) k) refl l.1 o eo

pub order-none : (mark i : ℕ) (p : List ℕ) (n : ℕ) → None ≡ first_slot mark p n 0 → None ≡ first_order mark i p n
unfolding first_order
order-none mark i p n e = rw (← e)

module _ (mark i : ℕ) (p : List ℕ) (g : FoundOrder) where
  pub page-other : (type_of p ≡ data_type → ⊥) → g ≡ with_page mark i p g
  unfolding with_page
  page-other h = rw (ne_eqb _ _ h)

  pub page-data : type_of p ≡ data_type → both g (slots_found mark i p (count_of p)) ≡ with_page mark i p g
  unfolding with_page
  page-data h = rw (eq-eqb _ _ h)

  pub short-page : (type_of p ≡ data_type → DataGood p) → (with_page mark i p g).short ≤ g.short + 4080
  unfolding with_page both slots_found
  short-page d = go (eqb (type_of p) data_type) refl
    where
      go : (t : Bool) → eqb (type_of p) data_type ≡ t → (pick t (both g (slots_found mark i p (count_of p))) g).short ≤ g.short + 4080
      go true e = let f = d (eqb-true _ _ e) in omega (arith, short-few p (count_of p) 0, f.start, f.start_end, f.end)
      go false e = omega arith

-- ---- over rows

first-append : (f : Row → Bool) (xs ys : List Row) → first_with f (xs ++ ys) ≡ option_or (first_with f xs) (first_with f ys)
unfolding first_with
first-append f [] ys = refl
first-append f (q ∷ xs) ys = go (f q) (first-append f xs ys)
  where
    go : (t : Bool) → first_with f (xs ++ ys) ≡ option_or (first_with f xs) (first_with f ys) → pick t (Some q) (first_with f (xs ++ ys)) ≡ option_or (pick t (Some q) (first_with f xs)) (first_with f ys)
    go true e = refl
    go false e = e

map-or : {A B : Type 0} (f : A → B) (x y : Option A) → option_map f (option_or x y) ≡ option_or (option_map f x) (option_map f y)
map-or f None y = refl
map-or f (Some a) y = refl

module _ (s : List ℕ) (mark : ℕ) where
  short-append : (xs ys : List Row) → short_in s (xs ++ ys) ≡ short_in s xs + short_in s ys
  unfolding short_in
  short-append [] ys = sym (zero-add (short_in s ys))
  short-append (r ∷ xs) ys = go (is_order (row_payload s r)) (short-append xs ys)
    where
      go : (t : Bool) → short_in s (xs ++ ys) ≡ short_in s xs + short_in s ys → pick t (short_in s (xs ++ ys)) (suc (short_in s (xs ++ ys))) ≡ pick t (short_in s xs) (suc (short_in s xs)) + short_in s ys
      go true h = h
      go false h = omega arith

  -- rows and later ones
  found-append : (xs ys : List Row) → found_in s mark (xs ++ ys) ≡ both (found_in s mark xs) (found_in s mark ys)
  unfolding found_in both
  found-append xs ys = rw (short-append xs ys, first-append (λ q. bears mark (row_payload s q)) xs ys, map-or (order_of s) (first_with (λ q. bears mark (row_payload s q)) xs) (first_with (λ q. bears mark (row_payload s q)) ys))

  -- ---- the rows of a page

  module _ (i : ℕ) where
    rows_short : (n k : ℕ) → short_in s (slot_rows visible i (page_at i s) n k) ≡ short_slots (page_at i s) n k
    unfolding short_in slot_rows short_slots is_short
    rows_short zero k = refl
    rows_short (suc n) k = go (visible (slot_at (page_at i s) k)) (rows_short n (suc k))
      where
        go : (t : Bool) → short_in s (slot_rows visible i (page_at i s) n (suc k)) ≡ short_slots (page_at i s) n (suc k)
            → short_in s (cons_if t (row i k (page_at i s)) (slot_rows visible i (page_at i s) n (suc k))) ≡ pick (pick t (not (is_order (payload_of (slot_at (page_at i s) k)))) false) (suc (short_slots (page_at i s) n (suc k))) (short_slots (page_at i s) n (suc k))
        go true h = by (is_order (payload_of (slot_at (page_at i s) k)))
          where
            by : (o : Bool) → pick o (short_in s (slot_rows visible i (page_at i s) n (suc k))) (suc (short_in s (slot_rows visible i (page_at i s) n (suc k)))) ≡ pick (not o) (suc (short_slots (page_at i s) n (suc k))) (short_slots (page_at i s) n (suc k))
            by true = h
            by false = ap suc h
        go false h = h

    rows-first : (n k : ℕ) → first_with (λ r. bears mark (row_payload s r)) (slot_rows visible i (page_at i s) n k) ≡ option_map (λ k. row i k (page_at i s)) (first_slot mark (page_at i s) n k)
    unfolding first_with slot_rows first_slot is_marked
    rows-first zero k = refl
    rows-first (suc n) k = go (visible (slot_at (page_at i s) k)) (rows-first n (suc k))
      where
        go : (t : Bool) → first_with (λ r. bears mark (row_payload s r)) (slot_rows visible i (page_at i s) n (suc k)) ≡ option_map (λ k. row i k (page_at i s)) (first_slot mark (page_at i s) n (suc k))
            → first_with (λ r. bears mark (row_payload s r)) (cons_if t (row i k (page_at i s)) (slot_rows visible i (page_at i s) n (suc k))) ≡ option_map (λ k. row i k (page_at i s)) (pick (pick t (bears mark (payload_of (slot_at (page_at i s) k))) false) (Some k) (first_slot mark (page_at i s) n (suc k)))
        go true h = by (bears mark (payload_of (slot_at (page_at i s) k)))
          where
            by : (b : Bool) → pick b (Some (row i k (page_at i s))) (first_with (λ r. bears mark (row_payload s r)) (slot_rows visible i (page_at i s) n (suc k))) ≡ option_map (λ k. row i k (page_at i s)) (pick b (Some k) (first_slot mark (page_at i s) n (suc k)))
            by true = refl
            by false = h
        go false h = h

    slots-rows : (n : ℕ) → found_in s mark (slot_rows visible i (page_at i s) n 0) ≡ slots_found mark i (page_at i s) n
    unfolding found_in slots_found first_order
    slots-rows n = rw (rows_short n 0, rows-first n 0) (go (first_slot mark (page_at i s) n 0))
      where
        go : (m : Option ℕ) → ◌≡◌ {A = FoundOrder} (record { order = option_map (order_of s) (option_map (λ k. row i k (page_at i s)) m); short = short_slots (page_at i s) n 0 }) (record { order = option_map (λ k. order_in i k (payload_of (slot_at (page_at i s) k))) m; short = short_slots (page_at i s) n 0 })
        go None = refl
        go (Some k) = refl

    page-rows : (xs : List Row) → with_page mark i (page_at i s) (found_in s mark xs) ≡ found_in s mark (xs ++ page_rows visible i (page_at i s))
    unfolding with_page page_rows
    page-rows xs = go (eqb (type_of (page_at i s)) data_type)
      where
        go : (t : Bool) → pick t (both (found_in s mark xs) (slots_found mark i (page_at i s) (count_of (page_at i s)))) (found_in s mark xs) ≡ found_in s mark (xs ++ pick t (slot_rows visible i (page_at i s) (count_of (page_at i s)) 0) [])
        go true = sym (found-append xs (slot_rows visible i (page_at i s) (count_of (page_at i s)) 0) ∙ ap (both (found_in s mark xs)) (slots-rows (count_of (page_at i s))))
        go false = ap (found_in s mark) (sym (append-nil xs))

-- one page more
rows_more : (s : List ℕ) (n i : ℕ) → rows_from visible s (suc n) i ≡ rows_from visible s n i ++ page_rows visible (i + n) (page_at (i + n) s)
unfolding rows_from
rows_more s zero i = let e : i + 0 ≡ i = omega arith in rw e (append-nil (page_rows visible i (page_at i s)))
rows_more s (suc n) i =
    let e : suc i + n ≡ i + suc n = omega arith in
    ap (λ (x : List Row). page_rows visible i (page_at i s) ++ x) (rw e at (rows_more s n (suc i)))
    ∙ sym (append_assoc (page_rows visible i (page_at i s)) (rows_from visible s n (suc i)) (page_rows visible (i + suc n) (page_at (i + suc n) s)))

-- the first i pages are good, and were gone over
pub record Gone (magic : ℕ) (s : List ℕ) (mark i : ℕ) (g : FoundOrder) : Type 0 where
  pub good : (j : ℕ) → j < i → Good magic j (page_at j s)
  pub known : g ≡ found_in s mark (rows_from visible s i 0)
  pub few : g.short ≤ 4080 * i
  pub within : i ≤ pages_in s

module _ (magic : ℕ) (s : List ℕ) (mark : ℕ) (right : size_wrong s ≡ false) where
  pub gone-none : (g : FoundOrder) → g ≡ record { order = None; short = 0 } → Gone magic s mark 0 g
  unfolding rows_from found_in short_in first_with
  gone-none g e = record { good = λ j l. absurd (omega arith); known = e; few = rw e (omega arith); within = omega arith }

  module _ (i : ℕ) (l : i < pages_in s) (g : FoundOrder) (w : Gone magic s mark i g) where
    -- the pages up to page i, as they are lent
    abbrev front : List ℕ
    front = take (i * 16384 + 16384) s

    front_long : length front ≡ i * 16384 + 16384
    front_long = length-take-le (i * 16384 + 16384) s (omega arith)

    front-page : page_at i front ≡ page_at i s
    front-page = part-take (i * page_bytes) page_bytes (i * 16384 + 16384) s (omega arith)

    front-size : (length front % page_bytes ≡ 0) × (pages_in front ≤ 4096)
    front-size = let r = right-size s right in (omega (arith, front_long), omega (arith, front_long, r.1))

    module _ {r : Result Unit Refused} (is : told r ≡ verdict_from magic front i) where
      pub page-good : {x : Unit} → r ≡ Ok x → Good magic i (page_at i s)
      page-good w = rw (← front-page) (accepted-good magic front i (ok-accepted is w) i (omega arith) (omega (arith, front_long)))

      pub gone-refused : {e : Refused} → r ≡ Err e → Err (told_by e) ≡ order_found magic s mark
      unfolding order_found
      gone-refused {e} q =
          let v : Verdict = told_by e in
          let at : v ≡ verdict_from magic front i = err-refused is q in
          let n : v.number ≡ 0 → ⊥ = λ z. err-some is q (sym (ap number_of at) ∙ z) in
          let m = right-size s right in
          let no : Good magic i (page_at i s) → ⊥ = λ h. n (ap number_of (at ∙ good-accepted magic front i front-size.0 front-size.1 (λ j a b. let z : j ≡ i = omega (arith, front_long) in rw (z, front-page) h))) in
          let here : verdict_of magic s ≡ v =
          bad-refused magic s 0 m.0 m.1 i (record { from = omega arith; within = l; before = λ j a b. w.good j b; here = no })
          ∙ ap (λ (p : List ℕ). fault_verdict (fault_of magic i p) i) (sym front-page)
          ∙ sym (bad-refused magic front i front-size.0 front-size.1 i (record { from = omega arith; within = omega (arith, front_long); before = λ j a b. absurd (omega arith); here = λ h. no (rw (← front-page) h) })) ∙ sym at in
          let t : eqb (verdict_of magic s).number 0 ≡ false = rw here (ne_eqb v.number 0 n) in
          sym (rw (t, here))

      pub gone-more : {x : Unit} → r ≡ Ok x → (h : FoundOrder) → h ≡ with_page mark i (page_at i s) g → Gone magic s mark (i + 1) h
      gone-more e h q = record {
        good = λ j h. upto j h;
        known = q ∙ ap (with_page mark i (page_at i s)) w.known ∙ page-rows s mark i (rows_from visible s i 0) ∙ ap (found_in s mark) more;
        few = rw q (omega (arith, short-page mark i (page_at i s) g (page-good e).data_good, w.few));
        within = omega arith;
      }
        where
          more : rows_from visible s i 0 ++ page_rows visible i (page_at i s) ≡ rows_from visible s (i + 1) 0
          more = rw (add-one i) (sym (rw (zero-add i) at (rows_more s i 0)))

          upto : (j : ℕ) → j < i + 1 → Good magic j (page_at j s)
          upto j h = elim (dec_le (suc j) i) [ yes a ↦ w.good j a | no a ↦ let z : j ≡ i = omega arith in rw z (page-good e) ]

  pub gone-all : (i : ℕ) (g : FoundOrder) → pages_in s ≤ i → Gone magic s mark i g → Ok g ≡ order_found magic s mark
  unfolding order_found
  gone-all i g h w =
      let z : i ≡ pages_in s = omega (arith, w.within) in
      let m = right-size s right in
      let ok : verdict_of magic s ≡ accepted = good-accepted magic s 0 m.0 m.1 (λ j a b. w.good j (omega arith)) in
      let t : eqb (verdict_of magic s).number 0 ≡ true = eq-eqb _ _ (ap number_of ok) in
      sym (rw t (ap Ok (sym (w.known ∙ ap (λ (n : ℕ). found_in s mark (rows_from visible s n 0)) z))))

-- ---- the whole answer

pub find-size : (magic : ℕ) (s : List ℕ) (mark : ℕ) → size_wrong s ≡ true → Err (verdict 1 0) ≡ order_found magic s mark
unfolding order_found
find-size magic s mark e =
    let z : verdict_of magic s ≡ verdict 1 0 = sym (case-size magic s 0 e) in
    sym (rw z)

-- the mark, by its halves as code reads them
pub mark-read : (m : List ℕ) (low high : ℕ) → low ≡ number_at 8 0 m → high ≡ number_at 8 8 m → wide low high ≡ mark_of m
mark-read m low high p q = rw (p, q) (sym (halves-at 0 m))

-- what is known after the slots of a page, by what was known before
module _ (mark i : ℕ) (p : List ℕ) (n : ℕ) (g : FoundOrder) (c : ℕ) (counted : c ≡ short_slots p n 0) (x : Option Order) where
  pub both-kept : (o : Order) → g.order ≡ Some o → x ≡ Some o → ◌≡◌ {A = FoundOrder} (record { order = x; short = g.short + c }) (both g (slots_found mark i p n))
  unfolding both slots_found
  both-kept o e q = rw (q, counted, e)

  pub both-new : g.order ≡ None → x ≡ first_order mark i p n → ◌≡◌ {A = FoundOrder} (record { order = x; short = g.short + c }) (both g (slots_found mark i p n))
  unfolding both slots_found
  both-new e q = rw (q, counted, e)
