-- The places of the changes of a page: in parts, one by one, and what the first and the last tell. Assumes nothing.
use Prim.Native.Nat.{ℕ, zero, suc, ◌+◌, ◌*◌, ◌≤◌, ◌<◌, max}
use mathlib.Core.Path.{◌≡◌, refl, sym, ap, ◌∙◌, subst}
use mathlib.Core.Bool.{Bool, true, false}
use mathlib.Core.List.{List, [], ◌∷◌, ◌++◌, append-nil}
use native.Mathlib.Decide.{dec_lt}
use native.Mathlib.Omega.{arith}
use lib.ListN.{length, get_or, length-append, get_or-append}
use lib.Seq.{get_or-append-add}
use Rattle.endian.specs.Pick.{pick, cons_if}
use Rattle.wal.specs.Entry.{Entry, size_of, sizes_of}
use Rattle.wal.specs.Read.{length_at}
use Rattle.wal.specs.Walk.{entries, end_of}
use Rattle.wal.specs.Prefix.{Met, Stands, said, before, onward}
use Rattle.wal.proofs.Prefix.{Along, start, more, along, stands_at, met-split, met-end, met-below, before-first, before-next, before-end, onward-next}
use Rattle.wal.proofs.Places.{size-of}
use Rattle.rules.specs.Shape.{either, is_change, is_on, page_of, slot_of, top_on, lsn_on}
use Rattle.rules.specs.Order.{one, count, last_lsn}
use Rattle.rules.specs.Mend.{top_of, last_on}
use Rattle.rules.proofs.OrderLaws.{last_snoc}
use Rattle.rules.proofs.Slots.{top-append, last-append}
use Rattle.rules.proofs.Tests.{both_true, false-true, either-none}
use lib.Dec.{eqb}
use borrow.Author.Tests.{eqb-true, eq-eqb}
use Rattle.change.specs.Places.{AllShaped, LsnsRise, ChangeAt, ChangeOn, slots_of, has_slot, top_slot, places_on, top_at, Each}
use Rattle.change.proofs.Keys.{change-long}

-- ---- on plain lists

pub sizes-append : (xs ys : List Entry) → sizes_of (xs ++ ys) ≡ sizes_of xs + sizes_of ys
sizes-append [] ys = omega arith
sizes-append (x ∷ xs) ys = omega (arith, sizes-append xs ys)

module _ (i : ℕ) where
  pub places-append : (xs ys : List Entry) (at : ℕ) → places_on i (xs ++ ys) at ≡ places_on i xs at ++ places_on i ys (at + sizes_of xs)
  unfolding places_on
  places-append [] ys at = ap (places_on i ys) (omega arith)
  places-append (x ∷ xs) ys at =
      let e : at + size_of x + sizes_of xs ≡ at + (size_of x + sizes_of xs) = omega arith in
      go (is_on i x) (places_on i (xs ++ ys) (at + size_of x)) (places_on i xs (at + size_of x)) _ (places-append xs ys (at + size_of x) ∙ ap (λ (n : ℕ). places_on i xs (at + size_of x) ++ places_on i ys n) e)
    where
      go : (b : Bool) (all front back : List ℕ) → all ≡ front ++ back → cons_if b at all ≡ cons_if b at front ++ back
      go true all front back h = ap (◌∷◌ at) h
      go false all front back h = h

  -- as many as there are changes of the page
  pub places_count : (es : List Entry) (at : ℕ) → length (places_on i es at) ≡ count (is_on i) es
  unfolding places_on
  places_count [] at = refl
  places_count (e ∷ es) at = go (is_on i e) (places_on i es (at + size_of e)) (places_count es (at + size_of e))
    where
      go : (b : Bool) (ps : List ℕ) {n : ℕ} → length ps ≡ n → length (cons_if b at ps) ≡ one b + n
      go true ps h = omega arith
      go false ps h = omega arith

  -- none is before the first entry, and each is before the next
  pub places-from : (es : List Entry) (at j : ℕ) → j < length (places_on i es at) → at ≤ get_or (places_on i es at) j 0
  unfolding places_on
  places-from [] at j h = absurd (omega arith)
  places-from (e ∷ es) at j h = go (is_on i e) (places_on i es (at + size_of e)) (λ m l. places-from es (at + size_of e) m l) j h
    where
      go : (b : Bool) (ps : List ℕ) → ((m : ℕ) → m < length ps → at + size_of e ≤ get_or ps m 0) → (m : ℕ) → m < length (cons_if b at ps) → at ≤ get_or (cons_if b at ps) m 0
      go true ps f zero l = omega arith
      go true ps f (suc m) l = omega (arith, f m (omega arith))
      go false ps f m l = omega (arith, f m l)

  pub places-rise : (es : List Entry) (at j k : ℕ) → j < k → k < length (places_on i es at) → get_or (places_on i es at) j 0 < get_or (places_on i es at) k 0
  unfolding places_on
  places-rise [] at j k l h = absurd (omega arith)
  places-rise (e ∷ es) at j k l h =
      go (is_on i e) (places_on i es (at + size_of e)) (λ m q. places-from es (at + size_of e) m q) (λ m n q r. places-rise es (at + size_of e) m n q r) j k l h
    where
      go : (b : Bool) (ps : List ℕ) → ((m : ℕ) → m < length ps → at + size_of e ≤ get_or ps m 0)
          → ((m n : ℕ) → m < n → n < length ps → get_or ps m 0 < get_or ps n 0)
          → (m n : ℕ) → m < n → n < length (cons_if b at ps) → get_or (cons_if b at ps) m 0 < get_or (cons_if b at ps) n 0
      go true ps f g m zero q r = absurd (omega arith)
      go true ps f g zero (suc n) q r = omega (arith, f n (omega arith))
      go true ps f g (suc m) (suc n) q r = g m n (omega arith) (omega arith)
      go false ps f g m n q r = g m n q r

-- ---- at a place of the walk

module _ {s : List ℕ} {p : ℕ} where
  pub said-size : Stands s p → size_of (said s p) ≡ length_at s p
  said-size h = let k = stands_at h in size-of k ∙ sym k.front

  -- the entries before it and behind it
  pub split_at : Met s p → Stands s p → entries s ≡ before s p ++ (said s p ∷ onward s (p + length_at s p))
  split_at m h = met-split s m ∙ ap (λ (l : List Entry). before s p ++ l) (onward-next s h)

  pub change-at : AllShaped (entries s) → Met s p → Stands s p → is_change (said s p) ≡ true → ChangeAt s p
  change-at a m h c = record { met = m; stands = h; change = c; shaped = a.at (before s p) (said s p) (onward s (p + length_at s p)) (split_at m h) }

  pub change-on : {i : ℕ} → AllShaped (entries s) → Met s p → Stands s p → is_on i (said s p) ≡ true → ChangeOn s i p
  unfolding is_on
  change-on {i} a m h o = let b = both_true (is_change (said s p)) _ o in record { at = change-at a m h b.0; page = eqb-true _ _ b.1 }

  pub on-change : {i : ℕ} → ChangeOn s i p → is_on i (said s p) ≡ true
  unfolding is_on
  on-change {i} c = rw (c.at.change, eq-eqb (page_of (said s p)) i c.page)

  -- it has 77 bytes or more, all in the log
  pub change-size : ChangeAt s p → (77 ≤ length_at s p) × (p + length_at s p ≤ length s) × (32 ≤ p)
  change-size c = let k = stands_at c.stands in (change-long c.stands c.change c.shaped, omega (arith, k.room, k.front), k.from)

-- a change ends before the next one begins
pub change-apart : {s : List ℕ} {p q : ℕ} → ChangeAt s p → ChangeAt s q → p < q → p + 77 ≤ q
change-apart {s} c d h = omega (arith, (change-size c).0, (met-below s c.met d.met h).next)

-- where the entries before a place end
before-place : {s : List ℕ} {p : ℕ} → Along s p → 32 + sizes_of (before s p) ≡ p
before-place {s} start = rw (before-first s) refl
before-place {s} (more {p = q} a m h e) =
    rw (e, before-next s m h) (omega (arith, sizes-append (before s q) (said s q ∷ []), said-size h, before-place a))

pub met-place : {s : List ℕ} {p : ℕ} → Met s p → 32 + sizes_of (before s p) ≡ p
met-place m = before-place (along m)

-- ---- one entry more

abbrev pub places_to : List ℕ → ℕ → ℕ → List ℕ
places_to s i p = places_on i (before s p) 32

module _ (s : List ℕ) (i : ℕ) where
  pub places-first : places_to s i 32 ≡ []
  unfolding places_on
  places-first = rw (before-first s)

  pub places-next : {p : ℕ} → Met s p → Stands s p → places_to s i (p + length_at s p) ≡ places_to s i p ++ cons_if (is_on i (said s p)) p []
  unfolding places_on
  places-next {p} m h =
      ap (λ (l : List Entry). places_on i l 32) (before-next s m h) ∙ places-append i (before s p) (said s p ∷ []) 32
      ∙ ap (λ (n : ℕ). places_to s i p ++ cons_if (is_on i (said s p)) n []) (met-place m)

  pub places-end : places_to s i (end_of s) ≡ places_on i (entries s) 32
  places-end = ap (λ (l : List Entry). places_on i l 32) (before-end s)

-- ---- each of them

each_none : (P : ℕ → Type 0) → Each P []
each_none P = record { at = λ j h. absurd (omega arith) }

each_more : (P : ℕ → Type 0) (ps : List ℕ) (p : ℕ) → Each P ps → P p → Each P (ps ++ (p ∷ []))
each_more P ps p h k = record { at = λ j l. elim (dec_lt j (length ps)) [ yes q ↦ subst P (sym (get_or-append ps (p ∷ []) 0 j q)) (h.at j q) | no q ↦ new j l q ] }
  where
    new : (j : ℕ) → j < length (ps ++ (p ∷ [])) → (j < length ps → ⊥) → P (get_or (ps ++ (p ∷ [])) j 0)
    new j l q =
        let e : j ≡ length ps + 0 = omega (arith, length-append ps (p ∷ [])) in
        subst P (sym (ap (λ (n : ℕ). get_or (ps ++ (p ∷ [])) n 0) e ∙ get_or-append-add ps (p ∷ []) 0 0)) k

module _ {s : List ℕ} (i : ℕ) (a : AllShaped (entries s)) where
  each-along : {p : ℕ} → Along s p → Each (ChangeOn s i) (places_to s i p)
  each-along start = rw (places-first s i) (each_none (ChangeOn s i))
  each-along (more {p = q} l m h e) = rw (e, places-next s i m h) (go (each-along l) (is_on i (said s q)) refl)
    where
      go : Each (ChangeOn s i) (places_to s i q) → (b : Bool) → is_on i (said s q) ≡ b → Each (ChangeOn s i) (places_to s i q ++ cons_if b q [])
      go old true o = each_more (ChangeOn s i) (places_to s i q) q old (change-on a m h o)
      go old false o = rw (append-nil (places_to s i q)) old

  pub places-each : Each (ChangeOn s i) (places_on i (entries s) 32)
  places-each = rw (sym (places-end s i)) (each-along (along (met-end s)))

-- ---- what they tell of the page

-- the slots of a change of page i, and how high they go
module _ (i : ℕ) (e : Entry) where
  pub top-slots : is_on i e ≡ true → top_on i e ≡ top_slot (slots_of e)
  unfolding top_on slots_of top_slot
  top-slots h = rw h (omega arith)

  top_one : (s : List ℕ) (p : ℕ) → e ≡ said s p → (b : Bool) → is_on i e ≡ b → top_at s (cons_if b p []) ≡ top_on i e
  unfolding top_at top_on
  top_one s p z true h = omega (arith, top-slots h, ap (λ (f : Entry). top_slot (slots_of f)) z)
  top_one s p z false h = rw h

  -- the one slot that effects are on
  pub slot_has : (k : ℕ) → eqb (slot_of e) k ≡ has_slot k (slots_of e)
  unfolding slots_of has_slot
  slot_has k = sym (either-none (eqb (slot_of e) k))

-- each slot is below the top
pub slot-below : (ks : List ℕ) (j : ℕ) → j < length ks → get_or ks j 0 < top_slot ks
unfolding top_slot
slot-below [] j h = absurd (omega arith)
slot-below (k ∷ ks) zero h = omega arith
slot-below (k ∷ ks) (suc j) h = omega (arith, slot-below ks j (omega arith))

pub slot-low : (ks : List ℕ) (k : ℕ) → has_slot k ks ≡ true → k < top_slot ks
unfolding top_slot has_slot
slot-low [] k h = false-true h
slot-low (j ∷ ks) k h = go (eqb j k) refl h (slot-low ks k)
  where
    go : (b : Bool) → eqb j k ≡ b → either b (has_slot k ks) ≡ true → (has_slot k ks ≡ true → k < top_slot ks) → k < max (suc j) (top_slot ks)
    go true q r f = omega (arith, eqb-true j k q)
    go false q r f = omega (arith, f r)

-- and so is that of each place
pub top_within : (s ps : List ℕ) (j : ℕ) → j < length ps → top_slot (slots_of (said s (get_or ps j 0))) ≤ top_at s ps
unfolding top_at
top_within s [] j h = absurd (omega arith)
top_within s (p ∷ ps) zero h = omega arith
top_within s (p ∷ ps) (suc j) h = omega (arith, top_within s ps j (omega arith))

module _ (s : List ℕ) (i : ℕ) where
  top-at-append : (ps qs : List ℕ) → top_at s (ps ++ qs) ≡ max (top_at s ps) (top_at s qs)
  unfolding top_at
  top-at-append [] qs = omega arith
  top-at-append (p ∷ ps) qs = omega (arith, top-at-append ps qs)

  top-along : {p : ℕ} → Along s p → top_of i (before s p) ≡ top_at s (places_to s i p)
  unfolding top_of top_at places_on
  top-along start = rw (before-first s)
  top-along (more {p = q} l m h e) =
      rw e
      (omega (arith, ap (top_of i) (before-next s m h), ap (top_at s) (places-next s i m h), top-append i (before s q) (said s q ∷ []), top-at-append (places_to s i q) (cons_if (is_on i (said s q)) q []), top_one i (said s q) s q refl (is_on i (said s q)) refl, top-along l))

  -- its top is the highest of theirs
  pub places-top : top_of i (entries s) ≡ top_at s (places_on i (entries s) 32)
  places-top = rw (sym (places-end s i), sym (before-end s)) (top-along (along (met-end s)))

-- ---- the LSN of the last of some places; d where there is none

abbrev pub lsn_last : List ℕ → List ℕ → ℕ → ℕ
lsn_last s [] d = d
lsn_last s (p ∷ ps) d = lsn_last s ps (said s p).lsn

pub lsn-last : (s ps : List ℕ) (d n : ℕ) → length ps ≡ suc n → lsn_last s ps d ≡ (said s (get_or ps n 0)).lsn
lsn-last s [] d n h = absurd (omega arith)
lsn-last s (p ∷ []) d zero h = refl
lsn-last s (p ∷ []) d (suc n) h = absurd (omega arith)
lsn-last s (p ∷ q ∷ ps) d zero h = absurd (omega arith)
lsn-last s (p ∷ q ∷ ps) d (suc n) h = lsn-last s (q ∷ ps) (said s p).lsn n (omega arith)

lsn-more : (s ps : List ℕ) (p d : ℕ) → lsn_last s (ps ++ (p ∷ [])) d ≡ (said s p).lsn
lsn-more s [] p d = refl
lsn-more s (q ∷ ps) p d = lsn-more s ps p (said s q).lsn

-- LSNs rise, so that is the largest
module _ (s : List ℕ) (i : ℕ) (r : LsnsRise (entries s)) where
  record Last (p : ℕ) : Type 0 where
    le : last_on i (before s p) ≤ last_lsn (before s p)
    is : lsn_last s (places_to s i p) 0 ≡ last_on i (before s p)

  last-first : Last 32
  unfolding last_on places_on
  last-first = record { le = rw (before-first s) (omega arith); is = rw (before-first s) }

  last-next : {q : ℕ} → Met s q → Stands s q → Last q → Last (q + length_at s q)
  unfolding last_on lsn_on
  last-next {q} m h k = go (is_on i (said s q)) refl
    where
      up : last_lsn (before s q) < (said s q).lsn
      up = r.at (before s q) (said s q) (onward s (q + length_at s q)) (split_at m h)

      on : (b : Bool) → is_on i (said s q) ≡ b → last_on i (before s (q + length_at s q)) ≡ max (last_on i (before s q)) (pick b (said s q).lsn 0)
      on b o = rw (before-next s m h, sym o) (omega (arith, last-append i (before s q) (said s q ∷ [])))

      end : last_lsn (before s (q + length_at s q)) ≡ (said s q).lsn
      end = rw (before-next s m h) (last_snoc (before s q) (said s q))

      go : (b : Bool) → is_on i (said s q) ≡ b → Last (q + length_at s q)
      go true o =
          record {
            le = omega (arith, up, on true o, end, k.le);
            is = ap (λ (l : List ℕ). lsn_last s l 0) (places-next s i m h ∙ ap (λ (b : Bool). places_to s i q ++ cons_if b q []) o) ∙ lsn-more s (places_to s i q) q 0 ∙ omega (arith, up, on true o, k.le);
          }
      go false o =
          record {
            le = omega (arith, up, on false o, end, k.le);
            is = ap (λ (l : List ℕ). lsn_last s l 0) (places-next s i m h ∙ ap (λ (b : Bool). places_to s i q ++ cons_if b q []) o ∙ append-nil (places_to s i q)) ∙ k.is ∙ omega (arith, on false o);
          }

  last-along : {p : ℕ} → Along s p → Last p
  last-along start = last-first
  last-along (more l m h e) = rw e (last-next m h (last-along l))

  pub places-last : lsn_last s (places_on i (entries s) 32) 0 ≡ last_on i (entries s)
  places-last = rw (sym (places-end s i), sym (before-end s)) (last-along (along (met-end s))).is

-- ---- how many there are

module _ (s : List ℕ) (i : ℕ) (a : AllShaped (entries s)) where
  -- number j has j changes in front of it
  pub places-low : (j : ℕ) → j < length (places_on i (entries s) 32) → 32 + 77 * j ≤ get_or (places_on i (entries s) 32) j 0
  places-low zero h = omega (arith, (change-size ((places-each i a).at 0 h).at).2)
  places-low (suc j) h =
      let e = places-each i a in
      let l : j < length (places_on i (entries s) 32) = omega arith in
      omega (arith, places-low j l, change-apart (e.at j l).at (e.at (suc j) h).at (places-rise i (entries s) 32 j (suc j) (omega arith) h))

  -- so all of them fit a log's bytes
  pub places-few : 77 * length (places_on i (entries s) 32) ≤ length s
  places-few = go (length (places_on i (entries s) 32)) refl
    where
      go : (n : ℕ) → length (places_on i (entries s) 32) ≡ n → 77 * n ≤ length s
      go zero h = omega arith
      go (suc n) h = let l : n < length (places_on i (entries s) 32) = omega arith in omega (arith, places-low n l, change-size ((places-each i a).at n l).at)

-- a page is touched where one of the entries changes it
pub touched-some : (i : ℕ) (es : List Entry) (at : ℕ) → 0 < length (places_on i es at) → 0 < top_of i es
unfolding places_on top_of top_on
touched-some i [] at h = absurd (omega arith)
touched-some i (e ∷ es) at h = go (is_on i e) (touched-some i es (at + size_of e)) h
  where
    go : (b : Bool) → (0 < length (places_on i es (at + size_of e)) → 0 < top_of i es) → 0 < length (cons_if b at (places_on i es (at + size_of e))) → 0 < max (pick b (suc (slot_of e)) 0) (top_of i es)
    go true f l = omega arith
    go false f l = omega (arith, f l)

pub touched_none : (i : ℕ) (es : List Entry) (at : ℕ) → length (places_on i es at) ≡ 0 → top_of i es ≡ 0
unfolding places_on top_of top_on
touched_none i [] at h = refl
touched_none i (e ∷ es) at h = go (is_on i e) (touched_none i es (at + size_of e)) h
  where
    go : (b : Bool) → (length (places_on i es (at + size_of e)) ≡ 0 → top_of i es ≡ 0) → length (cons_if b at (places_on i es (at + size_of e))) ≡ 0 → max (pick b (suc (slot_of e)) 0) (top_of i es) ≡ 0
    go true f l = absurd (omega arith)
    go false f l = omega (arith, f l)
