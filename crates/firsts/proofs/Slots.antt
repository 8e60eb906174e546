-- Tests on slots, and the newest change on a slot. Today's entries share a slot exactly if they change one slot.
-- Assumes nothing.
use mathlib.Core.Path.{◌≡◌, refl, sym, ap, ◌∙◌}
use mathlib.Core.Bool.{Bool, true, false}
use Prim.Native.Nat.{ℕ}
use native.Mathlib.Decide.{ℕ_discrete}
use mathlib.Core.List.{List, [], ◌∷◌, ◌++◌}
use lib.Dec.{eqb}
use borrow.Author.Tests.{eqb-true, eq-eqb}
use Rattle.endian.specs.Pick.{pick}
use Rattle.wal.specs.Entry.{Entry}
use Rattle.rules.specs.Shape.{Change, both, either, is_change, is_on, page_of, slot_of, before_of, after_of, effect_on, same_slot}
use Rattle.rules.proofs.Tests.{false-true, both_true, true-both}
use Rattle.firsts.specs.Clash.{some_slot, has, slots_on, newest_on, Shared, Sharing}

-- ---- one of some slots

pub some_same : (f g : ℕ → Bool) → ((k : ℕ) → f k ≡ g k) → (ks : List ℕ) → some_slot f ks ≡ some_slot g ks
unfolding some_slot
some_same f g h [] = refl
some_same f g h (k ∷ ks) = rw (h k, some_same f g h ks)

pub some-has : (f : ℕ → Bool) (k : ℕ) (ks : List ℕ) → has k ks ≡ true → f k ≡ true → some_slot f ks ≡ true
unfolding some_slot
some-has f k [] h t = false-true h
some-has f k (l ∷ ks) h t = go (eqb l k) refl h (some-has f k ks)
  where
    go : (b : Bool) → eqb l k ≡ b → either b (has k ks) ≡ true → (has k ks ≡ true → f k ≡ true → some_slot f ks ≡ true) → either (f l) (some_slot f ks) ≡ true
    go true q h r = rw (eqb-true l k q, t)
    go false q h r = either-right (f l) (r h t)
      where
        either-right : (a : Bool) → some_slot f ks ≡ true → either a (some_slot f ks) ≡ true
        either-right true p = refl
        either-right false p = p

pub record Slot (f : ℕ → Bool) (ks : List ℕ) : Type 0 where
  pub slot : ℕ
  pub among : has slot ks ≡ true
  pub passes : f slot ≡ true

pub some-slot : (f : ℕ → Bool) (ks : List ℕ) → some_slot f ks ≡ true → Slot f ks
unfolding some_slot
some-slot f [] h = false-true h
some-slot f (k ∷ ks) h = go (f k) refl h (some-slot f ks)
  where
    go : (b : Bool) → f k ≡ b → either b (some_slot f ks) ≡ true → (some_slot f ks ≡ true → Slot f ks) → Slot f (k ∷ ks)
    go true q h r = record { slot = k; among = rw (eq-eqb k k refl); passes = q }
    go false q h r = let s = r h in record { slot = s.slot; among = right (eqb k s.slot) s.among; passes = s.passes }
      where
        right : {x : Bool} (a : Bool) → x ≡ true → either a x ≡ true
        right true p = refl
        right false p = p

-- ---- the newest

module _ (slots : ℕ → Entry → List ℕ) (i k : ℕ) where
  newest-append : (u : ℕ) (es fs : List Entry) → newest_on slots i k u (es ++ fs) ≡ newest_on slots i k (newest_on slots i k u es) fs
  unfolding newest_on
  newest-append u [] fs = refl
  newest-append u (d ∷ es) fs = newest-append (pick (has k (slots i d)) d.txn u) es fs

  pub newest-snoc : (es : List Entry) (e : Entry) → newest_on slots i k 0 (es ++ (e ∷ [])) ≡ pick (has k (slots i e)) e.txn (newest_on slots i k 0 es)
  unfolding newest_on
  newest-snoc es e = newest-append 0 es (e ∷ [])

  -- it is that of an entry
  pub record Newest (w : ℕ) (xs : List Entry) : Type 0 where
    pub us : List Entry
    pub f : Entry
    pub bs : List Entry
    pub split : xs ≡ us ++ (f ∷ bs)
    pub changed : has k (slots i f) ≡ true
    pub by : f.txn ≡ w

  pub newest-found : (u : ℕ) (xs : List Entry) → (newest_on slots i k u xs ≡ u → ⊥) → Newest (newest_on slots i k u xs) xs
  unfolding newest_on
  newest-found u [] n = absurd (n refl)
  newest-found u (x ∷ xs) n = go (has k (slots i x)) refl n (newest-found (pick (has k (slots i x)) x.txn u) xs)
    where
      later : {w : ℕ} → Newest w xs → Newest w (x ∷ xs)
      later r = record { us = x ∷ r.us; f = r.f; bs = r.bs; split = ap (λ (l : List Entry). x ∷ l) r.split; changed = r.changed; by = r.by }

      go : (b : Bool) → has k (slots i x) ≡ b → (newest_on slots i k (pick b x.txn u) xs ≡ u → ⊥) → ((newest_on slots i k (pick b x.txn u) xs ≡ pick b x.txn u → ⊥) → Newest (newest_on slots i k (pick b x.txn u) xs) xs)
          → Newest (newest_on slots i k (pick b x.txn u) xs) (x ∷ xs)
      go true q n r = at (ℕ_discrete (newest_on slots i k x.txn xs) x.txn)
        where
          at : Dec (newest_on slots i k x.txn xs ≡ x.txn) → Newest (newest_on slots i k x.txn xs) (x ∷ xs)
          at (yes p) = record { us = []; f = x; bs = xs; split = refl; changed = q; by = sym p }
          at (no p) = later (r p)
      go false q n r = later (r n)

-- ---- today's entries

pub slot_is : (i k : ℕ) (e : Entry) → has k (slots_on i e) ≡ both (is_on i e) (eqb (slot_of e) k)
unfolding slots_on some_slot
slot_is i k e = go (is_on i e) (eqb (slot_of e) k) refl
  where
    go : (b c : Bool) → eqb (slot_of e) k ≡ c → has k (pick b (slot_of e ∷ []) []) ≡ both b c
    go true true q = rw q
    go true false q = rw q
    go false c q = refl

-- they are the slots that an effect is on
abbrev pub is_some : List Change → Bool
is_some [] = false
is_some (c ∷ cs) = true

pub slot-effect : (i k : ℕ) (e : Entry) → has k (slots_on i e) ≡ is_some (effect_on i k e)
unfolding effect_on
slot-effect i k e = slot_is i k e ∙ go (both (is_on i e) (eqb (slot_of e) k)) (record { by = e.txn; before = before_of e; after = after_of e })
  where
    go : (b : Bool) (c : Change) → b ≡ is_some (pick b (c ∷ []) [])
    go true c = refl
    go false c = refl

pub sharing-one : Sharing slots_on same_slot
unfolding same_slot is_on
sharing-one = record { from = from; to = to }
  where
    from : (e f : Entry) → same_slot e f ≡ true → Shared slots_on e f
    from e f h =
        let a = both_true (both (is_change f) (eqb (page_of f) (page_of e))) _ h in
        let b = both_true (is_change e) _ a.1 in
        record {
          page = page_of e;
          slot = slot_of e;
          one = slot_is (page_of e) (slot_of e) e ∙ true-both (true-both b.0 (eq-eqb (page_of e) (page_of e) refl)) (eq-eqb (slot_of e) (slot_of e) refl);
          other = slot_is (page_of e) (slot_of e) f ∙ true-both a.0 (eq-eqb (slot_of f) (slot_of e) (sym (eqb-true (slot_of e) (slot_of f) b.1)));
        }

    to : (e f : Entry) → Shared slots_on e f → same_slot e f ≡ true
    to e f s =
        let i = s.page in
        let k = s.slot in
        let a = both_true (both (is_change e) (eqb (page_of e) i)) (eqb (slot_of e) k) (sym (slot_is i k e) ∙ s.one) in
        let b = both_true (both (is_change f) (eqb (page_of f) i)) (eqb (slot_of f) k) (sym (slot_is i k f) ∙ s.other) in
        let c = both_true (is_change e) (eqb (page_of e) i) a.0 in
        let d = both_true (is_change f) (eqb (page_of f) i) b.0 in
        let pages : page_of f ≡ page_of e = eqb-true (page_of f) i d.1 ∙ sym (eqb-true (page_of e) i c.1) in
        let slots : slot_of e ≡ slot_of f = eqb-true (slot_of e) k a.1 ∙ sym (eqb-true (slot_of f) k b.1) in
        true-both (true-both d.0 (eq-eqb (page_of f) (page_of e) pages)) (true-both c.0 (eq-eqb (slot_of e) (slot_of f) slots))
