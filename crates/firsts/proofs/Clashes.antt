-- In entries without a clash, an entry clashes exactly if the newest change on one of its slots is of another transaction that has not ended. So the first clash
-- is the first of all slots, and it is found page by page over the changes on that page alone.
-- Assumes nothing.
use mathlib.Core.Path.{◌≡◌, refl, sym, ap, ap₂, ◌∙◌, subst}
use mathlib.Core.Bool.{Bool, true, false, not}
use Prim.Native.Nat.{ℕ, suc, ◌+◌, ◌≤◌, ◌<◌}
use native.Mathlib.Omega.{arith}
use native.Mathlib.Decide.{dec_lt, ℕ_discrete}
use mathlib.Core.List.{List, [], ◌∷◌, ◌++◌, append_assoc, append-nil}
use lib.Dec.{ltb, leb, eqb}
use borrow.Author.Tests.{lt-ltb, le-ltb, leb-true, leb-false, eqb-true, eqb-false, eq-eqb, ne_eqb}
use Rattle.endian.specs.Pick.{pick, cons_if}
use Rattle.wal.specs.Entry.{Entry, size_of, sizes_of}
use Rattle.rules.specs.Shape.{both, either, is_change, is_on, page_of, slot_of, same_slot}
use Rattle.rules.specs.Order.{any, ended, clashes}
use Rattle.rules.proofs.Tests.{false-true, both_true, true-both, either-false, not-true}
use Rattle.firsts.specs.First.{first_at, is_ending, Tells, FirstOf}
use Rattle.firsts.specs.Clash.{some_slot, has, slots_on, newest_on, open_other, ClashIn, everywhere, pages_below, slots_of, clashes_by, Sharing, marks_on, open_at, clash_at, noted, clash_walk}
use Rattle.firsts.proofs.FirstLaws.{Clean, Last, old, new, last_of, clean-snoc, any_append, any_here, within, tells_first, first-join, first-never, first-agree, sizes-append}
use Rattle.firsts.proofs.Orders.{ended-any}
use Rattle.firsts.proofs.Slots.{some_same, some-has, some-slot, newest-snoc, newest-found, slot_is, sharing-one}

-- an entry that passes
record Passing (f : Entry → Bool) (xs : List Entry) : Type 0 where
  pub us : List Entry
  pub d : Entry
  pub bs : List Entry
  pub split : xs ≡ us ++ (d ∷ bs)
  pub passes : f d ≡ true

passing : (f : Entry → Bool) (xs : List Entry) → any f xs ≡ true → Passing f xs
passing f [] h = false-true h
passing f (x ∷ xs) h = go (f x) refl h (passing f xs)
  where
    go : (b : Bool) → f x ≡ b → either b (any f xs) ≡ true → (any f xs ≡ true → Passing f xs) → Passing f (x ∷ xs)
    go true q h more = record { us = []; d = x; bs = xs; split = refl; passes = q }
    go false q h more = let r = more h in record { us = x ∷ r.us; d = r.d; bs = r.bs; split = ap (λ (l : List Entry). x ∷ l) r.split; passes = r.passes }

ended-front : (xs : List Entry) (g : Entry) (t : ℕ) → ended (xs ++ (g ∷ [])) t ≡ false → ended xs t ≡ false
ended-front xs g t h = ended-any xs t ∙ (either-false (any (is_ending t) xs) (any (is_ending t) (g ∷ [])) (sym (any_append (is_ending t) xs (g ∷ [])) ∙ sym (ended-any (xs ++ (g ∷ [])) t) ∙ h)).0

module _ (slots : ℕ → Entry → List ℕ) (meets : Entry → Entry → Bool) (share : Sharing slots meets) where
  -- e clashes after xs, as the rules say
  abbrev pub Clashing : List Entry → Entry → Type 0
  Clashing xs e = any (clashes_by meets xs e) xs ≡ true

  -- an open change f on a slot is of the newest one's transaction
  abbrev Clear : List Entry → Type 0
  Clear xs = (i k : ℕ) (us : List Entry) (f : Entry) (bs : List Entry) → xs ≡ us ++ (f ∷ bs) → has k (slots i f) ≡ true → (f.txn ≡ 0 → ⊥) → ended xs f.txn ≡ false → f.txn ≡ newest_on slots i k 0 xs

  clear-snoc : (xs : List Entry) (g : Entry) → Clear xs → (Clashing xs g → ⊥) → Clear (xs ++ (g ∷ []))
  unfolding clashes_by
  clear-snoc xs g c n i k us f bs q h z o = go (last_of xs g us f bs q)
    where
      go : Last xs g us f → f.txn ≡ newest_on slots i k 0 (xs ++ (g ∷ []))
      go (new p r) = let s : has k (slots i g) ≡ true = ap (λ (x : Entry). has k (slots i x)) r ∙ h in ap (λ (x : Entry). x.txn) (sym r) ∙ sym (newest-snoc slots i k xs g ∙ rw s)
      go (old rest p) = at (has k (slots i g)) refl
        where
          going : ended xs f.txn ≡ false
          going = ended-front xs g f.txn o

          at : (b : Bool) → has k (slots i g) ≡ b → f.txn ≡ newest_on slots i k 0 (xs ++ (g ∷ []))
          at true s = same (eqb f.txn g.txn) refl
            where
              same : (b : Bool) → eqb f.txn g.txn ≡ b → f.txn ≡ newest_on slots i k 0 (xs ++ (g ∷ []))
              same true r = eqb-true f.txn g.txn r ∙ sym (newest-snoc slots i k xs g ∙ rw s)
              same false r =
                  let m : meets g f ≡ true = share.to g f (record { page = i; slot = k; one = s; other = h }) in
                  let y : clashes_by meets xs g f ≡ true = rw (m, r, ne_eqb f.txn 0 z, going) in
                  absurd (n (ap (any (clashes_by meets xs g)) p ∙ any_here (clashes_by meets xs g) us f rest y))
          at false s = c i k us f rest p h z going ∙ sym (newest-snoc slots i k xs g ∙ rw s)

  clear-go : (done todo : List Entry) → Clean Clashing (done ++ todo) → Clear done → Clear (done ++ todo)
  clear-go done [] n c = rw (append-nil done) c
  clear-go done (d ∷ todo) n c =
      let a : (done ++ (d ∷ [])) ++ todo ≡ done ++ (d ∷ todo) = append_assoc done (d ∷ []) todo in
      subst Clear a (clear-go (done ++ (d ∷ [])) todo (subst (Clean Clashing) (sym a) n) (clear-snoc done d c (n done d todo refl)))

  clear : (xs : List Entry) → Clean Clashing xs → Clear xs
  clear xs n = clear-go [] xs n (λ i k us f bs q. absurd (omega (arith, ap sizes_of q, sizes-append us (f ∷ bs))))

  -- it clashes with the newest on one of its slots
  pub clash-newest : (xs : List Entry) (e : Entry) → Clean Clashing xs → Clashing xs e → ClashIn slots everywhere xs e
  unfolding clashes_by open_other
  clash-newest xs e n h =
      let r = passing (clashes_by meets xs e) xs h in
      let f = r.d in
      let a = both_true (meets e f) _ r.passes in
      let b = both_true (not (eqb f.txn e.txn)) _ a.1 in
      let d = both_true (not (eqb f.txn 0)) _ b.1 in
      let s = share.from e f a.0 in
      let u : f.txn ≡ newest_on slots s.page s.slot 0 xs = clear xs n s.page s.slot r.us f r.bs r.split s.other (eqb-false f.txn 0 (not-true (eqb f.txn 0) d.0)) (not-true (ended xs f.txn) d.1) in
      record { page = s.page; slot = s.slot; named = refl; changed = s.one; is_other = rw (← u) (true-both d.0 (true-both b.0 d.1)) }

  -- and what clashes with the newest on a slot clashes
  pub newest-clash : (xs : List Entry) (e : Entry) → ClashIn slots everywhere xs e → Clashing xs e
  unfolding clashes_by open_other
  newest-clash xs e c =
      let w = newest_on slots c.page c.slot 0 xs in
      let a = both_true (not (eqb w 0)) _ c.is_other in
      let b = both_true (not (eqb w e.txn)) _ a.1 in
      let r = newest-found slots c.page c.slot 0 xs (eqb-false w 0 (not-true (eqb w 0) a.0)) in
      let m : meets e r.f ≡ true = share.to e r.f (record { page = c.page; slot = c.slot; one = c.changed; other = r.changed }) in
      let y : clashes_by meets xs e r.f ≡ true = rw (m, r.by) (true-both b.0 (true-both a.0 b.1)) in
      ap (any (clashes_by meets xs e)) r.split ∙ any_here (clashes_by meets xs e) r.us r.f r.bs y

  -- the first clash on any slot, by the newest on it, is the first clash
  pub clash-by : {es : List Entry} {at stop r : ℕ} → FirstOf (ClashIn slots everywhere) es at stop r → FirstOf Clashing es at stop r
  clash-by {es} f = first-agree Clashing (ClashIn slots everywhere) es (λ xs e ys q n. (clash-newest xs e n, newest-clash xs e)) f

-- ---- today's entries

-- no clash in the entries xs, as the rules say
abbrev pub Apart : List Entry → Type 0
Apart xs = Clean (λ us f. any (clashes us f) us ≡ true) xs

clash-same : (xs : List Entry) (e : Entry) → clashes xs e ≡ clashes_by same_slot xs e
unfolding clashes clashes_by
clash-same xs e = refl

-- an entry clashes exactly if it is a change, and the newest change before it on its slot is of another transaction, not 0, that has not ended
pub clash-one : (xs : List Entry) (e : Entry) → Apart xs → any (clashes xs e) xs ≡ both (is_change e) (open_other xs e (newest_on slots_on (page_of e) (slot_of e) 0 xs))
unfolding clashes clashes_by is_on
clash-one xs e n = same (any (clashes xs e) xs) (both (is_change e) (open_other xs e (newest_on slots_on (page_of e) (slot_of e) 0 xs))) to from
  where
    same : (a b : Bool) → (a ≡ true → b ≡ true) → (b ≡ true → a ≡ true) → a ≡ b
    same true b f g = sym (f refl)
    same false true f g = g refl
    same false false f g = refl

    to : any (clashes xs e) xs ≡ true → both (is_change e) (open_other xs e (newest_on slots_on (page_of e) (slot_of e) 0 xs)) ≡ true
    to h =
        let c = clash-newest slots_on same_slot sharing-one xs e n h in
        let a = both_true (both (is_change e) (eqb (page_of e) c.page)) (eqb (slot_of e) c.slot) (sym (slot_is c.page c.slot e) ∙ c.changed) in
        let b = both_true (is_change e) (eqb (page_of e) c.page) a.0 in
        let p : page_of e ≡ c.page = eqb-true (page_of e) c.page b.1 in
        let s : slot_of e ≡ c.slot = eqb-true (slot_of e) c.slot a.1 in
        true-both b.0 (ap₂ (λ (i k : ℕ). open_other xs e (newest_on slots_on i k 0 xs)) p s ∙ c.is_other)

    from : both (is_change e) (open_other xs e (newest_on slots_on (page_of e) (slot_of e) 0 xs)) ≡ true → any (clashes xs e) xs ≡ true
    from h =
        let a = both_true (is_change e) _ h in
        newest-clash slots_on same_slot sharing-one xs e
        (record {
          page = page_of e;
          slot = slot_of e;
          named = refl;
          changed = slot_is (page_of e) (slot_of e) e ∙ true-both (true-both a.0 (eq-eqb (page_of e) (page_of e) refl)) (eq-eqb (slot_of e) (slot_of e) refl);
          is_other = a.1;
        })

-- the first clash by the newest on its slot is the first clash
pub clash-first : {es : List Entry} {at stop r : ℕ} → FirstOf (ClashIn slots_on everywhere) es at stop r → FirstOf (λ xs e. any (clashes xs e) xs ≡ true) es at stop r
unfolding clashes clashes_by
clash-first f = clash-by slots_on same_slot sharing-one f

-- ---- slots in parts

-- some slots after others, each in what the ones before left
pub slots-join : {slots : ℕ → Entry → List ℕ} (R S W : ℕ → ℕ → ℕ → Bool) {es : List Entry} {at stop limit r : ℕ} → ((i k t : ℕ) → W i k t ≡ either (R i k t) (S i k t))
    → FirstOf (ClashIn slots R) es at stop limit → FirstOf (ClashIn slots S) es at limit r → FirstOf (ClashIn slots W) es at stop r
slots-join {slots} R S W w f g = first-join or left right f g
  where
    or : (xs : List Entry) (e : Entry) → (ClashIn slots R xs e → ⊥) → (ClashIn slots S xs e → ⊥) → ClashIn slots W xs e → ⊥
    or xs e a b c = go (newest_on slots c.page c.slot 0 xs) refl (R c.page c.slot (newest_on slots c.page c.slot 0 xs)) refl (sym (w c.page c.slot _) ∙ c.named)
      where
        go : (u : ℕ) → u ≡ newest_on slots c.page c.slot 0 xs → (x : Bool) → R c.page c.slot u ≡ x → either x (S c.page c.slot u) ≡ true → ⊥
        go u z true q h = a (record { page = c.page; slot = c.slot; named = rw (← z) q; changed = c.changed; is_other = c.is_other })
        go u z false q h = b (record { page = c.page; slot = c.slot; named = rw (← z) h; changed = c.changed; is_other = c.is_other })

    left : (xs : List Entry) (e : Entry) → ClashIn slots R xs e → ClashIn slots W xs e
    left xs e c = record { page = c.page; slot = c.slot; named = w c.page c.slot _ ∙ rw c.named; changed = c.changed; is_other = c.is_other }

    right : (xs : List Entry) (e : Entry) → ClashIn slots S xs e → ClashIn slots W xs e
    right xs e c = record { page = c.page; slot = c.slot; named = w c.page c.slot _ ∙ rw c.named (go (R c.page c.slot (newest_on slots c.page c.slot 0 xs))); changed = c.changed; is_other = c.is_other }
      where
        go : (x : Bool) → either x true ≡ true
        go true = refl
        go false = refl

-- parts that have every slot that an entry changes
pub slots-all : {slots : ℕ → Entry → List ℕ} (R : ℕ → ℕ → ℕ → Bool) {es : List Entry} {at stop r : ℕ}
    → ((xs : List Entry) (e : Entry) (ys : List Entry) → es ≡ xs ++ (e ∷ ys) → (i k t : ℕ) → has k (slots i e) ≡ true → R i k t ≡ true)
    → FirstOf (ClashIn slots R) es at stop r → FirstOf (ClashIn slots everywhere) es at stop r
slots-all R w f =
    record {
      low = f.low;
      none = λ xs e ys q l c. f.none xs e ys q l (record { page = c.page; slot = c.slot; named = w xs e ys q c.page c.slot _ c.changed; changed = c.changed; is_other = c.is_other });
      some = λ l. let s = f.some l in let c = s.holds in record { xs = s.xs; e = s.e; ys = s.ys; split = s.split; place = s.place; holds = record { page = c.page; slot = c.slot; named = refl; changed = c.changed; is_other = c.is_other } };
    }

-- page after page
pub pages-none : {slots : ℕ → Entry → List ℕ} (es : List Entry) (at stop : ℕ) → FirstOf (ClashIn slots (pages_below 0)) es at stop stop
pages-none es at stop = first-never es at stop (λ xs e c. false-true (sym (le-ltb c.page 0 (omega arith)) ∙ c.named))

pub pages-next : {slots : ℕ → Entry → List ℕ} (n : ℕ) {es : List Entry} {at stop limit r : ℕ} → FirstOf (ClashIn slots (pages_below n)) es at stop limit
    → FirstOf (ClashIn slots (slots_of n (λ k t. true))) es at limit r → FirstOf (ClashIn slots (pages_below (suc n))) es at stop r
pages-next n f g = slots-join (pages_below n) (slots_of n (λ k t. true)) (pages_below (suc n)) (λ i k t. go i (dec_lt i n) (ℕ_discrete i n)) f g
  where
    go : (i : ℕ) → Dec (i < n) → Dec (i ≡ n) → ltb i (suc n) ≡ either (ltb i n) (both (eqb i n) true)
    go i (yes l) d = rw (lt-ltb i (suc n) (omega arith), lt-ltb i n l)
    go i (no l) (yes d) = rw (lt-ltb i (suc n) (omega arith), le-ltb i n (omega arith), eq-eqb i n d)
    go i (no l) (no d) = rw (le-ltb i (suc n) (omega arith), le-ltb i n (omega arith), ne_eqb i n d)

-- the slots of a page in parts: windows of slots, blocks of transactions
pub page-parts : {slots : ℕ → Entry → List ℕ} (i : ℕ) (P Q W : ℕ → ℕ → Bool) {es : List Entry} {at stop limit r : ℕ} → ((k t : ℕ) → W k t ≡ either (P k t) (Q k t))
    → FirstOf (ClashIn slots (slots_of i P)) es at stop limit → FirstOf (ClashIn slots (slots_of i Q)) es at limit r → FirstOf (ClashIn slots (slots_of i W)) es at stop r
page-parts i P Q W w f g = slots-join (slots_of i P) (slots_of i Q) (slots_of i W) (λ j k t. rw (w k t) (go (eqb j i) (P k t) (Q k t))) f g
  where
    go : (a b c : Bool) → both a (either b c) ≡ either (both a b) (both a c)
    go true b c = refl
    go false b c = refl

-- ---- one page

no_slot : (f : ℕ → Bool) (ks : List ℕ) → some_slot (λ k. true) ks ≡ false → some_slot f ks ≡ false
unfolding some_slot
no_slot f [] h = refl
no_slot f (k ∷ ks) h = false-true (sym h)

-- by the place of the first ending
pub open-at : {es : List Entry} {at stop : ℕ} (E : ℕ → ℕ) (u : ℕ) → Tells (is_ending u) es at stop (E u) → (xs ys : List Entry) (e : Entry) → es ≡ xs ++ ys → at + sizes_of xs ≤ stop
    → open_at E (at + sizes_of xs) e u ≡ open_other xs e u
unfolding open_at open_other
open-at E u tell xs ys e q l = sym (rw (ended-any xs u, tell.tell xs ys q l))

-- an entry of today clashes exactly if it is a change, and the newest change before it on its slot is of another transaction, not 0, whose first ending does not stand before it
pub clash-place : {es : List Entry} (at : ℕ) (xs : List Entry) (e : Entry) (ys : List Entry) → es ≡ xs ++ (e ∷ ys) → Apart xs
    → any (clashes xs e) xs ≡ both (is_change e) (open_at (λ t. first_at (is_ending t) es at) (at + sizes_of xs) e (newest_on slots_on (page_of e) (slot_of e) 0 xs))
clash-place {es} at xs e ys q n =
    let u = newest_on slots_on (page_of e) (slot_of e) 0 xs in
    clash-one xs e n ∙ ap (both (is_change e)) (sym (open-at (λ t. first_at (is_ending t) es at) u (tells_first (is_ending u) es at (at + sizes_of xs)) xs (e ∷ ys) e q (omega arith)))

module _ (slots : ℕ → Entry → List ℕ) (E : ℕ → ℕ) (Q : ℕ → ℕ → Bool) (i : ℕ) {es : List Entry} {at stop : ℕ} (tell : (k t : ℕ) → Q k t ≡ true → Tells (is_ending t) es at stop (E t)) where
  -- one of the page's slots clashes
  here : List Entry → Entry → Bool
  here xs e = some_slot (λ k. both (Q k (newest_on slots i k 0 xs)) (open_other xs e (newest_on slots i k 0 xs))) (slots i e)

  here_in : (xs : List Entry) (e : Entry) → here xs e ≡ true → ClashIn slots (slots_of i Q) xs e
  unfolding here
  here_in xs e h =
      let s = some-slot (λ k. both (Q k (newest_on slots i k 0 xs)) (open_other xs e (newest_on slots i k 0 xs))) (slots i e) h in
      let b = both_true (Q s.slot (newest_on slots i s.slot 0 xs)) _ s.passes in
      record { page = i; slot = s.slot; named = true-both (eq-eqb i i refl) b.0; changed = s.among; is_other = b.1 }

  in-here : (xs : List Entry) (e : Entry) → ClashIn slots (slots_of i Q) xs e → here xs e ≡ true
  unfolding here
  in-here xs e c =
      let a = both_true (eqb c.page i) (Q c.slot (newest_on slots c.page c.slot 0 xs)) c.named in
      let p : c.page ≡ i = eqb-true c.page i a.0 in
      some-has (λ k. both (Q k (newest_on slots i k 0 xs)) (open_other xs e (newest_on slots i k 0 xs))) c.slot (slots i e) (ap (λ (j : ℕ). has c.slot (slots j e)) (sym p) ∙ c.changed)
      (true-both (ap (λ (j : ℕ). Q c.slot (newest_on slots j c.slot 0 xs)) (sym p) ∙ a.1) (ap (λ (j : ℕ). open_other xs e (newest_on slots j c.slot 0 xs)) (sym p) ∙ c.is_other))

  -- the test at a mark
  at_mark : (xs : List Entry) (f : Entry) (ys : List Entry) (u : ℕ → ℕ) (p : ℕ) → p ≡ at + sizes_of xs → es ≡ xs ++ (f ∷ ys) → ((k : ℕ) → u k ≡ newest_on slots i k 0 xs) → p ≤ stop
      → clash_at slots E Q i u (record { place = p; entry = f }) ≡ here xs f
  unfolding here
  at_mark xs f ys u p z q n l =
      some_same (λ k. both (Q k (u k)) (open_at E p f (u k))) (λ k. both (Q k (newest_on slots i k 0 xs)) (open_other xs f (newest_on slots i k 0 xs)))
      (λ k. ap₂ (λ (x w : ℕ). both (Q k w) (open_at E x f w)) z (n k) ∙ go k (newest_on slots i k 0 xs) (Q k (newest_on slots i k 0 xs)) refl) (slots i f)
    where
      go : (k w : ℕ) (b : Bool) → Q k w ≡ b → both (Q k w) (open_at E (at + sizes_of xs) f w) ≡ both (Q k w) (open_other xs f w)
      go k w true h = ap (both (Q k w)) (open-at E w (tell k w h) xs (f ∷ ys) f q (omega arith))
      go k w false h = rw h

  -- nothing before the entries that are left
  behind : (xs fs : List Entry) (p r : ℕ) → p ≡ at + sizes_of xs → es ≡ xs ++ fs → Clean (ClashIn slots (slots_of i Q)) xs → r ≤ p
      → (us : List Entry) (e : Entry) (ys : List Entry) → es ≡ us ++ (e ∷ ys) → at + sizes_of us < r → ClashIn slots (slots_of i Q) us e → ⊥
  behind xs fs p r z q c l us e ys h k =
      let w = within us e ys xs fs (sym h ∙ q) (omega arith) in
      c us e w.rest (w.is ∙ append_assoc us (e ∷ []) w.rest)

  -- the marks of some entries zs in front, with all that stand before stop
  module _ (zs ws : List Entry) (front : es ≡ zs ++ ws) (reach : (us : List Entry) (e : Entry) (ys : List Entry) → es ≡ us ++ (e ∷ ys) → at + sizes_of us < stop → sizes_of us < sizes_of zs) where
    walk : (xs fs : List Entry) (p : ℕ) (u : ℕ → ℕ) → p ≡ at + sizes_of xs → zs ≡ xs ++ fs → ((k : ℕ) → u k ≡ newest_on slots i k 0 xs) → Clean (ClashIn slots (slots_of i Q)) xs
        → FirstOf (ClashIn slots (slots_of i Q)) es at stop (clash_walk slots E Q i stop u (marks_on slots i fs p))
    unfolding clash_walk marks_on here
    walk xs [] p u z q n c =
        let whole : zs ≡ xs = q ∙ append-nil xs in
        let long : sizes_of zs ≡ sizes_of xs = ap sizes_of whole in
        record {
          low = omega arith;
          none = λ us e ys h l. behind xs ws p p z (front ∙ ap (λ (x : List Entry). x ++ ws) whole) c (omega arith) us e ys h (omega (arith, reach us e ys h l));
          some = λ l. absurd (omega arith);
        }
    walk xs (f ∷ fs) p u z q n c =
        touching (some_slot (λ k. true) (slots i f)) refl
        (λ w x y. walk (xs ++ (f ∷ [])) fs (p + size_of f) w (omega (arith, sizes-append xs (f ∷ []))) (q ∙ sym (append_assoc xs (f ∷ []) fs)) x (clean-snoc (ClashIn slots (slots_of i Q)) xs f c y))
      where
        all : es ≡ xs ++ (f ∷ (fs ++ ws))
        all = front ∙ ap (λ (x : List Entry). x ++ ws) q ∙ append_assoc xs (f ∷ fs) ws

        touching : (b : Bool) → some_slot (λ k. true) (slots i f) ≡ b
            → ((w : ℕ → ℕ) → ((k : ℕ) → w k ≡ newest_on slots i k 0 (xs ++ (f ∷ []))) → (ClashIn slots (slots_of i Q) xs f → ⊥) → FirstOf (ClashIn slots (slots_of i Q)) es at stop (clash_walk slots E Q i stop w (marks_on slots i fs (p + size_of f))))
            → FirstOf (ClashIn slots (slots_of i Q)) es at stop (clash_walk slots E Q i stop u (cons_if b (record { place = p; entry = f }) (marks_on slots i fs (p + size_of f))))
        touching false t more = more u (λ k. n k ∙ sym (newest-snoc slots i k xs f ∙ rw (no_slot (λ l. eqb l k) (slots i f) t))) (λ y. false-true (sym (no_slot _ (slots i f) t) ∙ in-here xs f y))
        touching true t more = reached (leb stop p) refl
          where
            reached : (b : Bool) → leb stop p ≡ b
                → FirstOf (ClashIn slots (slots_of i Q)) es at stop (pick b stop (pick (clash_at slots E Q i u (record { place = p; entry = f })) p (clash_walk slots E Q i stop (noted slots i u (record { place = p; entry = f })) (marks_on slots i fs (p + size_of f)))))
            reached true x = record { low = omega arith; none = behind xs (f ∷ (fs ++ ws)) p stop z all c (leb-true stop p x); some = λ l. absurd (omega arith) }
            reached false x = clashing (here xs f) refl (at_mark xs f (fs ++ ws) u p z all n (omega (arith, leb-false stop p x)))
              where
                clashing : (b : Bool) → here xs f ≡ b → clash_at slots E Q i u (record { place = p; entry = f }) ≡ here xs f
                    → FirstOf (ClashIn slots (slots_of i Q)) es at stop (pick (clash_at slots E Q i u (record { place = p; entry = f })) p (clash_walk slots E Q i stop (noted slots i u (record { place = p; entry = f })) (marks_on slots i fs (p + size_of f))))
                clashing true y m =
                    rw (m ∙ y)
                    (record {
                      low = omega (arith, leb-false stop p x);
                      none = behind xs (f ∷ (fs ++ ws)) p p z all c (omega arith);
                      some = λ l. record { xs = xs; e = f; ys = fs ++ ws; split = all; place = z; holds = here_in xs f y };
                    })
                clashing false y m =
                    rw (m ∙ y)
                    (more (noted slots i u (record { place = p; entry = f })) (λ k. ap (λ (w : ℕ). pick (has k (slots i f)) f.txn w) (n k) ∙ sym (newest-snoc slots i k xs f)) (λ d. false-true (sym y ∙ in-here xs f d)))

    -- the walk over a page's changes in front finds the first clash on the page
    pub front-walk : FirstOf (ClashIn slots (slots_of i Q)) es at stop (clash_walk slots E Q i stop (λ k. 0) (marks_on slots i zs at))
    unfolding newest_on
    front-walk = walk [] zs at (λ k. 0) (omega arith) refl (λ k. refl) (λ us f bs q. absurd (omega (arith, ap sizes_of q, sizes-append us (f ∷ bs))))

  -- and so does the walk over all of them
  pub page-walk : FirstOf (ClashIn slots (slots_of i Q)) es at stop (clash_walk slots E Q i stop (λ k. 0) (marks_on slots i es at))
  page-walk = front-walk es [] (sym (append-nil es)) (λ us e ys q l. omega (arith, ap sizes_of q, sizes-append us (e ∷ ys)))
