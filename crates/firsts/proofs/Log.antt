-- Firsts of a log's entries, by the places that its walk comes by.
-- Assumes nothing.
use Prim.Native.Nat.{ℕ, ◌+◌, ◌≤◌, ◌<◌}
use mathlib.Core.Path.{◌≡◌, sym, ap, ◌∙◌, subst}
use mathlib.Core.List.{List, [], ◌∷◌, ◌++◌, append_assoc, append-nil}
use mathlib.Core.Bool.{Bool, true}
use native.Mathlib.Omega.{arith}
use lib.Dec.{ltb, eqb}
use Rattle.endian.specs.Pick.{pick, cons_if}
use Rattle.wal.specs.Entry.{Entry, size_of, sizes_of, begin}
use Rattle.wal.specs.Read.{length_at}
use Rattle.wal.specs.Walk.{entries, end_of}
use Rattle.wal.specs.Prefix.{Met, Stands, said, before, onward}
use Rattle.wal.proofs.Places.{size-of}
use Rattle.wal.proofs.Prefix.{Along, start, more, along, stands_at, met-first, met_next, met-below, met-end, met-split, before-first, before-next, before-end, onward-first, onward-next}
use Rattle.rules.specs.Order.{any, is}
use Rattle.firsts.specs.First.{places_of, is_ending, Tells, FirstOf}
use Rattle.firsts.specs.Tests.{begin_right, end_right, begin_test, end_test}
use Rattle.firsts.specs.Clash.{some_slot, marks_on, open_other, open_at}
use Rattle.firsts.proofs.FirstLaws.{sizes-append, tells-of, first-zero}
use Rattle.firsts.proofs.Orders.{begin-test, end_test_lem}
use Rattle.firsts.proofs.Clashes.{open-at}
use Rattle.firsts.proofs.Walks.{places-snoc, marks-snoc}

module _ (s : List ℕ) where
  -- a place is where the sizes of the entries before it lead
  place-along : {p : ℕ} → Along s p → p ≡ 32 + sizes_of (before s p)
  place-along start = rw (before-first s)
  place-along {p} (more {p = q} w m h e) =
      let k = stands_at h in
      let z : sizes_of (before s p) ≡ sizes_of (before s q) + size_of (said s q) = ap (λ (x : ℕ). sizes_of (before s x)) e ∙ ap sizes_of (before-next s m h) ∙ sizes-append (before s q) (said s q ∷ []) ∙ omega arith in
      let n : size_of (said s q) ≡ length_at s q = size-of k ∙ sym k.front in
      omega (arith, place-along w)

  pub place_is : {p : ℕ} → Met s p → p ≡ 32 + sizes_of (before s p)
  place_is m = place-along (along m)

  pub end_is : end_of s ≡ 32 + sizes_of (entries s)
  end_is = place_is (met-end s) ∙ ap (λ (l : List Entry). 32 + sizes_of l) (before-end s)

  -- an entry of the log stands at a place of the walk
  pub record At (xs : List Entry) (e : Entry) : Type 0 where
    pub met : Met s (32 + sizes_of xs)
    pub stands : Stands s (32 + sizes_of xs)
    pub front : before s (32 + sizes_of xs) ≡ xs
    pub entry : said s (32 + sizes_of xs) ≡ e

  still : {p : ℕ} (d : Entry) (l : List Entry) → Met s p → onward s p ≡ d ∷ l → Stands s p
  still {p} d l m q =
      let a : sizes_of (entries s) ≡ sizes_of (before s p) + sizes_of (d ∷ l) = ap sizes_of (met-split s m ∙ ap (λ (x : List Entry). before s p ++ x) q) ∙ sizes-append (before s p) (d ∷ l) in
      (met-below s m (met-end s) (omega (arith, place_is m, end_is))).stands

  go-along : (done todo : List Entry) (e : Entry) (ys : List Entry) (p : ℕ) → Met s p → before s p ≡ done → onward s p ≡ todo ++ (e ∷ ys) → At (done ++ todo) e
  go-along done [] e ys p m b o =
      let h = still e ys m o in
      let z : said s p ∷ onward s (p + length_at s p) ≡ e ∷ ys = sym (onward-next s h) ∙ o in
      let k : said s p ≡ e = cc in
      let n : p ≡ 32 + sizes_of (done ++ []) = place_is m ∙ ap (λ (l : List Entry). 32 + sizes_of l) (b ∙ sym (append-nil done)) in
      record { met = subst (Met s) n m; stands = subst (Stands s) n h; front = ap (before s) (sym n) ∙ b ∙ sym (append-nil done); entry = ap (said s) (sym n) ∙ k }
  go-along done (d ∷ todo) e ys p m b o =
      let h = still d (todo ++ (e ∷ ys)) m o in
      let z : said s p ∷ onward s (p + length_at s p) ≡ d ∷ (todo ++ (e ∷ ys)) = sym (onward-next s h) ∙ o in
      let k : said s p ≡ d = cc in
      let l : onward s (p + length_at s p) ≡ todo ++ (e ∷ ys) = cc in
      let a : (done ++ (d ∷ [])) ++ todo ≡ done ++ (d ∷ todo) = append_assoc done (d ∷ []) todo in
      subst (λ (x : List Entry). At x e) a
      (go-along (done ++ (d ∷ [])) todo e ys (p + length_at s p) (met_next s m h) (before-next s m h ∙ ap (λ (x : List Entry). x ++ (said s p ∷ [])) b ∙ ap (λ (x : Entry). done ++ (x ∷ [])) k) l)

  pub at_split : (xs : List Entry) (e : Entry) (ys : List Entry) → entries s ≡ xs ++ (e ∷ ys) → At xs e
  at_split xs e ys q = go-along [] xs e ys 32 (met-first s) (before-first s) (onward-first s ∙ q)

  -- the other way
  pub split_at : {p : ℕ} → Met s p → Stands s p → entries s ≡ before s p ++ (said s p ∷ onward s (p + length_at s p))
  split_at {p} m h = met-split s m ∙ ap (λ (l : List Entry). before s p ++ l) (onward-next s h)

  -- a first by the places of the walk
  pub record Here (T : List Entry → Entry → Type 0) (r : ℕ) : Type 0 where
    pub met : Met s r
    pub stands : Stands s r
    pub holds : T (before s r) (said s r)

  module _ {T : List Entry → Entry → Type 0} {stop r : ℕ} where
    pub first-log : r ≤ stop → ((p : ℕ) → Met s p → Stands s p → p < r → T (before s p) (said s p) → ⊥) → (r < stop → Here T r) → FirstOf T (entries s) 32 stop r
    first-log low none some =
        record {
          low = low;
          none = λ xs e ys q l t. let a = at_split xs e ys q in none (32 + sizes_of xs) a.met a.stands l (subst (λ (x : List Entry). T x (said s (32 + sizes_of xs))) (sym a.front) (subst (T xs) (sym a.entry) t));
          some = λ l. let h = some l in record { xs = before s r; e = said s r; ys = onward s (r + length_at s r); split = split_at h.met h.stands; place = place_is h.met; holds = h.holds };
        }

    module _ (f : FirstOf T (entries s) 32 stop r) where
      pub log-none : (p : ℕ) → Met s p → Stands s p → p < r → T (before s p) (said s p) → ⊥
      log-none p m h l = f.none (before s p) (said s p) (onward s (p + length_at s p)) (split_at m h) (omega (arith, place_is m))

      pub log-some : r < stop → Here T r
      log-some l =
          let k = f.some l in
          let a = at_split k.xs k.e k.ys k.split in
          let z : 32 + sizes_of k.xs ≡ r = sym k.place in
          subst (Here T) z (record { met = a.met; stands = a.stands; holds = subst (λ (x : List Entry). T x (said s (32 + sizes_of k.xs))) (sym a.front) (subst (T k.xs) (sym a.entry) k.holds) })

  -- ---- at a place of the walk

  -- what a first place tells there
  pub told_at : {f : Entry → Bool} {stop b p : ℕ} → Tells f (entries s) 32 stop b → Met s p → p ≤ stop → any f (before s p) ≡ ltb b p
  told_at {f} {stop} {b} {p} k m h = k.tell (before s p) (onward s p) (met-split s m) (omega (arith, place_is m)) ∙ ap (ltb b) (sym (place_is m))

  pub begin-at : {stop b p : ℕ} (e : Entry) → Tells (is begin e.txn) (entries s) 32 stop b → Met s p → p ≤ stop → begin_right (before s p) e ≡ begin_test b p e
  begin-at {stop} {b} {p} e k m h = begin-test (before s p) (onward s p) e (met-split s m) (omega (arith, place_is m)) k ∙ ap (λ (x : ℕ). begin_test b x e) (sym (place_is m))

  pub end-at : {stop b p : ℕ} (e : Entry) → Tells (is_ending e.txn) (entries s) 32 stop b → Met s p → p ≤ stop → end_right (before s p) e ≡ end_test b p e
  end-at {stop} {b} {p} e k m h = end_test_lem (before s p) (onward s p) e (met-split s m) (omega (arith, place_is m)) k ∙ ap (λ (x : ℕ). end_test b x e) (sym (place_is m))

  pub open-here : {stop p : ℕ} (E : ℕ → ℕ) (u : ℕ) (e : Entry) → Tells (is_ending u) (entries s) 32 stop (E u) → Met s p → p ≤ stop → open_at E p e u ≡ open_other (before s p) e u
  open-here {stop} {p} E u e k m h = ap (λ (x : ℕ). open_at E x e u) (place_is m) ∙ open-at E u k (before s p) (onward s p) e (met-split s m) (omega (arith, place_is m))

  -- an index that finds the first of the places before stop where f holds, or 0 where there is none
  pub tells-index : (f : Entry → Bool) (stop q : ℕ) → ((q ≡ 0 → ⊥) → (q < stop) × Here (λ xs e. f e ≡ true) q)
      → ((p : ℕ) → Met s p → Stands s p → p < stop → f (said s p) ≡ true → (q ≡ 0 → ⊥) × (q ≤ p)) → Tells f (entries s) 32 stop (pick (eqb q 0) stop q)
  tells-index f stop q found least =
      tells-of f
      (first-zero
      (λ n. let h = (found n).1 in ((found n).0, record { xs = before s q; e = said s q; ys = onward s (q + length_at s q); split = split_at h.met h.stands; place = place_is h.met; holds = h.holds }))
      (λ xs e ys p l t. let a = at_split xs e ys p in least (32 + sizes_of xs) a.met a.stands l (ap f a.entry ∙ t)))

  -- the changes of a page after one entry more
  pub marks-next : (slots : ℕ → Entry → List ℕ) (i : ℕ) {p : ℕ} → Met s p → Stands s p
      → marks_on slots i (before s (p + length_at s p)) 32 ≡ marks_on slots i (before s p) 32 ++ cons_if (some_slot (λ k. true) (slots i (said s p))) (record { place = p; entry = said s p }) []
  marks-next slots i {p} m h =
      ap (λ (l : List Entry). marks_on slots i l 32) (before-next s m h) ∙ marks-snoc slots i (before s p) (said s p) 32
      ∙ ap (λ (x : ℕ). marks_on slots i (before s p) 32 ++ cons_if (some_slot (λ k. true) (slots i (said s p))) (record { place = x; entry = said s p }) []) (sym (place_is m))

  -- the places that pass after one entry more
  pub places-next : (f : Entry → Bool) {p : ℕ} → Met s p → Stands s p → places_of f (before s (p + length_at s p)) 32 ≡ places_of f (before s p) 32 ++ cons_if (f (said s p)) p []
  places-next f {p} m h =
      ap (λ (l : List Entry). places_of f l 32) (before-next s m h) ∙ places-snoc f (before s p) (said s p) 32
      ∙ ap (λ (x : ℕ). places_of f (before s p) 32 ++ cons_if (f (said s p)) x []) (sym (place_is m))

  pub places-first : (f : Entry → Bool) → places_of f (before s 32) 32 ≡ []
  unfolding places_of
  places-first f = rw (before-first s)
