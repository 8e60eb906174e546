-- The verdict on the order rules is the least of what each rule by itself finds; rules may be searched for one after another, each as far as it is of interest.
-- Assumes nothing.
use mathlib.Core.Path.{◌≡◌, refl, sym, ap, ◌∙◌, subst}
use mathlib.Core.Bool.{Bool, true, false}
use Prim.Native.Nat.{ℕ, suc, ◌+◌, ◌≤◌, ◌<◌}
use native.Mathlib.Omega.{arith}
use native.Mathlib.Decide.{ℕ_discrete}
use mathlib.Core.List.{List, [], ◌∷◌, ◌++◌}
use lib.Dec.{ltb, eqb}
use borrow.Author.Tests.{lt-ltb, ne_eqb}
use Rattle.endian.specs.Pick.{pick}
use Rattle.wal.specs.Entry.{Entry, size_of, sizes_of}
use Rattle.refusals.specs.declared.Verdict.{Verdict}
use Rattle.rules.specs.Shape.{both, is_known, is_shaped}
use Rattle.rules.specs.Order.{any, count, is_begin, last_lsn, in_order, clashes, fault_after, or_else, order_from}
use Rattle.rules.proofs.Tests.{false-true, into, past}
use Rattle.rules.proofs.OrderLaws.{passes}
use Rattle.firsts.specs.First.{FirstOf}
use Rattle.firsts.specs.Judge.{verdict_from, Judged, stop_for, narrowed, Breaks, unknown, unshaped, unrisen, unordered, clashing, unrecorded, Only, own, plain_fault, but_order, but_clash, all_rules}
use Rattle.firsts.proofs.Judging.{Least, judged-from, judged-one, judged-more}

module _ (full : ℕ → Bool) where
  -- ---- one entry

  rise : (xs : List Entry) (e : Entry) → last_lsn xs < e.lsn → ltb (last_lsn xs) e.lsn ≡ false → ⊥
  rise xs e h q = false-true (sym q ∙ lt-ltb (last_lsn xs) e.lsn h)

  no-fault : (xs : List Entry) (e : Entry) → fault_after full xs e ≡ 0 → (n : ℕ) → Breaks full xs e n → ⊥
  no-fault xs e h n (unknown q) = false-true (sym q ∙ (passes full xs e h).known)
  no-fault xs e h n (unshaped q) = false-true (sym q ∙ (passes full xs e h).shaped)
  no-fault xs e h n (unrisen q) = rise xs e (passes full xs e h).rises q
  no-fault xs e h n (unordered q) = false-true (sym q ∙ (passes full xs e h).ordered)
  no-fault xs e h n (clashing q) = false-true (sym (passes full xs e h).apart ∙ q)
  no-fault xs e h n (unrecorded q) = false-true (sym (passes full xs e h).room ∙ q)

  the-fault : (xs : List Entry) (e : Entry) (n : ℕ) → fault_after full xs e ≡ suc n → Breaks full xs e (suc n)
  unfolding fault_after
  the-fault xs e n =
      go (is_known e.kind) refl (is_shaped e) refl (ltb (last_lsn xs) e.lsn) refl (in_order xs e) refl (any (clashes xs e) xs) refl (both (is_begin e) (full (count is_begin xs))) refl
    where
      go : (k : Bool) → is_known e.kind ≡ k → (s : Bool) → is_shaped e ≡ s → (l : Bool) → ltb (last_lsn xs) e.lsn ≡ l → (o : Bool) → in_order xs e ≡ o → (c : Bool) → any (clashes xs e) xs ≡ c
          → (r : Bool) → both (is_begin e) (full (count is_begin xs)) ≡ r → pick k (pick s (pick l (pick o (pick c 9 (pick r 10 0)) 8) 7) 6) 5 ≡ suc n → Breaks full xs e (suc n)
      go false k s t l m o p c d r q h = subst (Breaks full xs e) h (unknown k)
      go true k false t l m o p c d r q h = subst (Breaks full xs e) h (unshaped t)
      go true k true t false m o p c d r q h = subst (Breaks full xs e) h (unrisen m)
      go true k true t true m false p c d r q h = subst (Breaks full xs e) h (unordered p)
      go true k true t true m true p true d r q h = subst (Breaks full xs e) h (clashing d)
      go true k true t true m true p false d true q h = subst (Breaks full xs e) h (unrecorded q)
      go true k true t true m true p false d false q h = absurd (omega arith)

  below : (k s l o c r : Bool) → (pick {A = ℕ} k (pick s (pick l (pick o (pick c 9 (pick r 10 0)) 8) 7) 6) 5 ≤ 10)
  below false s l o c r = omega arith
  below true false l o c r = omega arith
  below true true false o c r = omega arith
  below true true true false c r = omega arith
  below true true true true true r = omega arith
  below true true true true false true = omega arith
  below true true true true false false = omega arith

  fault-le : (xs : List Entry) (e : Entry) (n : ℕ) → Breaks full xs e n → fault_after full xs e ≤ n
  unfolding fault_after
  fault-le xs e n (unknown q) = rw q (omega arith)
  fault-le xs e n (unshaped q) = rw q (go (is_known e.kind))
    where
      go : (k : Bool) → pick {A = ℕ} k 6 5 ≤ 6
      go true = omega arith
      go false = omega arith
  fault-le xs e n (unrisen q) = rw q (go (is_known e.kind) (is_shaped e))
    where
      go : (k s : Bool) → pick {A = ℕ} k (pick s 7 6) 5 ≤ 7
      go true true = omega arith
      go true false = omega arith
      go false s = omega arith
  fault-le xs e n (unordered q) = rw q (go (is_known e.kind) (is_shaped e) (ltb (last_lsn xs) e.lsn))
    where
      go : (k s l : Bool) → pick {A = ℕ} k (pick s (pick l 8 7) 6) 5 ≤ 8
      go true true true = omega arith
      go true true false = omega arith
      go true false l = omega arith
      go false s l = omega arith
  fault-le xs e n (clashing q) = rw q (go (is_known e.kind) (is_shaped e) (ltb (last_lsn xs) e.lsn) (in_order xs e))
    where
      go : (k s l o : Bool) → pick {A = ℕ} k (pick s (pick l (pick o 9 8) 7) 6) 5 ≤ 9
      go true true true true = omega arith
      go true true true false = omega arith
      go true true false o = omega arith
      go true false l o = omega arith
      go false s l o = omega arith
  fault-le xs e n (unrecorded q) = below (is_known e.kind) (is_shaped e) (ltb (last_lsn xs) e.lsn) (in_order xs e) (any (clashes xs e) xs) (both (is_begin e) (full (count is_begin xs)))

  least-fault : Least own (Only full all_rules) (fault_after full)
  least-fault =
      record {
        free = λ xs e h n b. no-fault xs e h n b.1;
        here = λ xs e n h. (refl, the-fault xs e n h);
        least = λ xs e m n h l b. omega (arith, fault-le xs e m b.1);
      }

  -- ---- 5, 6, 7 and 10

  least-plain : Least own (Only full but_order) (plain_fault full)
  unfolding plain_fault
  least-plain = record { free = free; here = here; least = λ xs e m n h l b. omega (arith, le xs e m b) }
    where
      free : (xs : List Entry) (e : Entry) → plain_fault full xs e ≡ 0 → (n : ℕ) → Only full but_order n xs e → ⊥
      free xs e h n b =
          let k = into (is_known e.kind) (λ z. omega arith) h in
          let s = into (is_shaped e) (λ z. omega arith) k.1 in
          let l = into (ltb (last_lsn xs) e.lsn) (λ z. omega arith) s.1 in
          let r = past (both (is_begin e) (full (count is_begin xs))) (λ z. omega arith) l.1 in
          go n b.0 b.1 k.0 s.0 l.0 r.0
        where
          go : (n : ℕ) → but_order n ≡ true → Breaks full xs e n → is_known e.kind ≡ true → is_shaped e ≡ true → ltb (last_lsn xs) e.lsn ≡ true → both (is_begin e) (full (count is_begin xs)) ≡ false → ⊥
          go n i (unknown q) k s l r = false-true (sym q ∙ k)
          go n i (unshaped q) k s l r = false-true (sym q ∙ s)
          go n i (unrisen q) k s l r = false-true (sym q ∙ l)
          go n i (unordered q) k s l r = false-true i
          go n i (clashing q) k s l r = false-true i
          go n i (unrecorded q) k s l r = false-true (sym r ∙ q)

      here : (xs : List Entry) (e : Entry) (n : ℕ) → plain_fault full xs e ≡ suc n → Only full but_order (suc n) xs e
      here xs e n = go (is_known e.kind) refl (is_shaped e) refl (ltb (last_lsn xs) e.lsn) refl (both (is_begin e) (full (count is_begin xs))) refl
        where
          go : (k : Bool) → is_known e.kind ≡ k → (s : Bool) → is_shaped e ≡ s → (l : Bool) → ltb (last_lsn xs) e.lsn ≡ l
              → (r : Bool) → both (is_begin e) (full (count is_begin xs)) ≡ r → pick k (pick s (pick l (pick r 10 0) 7) 6) 5 ≡ suc n → Only full but_order (suc n) xs e
          go false k s t l m r q h = subst (λ (x : ℕ). Only full but_order x xs e) h (refl, unknown k)
          go true k false t l m r q h = subst (λ (x : ℕ). Only full but_order x xs e) h (refl, unshaped t)
          go true k true t false m r q h = subst (λ (x : ℕ). Only full but_order x xs e) h (refl, unrisen m)
          go true k true t true m true q h = subst (λ (x : ℕ). Only full but_order x xs e) h (refl, unrecorded q)
          go true k true t true m false q h = absurd (omega arith)

      le : (xs : List Entry) (e : Entry) (n : ℕ) → Only full but_order n xs e → plain_fault full xs e ≤ n
      le xs e n b = go n b.0 b.1
        where
          two : (k : Bool) → pick {A = ℕ} k 6 5 ≤ 6
          two true = omega arith
          two false = omega arith

          three : (k s : Bool) → pick {A = ℕ} k (pick s 7 6) 5 ≤ 7
          three true true = omega arith
          three true false = omega arith
          three false s = omega arith

          four : (k s l r : Bool) → pick {A = ℕ} k (pick s (pick l (pick r 10 0) 7) 6) 5 ≤ 10
          four true true true true = omega arith
          four true true true false = omega arith
          four true true false r = omega arith
          four true false l r = omega arith
          four false s l r = omega arith

          go : (n : ℕ) → but_order n ≡ true → Breaks full xs e n → plain_fault full xs e ≤ n
          go n i (unknown q) = rw q (omega arith)
          go n i (unshaped q) = rw q (two (is_known e.kind))
          go n i (unrisen q) = rw q (three (is_known e.kind) (is_shaped e))
          go n i (unordered q) = false-true i
          go n i (clashing q) = false-true i
          go n i (unrecorded q) = four (is_known e.kind) (is_shaped e) (ltb (last_lsn xs) e.lsn) (both (is_begin e) (full (count is_begin xs)))

  -- ---- the verdict

  order-fold : (es fs : List Entry) (at : ℕ) → order_from full es fs at ≡ verdict_from (fault_after full) es fs at
  unfolding order_from verdict_from
  order-fold es [] at = refl
  order-fold es (f ∷ fs) at = ap (or_else (fault_after full es f) at) (order-fold (es ++ (f ∷ [])) fs (at + size_of f))

  -- the verdict is the least of the faults
  pub order-judged : (es : List Entry) (at : ℕ) → Judged own (Only full all_rules) es at (order_from full [] es at)
  order-judged es at = rw (order-fold [] es at) (judged-from own (Only full all_rules) (fault_after full) least-fault es at)

  -- and what is the least of them is the verdict
  pub order-verdict : {es : List Entry} {at : ℕ} {v : Verdict} → Judged own (Only full all_rules) es at v → order_from full [] es at ≡ v
  order-verdict {es} {at} j = judged-one own (Only full all_rules) (λ m n xs e a b q. q) (order-judged es at) j

  -- the first walk: 5, 6, 7 and 10
  pub plain-judged : (es : List Entry) (at : ℕ) → Judged own (Only full but_order) es at (verdict_from (plain_fault full) [] es at)
  plain-judged es at = judged-from own (Only full but_order) (plain_fault full) least-plain es at

  -- then a search for any rule, in any order
  pub rule-next : (K L : ℕ → Bool) (n : ℕ) → (n ≡ 0 → ⊥) → L n ≡ true → ((m : ℕ) → K m ≡ true → L m ≡ true) → ((m : ℕ) → (m ≡ n → ⊥) → L m ≡ true → K m ≡ true)
      → {es : List Entry} {at end r : ℕ} {v : Verdict} → Judged own (Only full K) es at v → at + sizes_of es ≤ end → FirstOf (λ xs e. Breaks full xs e n) es at (stop_for own end n v) r
      → Judged own (Only full L) es at (narrowed own end n r v)
  rule-next K L n some l up down {es} {at} {end} {r} j whole f = judged-more n some or (λ m xs e b. (up m b.0, b.1)) (λ xs e b. (l, b)) j whole f
    where
      or : (m : ℕ) (xs : List Entry) (e : Entry) → (Only full K m xs e → ⊥) → (m ≡ n → Breaks full xs e n → ⊥) → Only full L m xs e → ⊥
      or m xs e a b h = go (ℕ_discrete m n)
        where
          go : Dec (m ≡ n) → ⊥
          go (yes q) = b q (subst (Breaks full xs e) q h.1)
          go (no q) = a (down m q h.0, h.1)

  first-map : {T U : List Entry → Entry → Type 0} {es : List Entry} {at stop r : ℕ} → ((xs : List Entry) (e : Entry) → T xs e → U xs e) → ((xs : List Entry) (e : Entry) → U xs e → T xs e)
      → FirstOf T es at stop r → FirstOf U es at stop r
  first-map to from f =
      record {
        low = f.low;
        none = λ xs e ys q l h. f.none xs e ys q l (from xs e h);
        some = λ l. let s = f.some l in record { xs = s.xs; e = s.e; ys = s.ys; split = s.split; place = s.place; holds = to s.xs s.e s.holds };
      }

  -- 8 after 5, 6, 7 and 10
  pub order-next : {es : List Entry} {at end r : ℕ} {v : Verdict} → Judged own (Only full but_order) es at v → at + sizes_of es ≤ end
      → FirstOf (λ xs e. in_order xs e ≡ false) es at (stop_for own end 8 v) r → Judged own (Only full but_clash) es at (narrowed own end 8 r v)
  order-next j whole f = rule-next but_order but_clash 8 (λ z. omega arith) refl up down j whole (first-map (λ xs e h. unordered h) from f)
    where
      from : (xs : List Entry) (e : Entry) → Breaks full xs e 8 → in_order xs e ≡ false
      from xs e (unordered q) = q

      up : (m : ℕ) → but_order m ≡ true → but_clash m ≡ true
      up m h = (past (eqb m 8) (λ z. false-true z) h).1

      down : (m : ℕ) → (m ≡ 8 → ⊥) → but_clash m ≡ true → but_order m ≡ true
      down m n h = rw (ne_eqb m 8 n) h

  -- 9 after all others: the verdict
  pub clash-next : {es : List Entry} {at end r : ℕ} {v : Verdict} → Judged own (Only full but_clash) es at v → at + sizes_of es ≤ end
      → FirstOf (λ xs e. any (clashes xs e) xs ≡ true) es at (stop_for own end 9 v) r → order_from full [] es at ≡ narrowed own end 9 r v
  clash-next j whole f = order-verdict (rule-next but_clash all_rules 9 (λ z. omega arith) refl (λ m h. refl) down j whole (first-map (λ xs e h. clashing h) from f))
    where
      from : (xs : List Entry) (e : Entry) → Breaks full xs e 9 → any (clashes xs e) xs ≡ true
      from xs e (clashing q) = q

      down : (m : ℕ) → (m ≡ 9 → ⊥) → all_rules m ≡ true → but_clash m ≡ true
      down m n h = rw (ne_eqb m 9 n)
