-- What is kept of open transactions at the first place, and after one entry more; the clashes that it rules out. Assumes nothing.
use Prim.Native.Nat.{ℕ, ◌+◌, ◌-◌, ◌%◌, ◌≤◌, ◌<◌}
use mathlib.Core.Path.{◌≡◌, refl, sym, ap, ◌∙◌}
use mathlib.Core.Bool.{true, false}
use mathlib.Core.List.{List}
use native.Mathlib.Omega.{arith}
use native.Mathlib.Decide.{ℕ_discrete}
use lib.ListN.{length, get_or, set, replicate, get_or-replicate, length-replicate, length-set}
use lib.Seq.{get_or-set_same, get_or-set_other}
use lib.Dec.{ltb, eqb}
use borrow.Author.Tests.{ltb-true, eqb-true, lt-ltb, le-ltb, eq-eqb, ne_eqb}
use Rattle.endian.specs.Numbers.{number_at}
use Rattle.wal.specs.Entry.{Entry}
use Rattle.wal.specs.Read.{length_at}
use Rattle.wal.specs.Prefix.{Met, Stands, said, before}
use Rattle.wal.proofs.Prefix.{stands_at, before-first}
use Rattle.rules.specs.Shape.{either, is_change, page_of, slot_of}
use Rattle.rules.proofs.Tests.{both_true, false-true}
use Rattle.states.specs.State.{state_after, state_from, state_of}
use Rattle.states.specs.Clash.{clash_after}
use Rattle.states.proofs.Back.{said-txn, state-own, state-keeps}
use Rattle.clash.specs.Newest.{newest_on, kept, Newest}
use Rattle.clash.specs.Open.{is_of, Open, Opens, Quiet}
use Rattle.clash.proofs.NewestLaws.{clash-none, clash-own, clash-state, kept-none, kept-rest}

-- what is kept, by the two places
as-told : {s : List ℕ} {at r v w v2 w2 : ℕ} → v2 ≡ v → w2 ≡ w → Open s at r v w → Open s at r v2 w2
as-told e f o = rw (e, f) o

open-first : (s : List ℕ) (r : ℕ) → Open s 32 r 0 0
unfolding state_from is_of
open-first s r =
    record {
      within = λ l. absurd (omega arith);
      within2 = λ l. absurd (omega arith);
      tells = λ n t p q. ap (λ (es : List Entry). eqb (state_of t es) 1) (before-first s);
      apart = λ t h. refl;
    }

pub opens-first : (s : List ℕ) → Opens s 32 (replicate 32766 0)
opens-first s =
    record {
      long = length-replicate {0} {A = ℕ} 32766 0;
      tell = λ r h. as-told (get_or-replicate 32766 r 0 0 (omega arith)) (get_or-replicate 32766 (r + 16383) 0 0 (omega arith)) (open-first s r);
    }

-- ---- whose entry it is
module _ (s : List ℕ) (t v : ℕ) where
  pub of_none : v ≤ 1 → is_of s t v ≡ false
  unfolding is_of
  of_none h = rw (le-ltb 1 v h)

  pub of-place : 1 < v → is_of s t v ≡ eqb (number_at 8 (v + 12) s) t
  unfolding is_of
  of-place h = rw (lt-ltb 1 v h)

  of-high : is_of s t v ≡ true → 1 < v
  unfolding is_of
  of-high h = ltb-true _ _ (both_true (ltb 1 v) _ h).0

  -- an entry is of one transaction only
  of_other : (u : ℕ) → (t ≡ u → ⊥) → is_of s t v ≡ true → is_of s u v ≡ false
  unfolding is_of
  of_other u n h =
      let b = both_true (ltb 1 v) _ h in
      rw (b.0, ne_eqb (number_at 8 (v + 12) s) u (λ e. n (sym (eqb-true _ _ b.1) ∙ e)))

-- ---- an entry more
module _ {s : List ℕ} {at : ℕ} (m : Met s at) (h : Stands s at) where
  -- what is kept of transactions other than the entry's stays
  open-other : {r v w : ℕ} → ((t : ℕ) → 0 < t → t % 16383 ≡ r → (said s at).txn ≡ t → ⊥) → Open s at r v w → Open s (at + length_at s at) r v w
  open-other n k =
      record {
        within = k.within;
        within2 = k.within2;
        tells = λ o t p q. ap (λ (x : ℕ). eqb x 1) (state-keeps s at m h t (n t p q)) ∙ k.tells o t p q;
        apart = k.apart;
      }

  -- where no place is free nothing is told any more
  pub open-many : {r v w : ℕ} → Open s at r v w → Open s (at + length_at s at) r 1 w
  open-many k =
      record {
        within = λ l. absurd (omega arith);
        within2 = k.within2;
        tells = λ n. absurd (n refl);
        apart = λ u y. false-true (sym (of_none s u 1 (omega arith)) ∙ y);
      }

  module _ {t : ℕ} (is : t ≡ (said s at).txn) where
    of-own : is_of s t at ≡ true
    of-own = of-place s t at (omega (arith, (stands_at h).from)) ∙ eq-eqb _ _ (sym (said-txn s at) ∙ sym is)

    -- of other transactions a place tells what it told: where the entry takes a free one, and where its transaction leaves its own
    abbrev Same : ℕ → ℕ → Type 0
    Same v v2 = (u : ℕ) → (t ≡ u → ⊥) → is_of s u v2 ≡ is_of s u v

    same_new : (v : ℕ) → v ≡ 0 → Same v at
    same_new v z u n = of_other s t at u n of-own ∙ sym (of_none s u v (omega arith))

    same-free : (v : ℕ) → is_of s t v ≡ true → Same v 0
    same-free v o u n = of_none s u 0 (omega arith) ∙ sym (of_other s t v u n o)

    -- v2 and w2 take the places of v and w: they tell of t what the entry's type says
    open_next : {r v w : ℕ} (v2 w2 : ℕ) → Open s at r v w → (1 < v2 → v2 + 20 ≤ length s) → (1 < w2 → w2 + 20 ≤ length s) → ((v2 ≡ 1 → ⊥) → v ≡ 1 → ⊥)
        → Same v v2 → Same w w2 → either (is_of s t v2) (is_of s t w2) ≡ eqb (state_after (said s at).kind) 1 → (is_of s t v2 ≡ true → is_of s t w2 ≡ false)
        → Open s (at + length_at s at) r v2 w2
    open_next {r} {v} {w} v2 w2 k within within2 known first second own apart =
        record { within = within; within2 = within2; tells = λ n u p q. tells n u p q (ℕ_discrete t u); apart = λ u. apart2 u (ℕ_discrete t u) }
      where
        tells : (v2 ≡ 1 → ⊥) → (u : ℕ) → 0 < u → u % 16383 ≡ r → Dec (t ≡ u) → eqb (state_of u (before s (at + length_at s at))) 1 ≡ either (is_of s u v2) (is_of s u w2)
        tells n u p q (yes e) = ap (λ (x : ℕ). eqb x 1) (state-own s at m h u (sym is ∙ e)) ∙ sym own ∙ ap (λ (x : ℕ). either (is_of s x v2) (is_of s x w2)) e
        tells n u p q (no e) = ap (λ (x : ℕ). eqb x 1) (state-keeps s at m h u (λ z. e (is ∙ z))) ∙ k.tells (known n) u p q ∙ sym (rw (first u e, second u e))

        apart2 : (u : ℕ) → Dec (t ≡ u) → is_of s u v2 ≡ true → is_of s u w2 ≡ false
        apart2 u (yes e) o = ap (λ (x : ℕ). is_of s x w2) (sym e) ∙ apart (ap (λ (x : ℕ). is_of s x v2) e ∙ o)
        apart2 u (no e) o = second u e ∙ k.apart u (sym (first u e) ∙ o)

    -- by the type of the entry, and by whose entries were kept
    module _ {r v w : ℕ} (k : Open s at r v w) where
      open_kept : either (is_of s t v) (is_of s t w) ≡ eqb (state_after (said s at).kind) 1 → Open s (at + length_at s at) r v w
      open_kept o = open_next v w k k.within k.within2 (λ n. n) (λ u n. refl) (λ u n. refl) o (k.apart t)

      module _ (on : state_after (said s at).kind ≡ 1) where
        pub open_stays : is_of s t v ≡ true → Open s (at + length_at s at) r v w
        open_stays o = open_kept (rw o (sym (eq-eqb _ 1 on)))

        pub open-stays2 : is_of s t v ≡ false → is_of s t w ≡ true → Open s (at + length_at s at) r v w
        open-stays2 o o2 = open_kept (rw (o, o2) (sym (eq-eqb _ 1 on)))

        module _ (o : is_of s t v ≡ false) (o2 : is_of s t w ≡ false) where
          pub open-new : v ≡ 0 → Open s (at + length_at s at) r at w
          open-new z =
              let e = stands_at h in
              open_next at w k (λ l. omega (arith, e.room, e.low)) k.within2 (λ n y. omega arith) (same_new v z) (λ u n. refl) (rw of-own (sym (eq-eqb _ 1 on))) (λ y. o2)

          pub open-new2 : w ≡ 0 → Open s (at + length_at s at) r v at
          open-new2 z =
              let e = stands_at h in
              open_next v at k k.within (λ l. omega (arith, e.room, e.low)) (λ n. n) (λ u n. refl) (same_new w z) (rw (o, of-own) (sym (eq-eqb _ 1 on))) (λ y. false-true (sym o ∙ y))

      module _ (ends : state_after (said s at).kind ≡ 1 → ⊥) where
        pub open-ended : is_of s t v ≡ true → Open s (at + length_at s at) r 0 w
        open-ended o =
            let z = of_none s t 0 (omega arith) in
            open_next 0 w k (λ l. absurd (omega arith)) k.within2 (λ n z. omega (arith, of-high s t v o)) (same-free v o) (λ u n. refl) (rw (z, k.apart t o) (sym (ne_eqb _ 1 ends))) (λ y. k.apart t o)

        module _ (o : is_of s t v ≡ false) where
          pub open-ended2 : is_of s t w ≡ true → Open s (at + length_at s at) r v 0
          open-ended2 o2 =
              let z = of_none s t 0 (omega arith) in
              open_next v 0 k k.within (λ l. absurd (omega arith)) (λ n. n) (λ u n. refl) (same-free w o2) (rw (o, z) (sym (ne_eqb _ 1 ends))) (λ y. z)

          pub open-absent : is_of s t w ≡ false → Open s (at + length_at s at) r v w
          open-absent o2 = open_kept (rw (o, o2) (sym (ne_eqb _ 1 ends)))

    -- for all remainders
    module _ {opens : List ℕ} (k : Opens s at opens) where
      pub opens-zero : t ≡ 0 → Opens s (at + length_at s at) opens
      opens-zero z = record { long = k.long; tell = λ r b. open-other (λ u p q e. omega arith) (k.tell r b) }

      -- of t's remainder both places stand at index r and at r + 16383
      opens-next : (opens2 : List ℕ) → length opens2 ≡ length opens → ((i : ℕ) → (i ≡ t % 16383 → ⊥) → (i ≡ t % 16383 + 16383 → ⊥) → get_or opens2 i 0 ≡ get_or opens i 0)
          → Open s (at + length_at s at) (t % 16383) (get_or opens2 (t % 16383) 0) (get_or opens2 (t % 16383 + 16383) 0) → Opens s (at + length_at s at) opens2
      opens-next opens2 l same o = record { long = l ∙ k.long; tell = λ r b. tell r b (ℕ_discrete r (t % 16383)) }
        where
          tell : (r : ℕ) → r < 16383 → Dec (r ≡ t % 16383) → Open s (at + length_at s at) r (get_or opens2 r 0) (get_or opens2 (r + 16383) 0)
          tell r b (yes e) = rw e o
          tell r b (no n) =
              as-told (same r n (omega arith)) (same (r + 16383) (omega arith) (omega arith))
              (open-other (λ u p q e. n (sym q ∙ ap (λ (x : ℕ). x % 16383) (sym e ∙ sym is))) (k.tell r b))

      pub opens-same : Open s (at + length_at s at) (t % 16383) (get_or opens (t % 16383) 0) (get_or opens (t % 16383 + 16383) 0) → Opens s (at + length_at s at) opens
      opens-same = opens-next opens refl (λ i n n2. refl)

      pub opens-set : (x : ℕ) → Open s (at + length_at s at) (t % 16383) x (get_or opens (t % 16383 + 16383) 0) → Opens s (at + length_at s at) (set opens (t % 16383) x)
      opens-set x o =
          opens-next (set opens (t % 16383) x) (simp length-set) (λ i n n2. get_or-set_other opens (t % 16383) i x 0 n)
          (as-told (get_or-set_same opens (t % 16383) x 0 (omega (arith, k.long))) (get_or-set_other opens (t % 16383) (t % 16383 + 16383) x 0 (omega arith)) o)

      pub opens-set2 : (x : ℕ) → Open s (at + length_at s at) (t % 16383) (get_or opens (t % 16383) 0) x → Opens s (at + length_at s at) (set opens (t % 16383 + 16383) x)
      opens-set2 x o =
          opens-next (set opens (t % 16383 + 16383) x) (simp length-set) (λ i n n2. get_or-set_other opens (t % 16383 + 16383) i x 0 n2)
          (as-told (get_or-set_other opens (t % 16383 + 16383) (t % 16383) x 0 (omega arith)) (get_or-set_same opens (t % 16383 + 16383) x 0 (omega (arith, k.long))) o)

-- ---- the place of a transaction that does not clash
module _ (s : List ℕ) (t x v : ℕ) where
  pub quiet-free : v ≡ 0 → Quiet s t x v
  quiet-free z = record { known = λ o. omega arith; none = λ u n e. of_none s u v (omega arith) }

  module _ (h : 1 < v) where
    pub quiet-own : number_at 8 (v + 12) s ≡ t → Quiet s t x v
    quiet-own o = record { known = λ o. omega arith; none = λ u n e. of-place s u v h ∙ ne_eqb _ u (λ z. n (sym o ∙ z)) }

    pub quiet-rest : (kept (number_at 8 (v + 12) s) ≡ x → ⊥) → Quiet s t x v
    quiet-rest o = record { known = λ o. omega arith; none = λ u n e. of-place s u v h ∙ ne_eqb _ u (λ z. o (ap kept z ∙ sym e)) }

-- ---- the clash of a change, by what the cell of its slot keeps
module _ {s opens : List ℕ} {at x : ℕ} (k : Opens s at opens) (change : is_change (said s at) ≡ true) (is : Newest s at (page_of (said s at)) (slot_of (said s at)) x) where
  newest : ℕ
  newest = newest_on (page_of (said s at)) (slot_of (said s at)) 0 (before s at)

  pub quiet-slot : x ≡ 0 → clash_after (before s at) (said s at) ≡ false
  unfolding newest
  quiet-slot z = clash-none (before s at) (said s at) change newest refl (kept-none newest x is z)

  module _ (some : x ≡ 0 → ⊥) where
    pub rest-open : Open s at ((x - 1) % 16383) (get_or opens ((x - 1) % 16383) 0) (get_or opens ((x - 1) % 16383 + 16383) 0)
    rest-open = k.tell ((x - 1) % 16383) (omega arith)

    -- the transaction of the newest one is of that remainder, and not open
    pub quiet-both : {t : ℕ} → t ≡ (said s at).txn → Quiet s t x (get_or opens ((x - 1) % 16383) 0) → Quiet s t x (get_or opens ((x - 1) % 16383 + 16383) 0) → clash_after (before s at) (said s at) ≡ false
    unfolding newest
    quiet-both {t} own q q2 =
        let rest = kept-rest newest x is some in
        elim (ℕ_discrete newest (said s at).txn) [
          | yes e ↦ clash-own (before s at) (said s at) change newest refl (λ z. omega (arith, rest.0)) e
          | no e ↦
              let n : t ≡ newest → ⊥ = λ z. e (sym z ∙ own) in
              clash-state (before s at) (said s at) change newest refl (λ z. omega (arith, rest.0)) e
              ∙ rest-open.tells q.known newest rest.0 rest.1 ∙ rw (q.none newest n is, q2.none newest n is)
        ]
