-- What is kept of open transactions: at the first place, and after one entry more. Assumes nothing.
use Prim.Native.Nat.{ℕ, zero, suc, ◌+◌, ◌≤◌, ◌<◌}
use mathlib.Core.Path.{◌≡◌, refl, sym, ap, ◌∙◌, subst}
use mathlib.Core.Bool.{Bool, true, false, not}
use mathlib.Core.List.{List, [], ◌∷◌}
use native.Mathlib.Omega.{arith}
use native.Mathlib.Decide.{ℕ_discrete}
use lib.ListN.{length, get_or, set, replicate, length-replicate, length-set}
use lib.Seq.{get_or-set_same, get_or-set_other}
use lib.Dec.{eqb}
use borrow.Author.Tests.{eq-eqb, ne_eqb}
use Rattle.std.specs.Prelude.{Option, None, Some}
use Rattle.std.specs.Bool.{then_some}
use Rattle.endian.specs.declared.TxnNumber.{TxnNumber}
use Rattle.endian.specs.Pick.{pick}
use Rattle.wal.specs.Entry.{Entry, begin, commit, rollback, checkpoint}
use Rattle.wal.specs.Read.{length_at}
use Rattle.wal.specs.Prefix.{Met, Stands, said, before}
use Rattle.wal.proofs.Prefix.{stands_at, before-first, before-next}
use Rattle.rules.specs.Shape.{both, either, is_change, is_changing}
use Rattle.rules.specs.Order.{any, is, begun, ended, is_open, in_order}
use Rattle.rules.proofs.Tests.{false-true, both_true, both-none, either-none, not-true}
use Rattle.index.specs.Places.{number}
use Rattle.firsts.specs.First.{is_end, is_ending}
use Rattle.firsts.proofs.FirstLaws.{any_append}
use Rattle.firsts.proofs.Orders.{ended-any}
use Rattle.order.specs.Blocks.{top_number, in_block, right_in, FirstWrong, every_number}
use Rattle.order.specs.Turns.{turns, Turning, TurningAfter}
use Rattle.order.proofs.Tellings.{number-said, own-end}
use Rattle.order.proofs.Wrongs.{right-first, right-next, wrong_start, wrong-none, wrong-last}

-- ---- an entry in order

right_of : (lo hi : ℕ) (xs : List Entry) (e : Entry) → in_order xs e ≡ true → right_in lo hi xs e ≡ true
unfolding right_in
right_of lo hi xs e h = rw h (go (in_block lo hi e.txn))
  where
    go : (b : Bool) → pick b true true ≡ true
    go true = refl
    go false = refl

module _ (xs : List Entry) (e : Entry) where
  checkpoint-right : e.kind ≡ checkpoint → in_order xs e ≡ true
  unfolding in_order
  checkpoint-right k = rw (eq-eqb e.kind checkpoint k)

  zero_right : (e.kind ≡ checkpoint → ⊥) → e.txn ≡ 0 → is_change e ≡ true → in_order xs e ≡ true
  unfolding in_order
  zero_right k z h = rw (ne_eqb e.kind checkpoint k, eq-eqb e.txn 0 z) h

  begin-right : e.kind ≡ begin → (e.txn ≡ 0 → ⊥) → begun xs e.txn ≡ false → in_order xs e ≡ true
  unfolding in_order
  begin-right k z h = rw (k, ne_eqb e.txn 0 z, h)

  open-right : (e.kind ≡ checkpoint → ⊥) → (e.kind ≡ begin → ⊥) → (e.txn ≡ 0 → ⊥) → is_open xs e.txn ≡ true → in_order xs e ≡ true
  unfolding in_order
  open-right k b z h = rw (ne_eqb e.kind checkpoint k, ne_eqb e.txn 0 z, ne_eqb e.kind begin b) h

  open-begun : (t : ℕ) → is_open xs t ≡ true → begun xs t ≡ true
  unfolding is_open
  open-begun t h = (both_true (begun xs t) (not (ended xs t)) h).0

  no-begin : (t : ℕ) → (e.kind ≡ begin → ⊥) → is begin t e ≡ false
  no-begin t k = rw (ne_eqb e.kind begin k)

  other-begin : (t : ℕ) → (e.txn ≡ t → ⊥) → is begin t e ≡ false
  other-begin t n = ap (both (eqb e.kind begin)) (ne_eqb e.txn t n) ∙ both-none (eqb e.kind begin)

  no-ending : (t : ℕ) → is_end e ≡ false → is_ending t e ≡ false
  no-ending t h = own-end t e ∙ ap (λ (b : Bool). both b (eqb e.txn t)) h

  other-ending : (t : ℕ) → (e.txn ≡ t → ⊥) → is_ending t e ≡ false
  other-ending t n = own-end t e ∙ ap (both (is_end e)) (ne_eqb e.txn t n) ∙ both-none (is_end e)

  begin-stays : e.kind ≡ begin → is_end e ≡ false
  begin-stays k = rw k

  -- a change begins and ends nothing
  change-kind : (k : ℕ) → is_changing k ≡ false → is_change e ≡ true → e.kind ≡ k → ⊥
  change-kind k n h z = false-true (sym n ∙ ap is_changing (sym z) ∙ h)

  change-begins : is_change e ≡ true → e.kind ≡ begin → ⊥
  unfolding is_changing
  change-begins = change-kind begin refl

  change-stays : is_change e ≡ true → is_end e ≡ false
  unfolding is_changing
  change-stays h = rw (ne_eqb e.kind commit (change-kind commit refl h), ne_eqb e.kind rollback (change-kind rollback refl h))

-- ---- a transaction after one entry more

module _ {s : List ℕ} {at : ℕ} (m : Met s at) (h : Stands s at) (t : ℕ) where
  next-any : (f : Entry → Bool) → any f (before s (at + length_at s at)) ≡ either (any f (before s at)) (f (said s at))
  next-any f = ap (any f) (before-next s m h) ∙ any_append f (before s at) (said s at ∷ []) ∙ ap (either (any f (before s at))) (either-none (f (said s at)))

  begun-next : begun (before s (at + length_at s at)) t ≡ either (begun (before s at) t) (is begin t (said s at))
  unfolding begun
  begun-next = next-any (is begin t)

  ended-next : ended (before s (at + length_at s at)) t ≡ either (ended (before s at) t) (is_ending t (said s at))
  ended-next = ended-any (before s (at + length_at s at)) t ∙ next-any (is_ending t) ∙ ap (λ (b : Bool). either b (is_ending t (said s at))) (sym (ended-any (before s at) t))

  unbegun-next : begun (before s at) t ≡ false → is begin t (said s at) ≡ false → begun (before s (at + length_at s at)) t ≡ false
  unbegun-next a b = begun-next ∙ ap (λ (x : Bool). either x (is begin t (said s at))) a ∙ b

  unended-next : ended (before s at) t ≡ false → is_ending t (said s at) ≡ false → ended (before s (at + length_at s at)) t ≡ false
  unended-next a b = ended-next ∙ ap (λ (x : Bool). either x (is_ending t (said s at))) a ∙ b

  open-from : begun (before s (at + length_at s at)) t ≡ true → ended (before s (at + length_at s at)) t ≡ false → is_open (before s (at + length_at s at)) t ≡ true
  unfolding is_open
  open-from a b = rw (a, b)

  open_next : is_open (before s at) t ≡ true → is_ending t (said s at) ≡ false → is_open (before s (at + length_at s at)) t ≡ true
  unfolding is_open
  open_next o e =
      let b = both_true (begun (before s at) t) (not (ended (before s at) t)) o in
      open-from (begun-next ∙ ap (λ (x : Bool). either x (is begin t (said s at))) b.0) (unended-next (not-true (ended (before s at) t) b.1) e)

  open-new : is begin t (said s at) ≡ true → ended (before s at) t ≡ false → is_ending t (said s at) ≡ false → is_open (before s (at + length_at s at)) t ≡ true
  open-new a b e = open-from (begun-next ∙ ap (either (begun (before s at) t)) a ∙ any-true (begun (before s at) t)) (unended-next b e)
    where
      any-true : (x : Bool) → either x true ≡ true
      any-true true = refl
      any-true false = refl

-- ---- at the first place

zeros : (n r : ℕ) → ◌≡◌ {A = ℕ} (get_or (replicate n 0) r 0) 0
zeros zero r = refl
zeros (suc n) zero = refl
zeros (suc n) (suc r) = zeros n r

pub turning-first : (s : List ℕ) → Turning s 32 0 (replicate 16384 0)
unfolding begun ended
turning-first s =
    record {
      right = right-first;
      unbegun = λ t l. rw (before-first s);
      unended = λ t l. rw (before-first s);
      long = length-replicate {0} {A = ℕ} 16384 0;
      room = λ r n. absurd (n (zeros 16384 r));
      going = λ r n. absurd (n (zeros 16384 r));
      apart = λ r q n k e. absurd (n (zeros 16384 r));
    }

-- ---- at the end

pub turning-done : {s : List ℕ} {stop highest : ℕ} {opens : List ℕ} → Turning s stop highest opens → FirstWrong s every_number stop stop
turning-done {s} {stop} w = wrong-last 0 top_number (wrong_start stop w.right.met) (wrong-none stop w.right w.right.met (omega arith)) refl

-- ---- an entry more

module _ {s : List ℕ} {at highest : ℕ} {opens : List ℕ} (w : Turning s at highest opens) (h : Stands s at) where
  m : Met s at
  m = w.right.met

  -- a number that has begun is not above the highest
  begun-low : (t : ℕ) → begun (before s at) t ≡ true → highest < t → ⊥
  begun-low t b l = false-true (sym (w.unbegun t l) ∙ b)

  -- one that begins and ends nothing
  turning-pass : in_order (before s at) (said s at) ≡ true → ((said s at).kind ≡ begin → ⊥) → is_end (said s at) ≡ false → Turning s (at + length_at s at) highest opens
  turning-pass o k e =
      record {
        right = right-next w.right h (right_of 0 top_number (before s at) (said s at) o);
        unbegun = λ t l. unbegun-next m h t (w.unbegun t l) (no-begin (before s at) (said s at) t k);
        unended = λ t l. unended-next m h t (w.unended t l) (no-ending (before s at) (said s at) t e);
        long = w.long;
        room = w.room;
        going = λ r n. open_next m h (number s (get_or opens r 0)) (w.going r n) (no-ending (before s at) (said s at) (number s (get_or opens r 0)) e);
        apart = w.apart;
      }

  pub turning-checkpoint : (said s at).kind ≡ checkpoint → Turning s (at + length_at s at) highest opens
  turning-checkpoint k = turning-pass (checkpoint-right (before s at) (said s at) k) (λ z. omega arith) (rw k)

  pub turning-zero : ((said s at).kind ≡ checkpoint → ⊥) → (said s at).txn ≡ 0 → is_change (said s at) ≡ true → Turning s (at + length_at s at) highest opens
  turning-zero k z c = turning-pass (zero_right (before s at) (said s at) k z c) (change-begins (before s at) (said s at) c) (change-stays (before s at) (said s at) c)

  -- a Begin with a number above the highest
  pub turning-begin : (t r : ℕ) → (said s at).kind ≡ begin → t ≡ (said s at).txn → highest < t → r < turns → Turning s (at + length_at s at) t (set opens r at)
  turning-begin t r k u l b =
      record {
        right = right-next w.right h (right_of 0 top_number (before s at) (said s at) (begin-right (before s at) (said s at) k (λ z. omega arith) (w.unbegun (said s at).txn (omega arith))));
        unbegun = λ x g. unbegun-next m h x (w.unbegun x (omega arith)) (other-begin (before s at) (said s at) x (λ z. omega arith));
        unended = λ x g. unended-next m h x (w.unended x (omega arith)) (no-ending (before s at) (said s at) x stays);
        long = length-set opens r at ∙ w.long;
        room = λ q. room q (ℕ_discrete q r);
        going = λ q. going q (ℕ_discrete q r);
        apart = λ p q. apart p q (ℕ_discrete p r) (ℕ_discrete q r);
      }
    where
      stays : is_end (said s at) ≡ false
      stays = begin-stays (before s at) (said s at) k

      same : (q : ℕ) → q ≡ r → get_or (set opens r at) q 0 ≡ at
      same q e = ap (λ (x : ℕ). get_or (set opens r at) x 0) e ∙ get_or-set_same opens r at 0 (omega (arith, w.long))

      other : (q : ℕ) → (q ≡ r → ⊥) → get_or (set opens r at) q 0 ≡ get_or opens q 0
      other q n = get_or-set_other opens r q at 0 n

      here : number s at ≡ t
      here = number-said s at ∙ sym u

      room : (q : ℕ) → Dec (q ≡ r) → (get_or (set opens r at) q 0 ≡ 0 → ⊥) → get_or (set opens r at) q 0 + 20 ≤ length s
      room q (yes e) n = let x = stands_at h in omega (arith, same q e, x.room, x.low, x.front)
      room q (no e) n = subst (λ (x : ℕ). x + 20 ≤ length s) (sym (other q e)) (w.room q (λ z. n (other q e ∙ z)))

      going : (q : ℕ) → Dec (q ≡ r) → (get_or (set opens r at) q 0 ≡ 0 → ⊥) → is_open (before s (at + length_at s at)) (number s (get_or (set opens r at) q 0)) ≡ true
      going q (yes e) n =
          subst (λ (x : ℕ). is_open (before s (at + length_at s at)) x ≡ true) (sym (ap (number s) (same q e) ∙ here))
          (open-new m h t (rw (k, eq-eqb (said s at).txn t (sym u))) (w.unended t l) (no-ending (before s at) (said s at) t stays))
      going q (no e) n =
          subst (λ (x : ℕ). is_open (before s (at + length_at s at)) (number s x) ≡ true) (sym (other q e))
          (open_next m h (number s (get_or opens q 0)) (w.going q (λ z. n (other q e ∙ z))) (no-ending (before s at) (said s at) (number s (get_or opens q 0)) stays))

      -- no transaction that is kept has this number
      fresh : (q : ℕ) → (get_or opens q 0 ≡ 0 → ⊥) → t ≡ number s (get_or opens q 0) → ⊥
      fresh q n e = begun-low (number s (get_or opens q 0)) (open-begun (before s at) (said s at) (number s (get_or opens q 0)) (w.going q n)) (omega arith)

      apart : (p q : ℕ) → Dec (p ≡ r) → Dec (q ≡ r) → (get_or (set opens r at) p 0 ≡ 0 → ⊥) → (get_or (set opens r at) q 0 ≡ 0 → ⊥) → number s (get_or (set opens r at) p 0) ≡ number s (get_or (set opens r at) q 0) → p ≡ q
      apart p q (yes a) (yes c) x y e = a ∙ sym c
      apart p q (yes a) (no c) x y e = absurd (fresh q (λ z. y (other q c ∙ z)) (sym here ∙ sym (ap (number s) (same p a)) ∙ e ∙ ap (number s) (other q c)))
      apart p q (no a) (yes c) x y e = absurd (fresh p (λ z. x (other p a ∙ z)) (sym here ∙ sym (ap (number s) (same q c)) ∙ sym e ∙ ap (number s) (other p a)))
      apart p q (no a) (no c) x y e = w.apart p q (λ z. x (other p a ∙ z)) (λ z. y (other q c ∙ z)) (sym (ap (number s) (other p a)) ∙ e ∙ ap (number s) (other q c))

  -- another entry of a transaction that is kept
  module _ (t r : ℕ) (u : t ≡ (said s at).txn) (z : t ≡ 0 → ⊥) (c : (said s at).kind ≡ checkpoint → ⊥) (k : (said s at).kind ≡ begin → ⊥) (n : get_or opens r 0 ≡ 0 → ⊥) (own : number s (get_or opens r 0) ≡ t) where
    is_open_lem : is_open (before s at) (said s at).txn ≡ true
    is_open_lem = subst (λ (x : ℕ). is_open (before s at) x ≡ true) (own ∙ u) (w.going r n)

    in-turn : in_order (before s at) (said s at) ≡ true
    in-turn = open-right (before s at) (said s at) c k (λ q. z (u ∙ q)) is_open_lem

    pub turning-on : is_end (said s at) ≡ false → Turning s (at + length_at s at) highest opens
    turning-on e = turning-pass in-turn k e

    -- its ending: it is kept no longer
    pub turning-end : r < turns → Turning s (at + length_at s at) highest (set opens r 0)
    turning-end b =
        record {
          right = right-next w.right h (right_of 0 top_number (before s at) (said s at) in-turn);
          unbegun = λ x l. unbegun-next m h x (w.unbegun x l) (no-begin (before s at) (said s at) x k);
          unended = λ x l. unended-next m h x (w.unended x l) (other-ending (before s at) (said s at) x (λ e. begun-low (said s at).txn (open-begun (before s at) (said s at) (said s at).txn is_open_lem) (omega arith)));
          long = length-set opens r 0 ∙ w.long;
          room = λ q y. subst (λ (x : ℕ). x + 20 ≤ length s) (sym (other q y)) (w.room q (old q y));
          going = λ q y. subst (λ (x : ℕ). is_open (before s (at + length_at s at)) (number s x) ≡ true) (sym (other q y))
              (open_next m h (number s (get_or opens q 0)) (w.going q (old q y)) (other-ending (before s at) (said s at) (number s (get_or opens q 0)) (λ e. apart_from q y (w.apart q r (old q y) n (sym e ∙ sym u ∙ sym own)))));
          apart = λ p q x y e. w.apart p q (old p x) (old q y) (sym (ap (number s) (other p x)) ∙ e ∙ ap (number s) (other q y));
        }
      where
        apart_from : (q : ℕ) → (get_or (set opens r 0) q 0 ≡ 0 → ⊥) → q ≡ r → ⊥
        apart_from q y e = y (ap (λ (x : ℕ). get_or (set opens r 0) x 0) e ∙ get_or-set_same opens r 0 0 (omega (arith, w.long)))

        other : (q : ℕ) → (get_or (set opens r 0) q 0 ≡ 0 → ⊥) → get_or (set opens r 0) q 0 ≡ get_or opens q 0
        other q y = get_or-set_other opens r q 0 0 (apart_from q y)

        old : (q : ℕ) → (get_or (set opens r 0) q 0 ≡ 0 → ⊥) → get_or opens q 0 ≡ 0 → ⊥
        old q y e = y (other q y ∙ e)

-- ---- as code keeps it

pub turned : {s : List ℕ} {at : ℕ} {opens : List ℕ} (b : Bool) (h : TxnNumber) → (b ≡ true → Turning s at h.0 opens) → TurningAfter s at (then_some b h) opens
turned true h f = f refl
turned false h f = tt

-- while something is known, no entry is out of order
pub turned-right : {s : List ℕ} {at : ℕ} (opens : List ℕ) (t : Option TxnNumber) → TurningAfter s at t opens → (h : TxnNumber) → t ≡ Some h → FirstWrong s every_number at at
turned-right opens None w h e = absurd (cc)
turned-right opens (Some x) w h e = turning-done w
