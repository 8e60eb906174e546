-- The first entry out of order: one entry more, and one block of numbers after another.
-- Assumes nothing.
use Prim.Native.Nat.{ℕ, ◌+◌, ◌≤◌, ◌<◌}
use mathlib.Core.Path.{◌≡◌, refl, sym, ap, ◌∙◌, subst}
use mathlib.Core.Bool.{Bool, true, false, not}
use mathlib.Core.List.{List}
use native.Mathlib.Omega.{arith}
use native.Mathlib.Decide.{dec_lt}
use lib.Dec.{ltb, leb, eqb}
use borrow.Author.Tests.{lt-ltb, le-ltb, le-leb, lt-leb, eq-eqb, ne_eqb, ltb-true}
use Rattle.endian.specs.Pick.{pick}
use Rattle.wal.specs.Entry.{Entry, begin, checkpoint}
use Rattle.wal.specs.Read.{length_at}
use Rattle.wal.specs.Walk.{entries}
use Rattle.wal.specs.Prefix.{Met, Stands, said, before}
use Rattle.wal.proofs.Prefix.{met-first, met_next, met-from, met-below}
use Rattle.rules.specs.Shape.{both, either, is_change}
use Rattle.rules.specs.Order.{is_begin, begun, ended, is_open, in_order}
use Rattle.rules.proofs.Tests.{false-true}
use Rattle.firsts.specs.First.{FirstOf}
use Rattle.firsts.specs.Tests.{Fails}
use Rattle.firsts.proofs.FirstLaws.{first-never}
use Rattle.firsts.proofs.Orders.{block-join}
use Rattle.firsts.proofs.Log.{first-log}
use Rattle.order.specs.Blocks.{top_number, in_block, right_in, RightBefore, FirstWrong, below, every_number}

-- ---- an entry by itself

module _ (lo hi : ℕ) (xs : List Entry) (e : Entry) where
  pub right-low : e.txn < lo → true ≡ right_in lo hi xs e
  unfolding right_in in_block
  right-low h = rw (lt-leb lo e.txn h)

  pub right-high : hi < e.txn → e.txn ≤ top_number → true ≡ right_in lo hi xs e
  unfolding right_in in_block
  right-high h k = rw (lt-leb e.txn hi h, ne_eqb hi top_number (λ z. omega arith)) (go (leb lo e.txn))
    where
      go : (b : Bool) → true ≡ pick (both b false) (in_order xs e) true
      go true = refl
      go false = refl

  module _ (low : lo ≤ e.txn) (high : e.txn ≤ hi) where
    pub right-in : right_in lo hi xs e ≡ in_order xs e
    unfolding right_in in_block
    right-in = rw (le-leb lo e.txn low, le-leb e.txn hi high)

    pub right-checkpoint : e.kind ≡ checkpoint → true ≡ right_in lo hi xs e
    unfolding in_order
    right-checkpoint k = sym (right-in ∙ rw (eq-eqb e.kind checkpoint k))

    module _ (k : e.kind ≡ checkpoint → ⊥) where
      pub right_zero : {b : Bool} → b ≡ is_change e → e.txn ≡ 0 → b ≡ right_in lo hi xs e
      unfolding in_order
      right_zero q z = q ∙ sym (right-in ∙ rw (ne_eqb e.kind checkpoint k, eq-eqb e.txn 0 z))

      pub right-turn : {b : Bool} → (e.txn ≡ 0 → ⊥) → b ≡ pick (is_begin e) (not (begun xs e.txn)) (is_open xs e.txn) → b ≡ right_in lo hi xs e
      unfolding in_order
      right-turn n q = q ∙ sym (right-in ∙ rw (ne_eqb e.kind checkpoint k, ne_eqb e.txn 0 n))

-- what is not right has a number of the block and is out of order
is-wrong : (lo hi : ℕ) (xs : List Entry) (e : Entry) → right_in lo hi xs e ≡ false → Fails (in_block lo hi) in_order xs e
unfolding right_in
is-wrong lo hi xs e z = go (in_block lo hi e.txn) refl z
  where
    go : (b : Bool) → in_block lo hi e.txn ≡ b → pick b (in_order xs e) true ≡ false → Fails (in_block lo hi) in_order xs e
    go true q k = (q, k)
    go false q k = false-true (sym k)

-- ---- an entry more

module _ {s : List ℕ} {lo hi : ℕ} where
  pub right-first : RightBefore s lo hi 32
  right-first = record { met = met-first s; right = λ p m h l. absurd (omega (arith, met-from s m)) }

  -- what is before the next place is before this one, or stands here
  module _ {at : ℕ} (w : RightBefore s lo hi at) (h : Stands s at) where
    pub right-next : right_in lo hi (before s at) (said s at) ≡ true → RightBefore s lo hi (at + length_at s at)
    right-next z = record { met = met_next s w.met h; right = λ p m k l. go p m k l (dec_lt p at) (dec_lt at p) }
      where
        go : (p : ℕ) → Met s p → Stands s p → p < at + length_at s at → Dec (p < at) → Dec (at < p) → right_in lo hi (before s p) (said s p) ≡ true
        go p m k l (yes a) b = w.right p m k a
        go p m k l (no a) (yes b) = absurd (omega (arith, (met-below s w.met m b).next))
        go p m k l (no a) (no b) = let e : at ≡ p = omega arith in subst (λ (x : ℕ). right_in lo hi (before s x) (said s x) ≡ true) e z

  none-wrong : {at : ℕ} → RightBefore s lo hi at → (p : ℕ) → Met s p → Stands s p → p < at → Fails (in_block lo hi) in_order (before s p) (said s p) → ⊥
  unfolding right_in
  none-wrong w p m h l f =
      let z : in_order (before s p) (said s p) ≡ true = rw f.0 at (w.right p m h l) in
      false-true (sym f.1 ∙ z)

  pub wrong-none : {at : ℕ} (stop : ℕ) → RightBefore s lo hi at → Met s stop → stop ≤ at → FirstWrong s (in_block lo hi) stop stop
  wrong-none stop w m h = record { met = m; is = first-log s (omega arith) (λ p n k l. none-wrong w p n k (omega arith)) (λ l. absurd (omega arith)) }

  pub wrong-here : {at : ℕ} (stop : ℕ) → RightBefore s lo hi at → Stands s at → at ≤ stop → right_in lo hi (before s at) (said s at) ≡ false → FirstWrong s (in_block lo hi) stop at
  wrong-here {at} stop w h k z = record { met = w.met; is = first-log s k (none-wrong w) (λ l. record { met = w.met; stands = h; holds = is-wrong lo hi (before s at) (said s at) z }) }

-- ---- an entry of a transaction, by whether that has begun and ended

module _ (xs : List Entry) (t kind : ℕ) {b : Bool} (e : b ≡ begun xs t) where
  pub turn-begin : kind ≡ begin → not b ≡ pick (eqb kind begin) (not (begun xs t)) (is_open xs t)
  turn-begin k = ap not e ∙ rw (eq-eqb kind begin k)

  pub turn-none : (kind ≡ begin → ⊥) → b ≡ false → false ≡ pick (eqb kind begin) (not (begun xs t)) (is_open xs t)
  unfolding is_open
  turn-none k z = rw (ne_eqb kind begin k, sym e ∙ z)

  pub turn-open : {d : Bool} → (kind ≡ begin → ⊥) → b ≡ true → d ≡ ended xs t → not d ≡ pick (eqb kind begin) (not (begun xs t)) (is_open xs t)
  unfolding is_open
  turn-open k z h = ap not h ∙ rw (ne_eqb kind begin k, sym e ∙ z)

-- ---- a block more

pub wrong_start : {s : List ℕ} (stop : ℕ) → Met s stop → FirstWrong s (below 0) stop stop
wrong_start {s} stop m = record { met = m; is = first-never (entries s) 32 stop (λ xs e f. omega (arith, ltb-true e.txn 0 f.0)) }

module _ (lo hi t : ℕ) where
  block-next : lo ≤ hi → (hi ≡ top_number → ⊥) → below (hi + 1) t ≡ either (below lo t) (in_block lo hi t)
  unfolding in_block
  block-next h n = rw (ne_eqb hi top_number n) (go (dec_lt t lo) (dec_lt hi t))
    where
      go : Dec (t < lo) → Dec (hi < t) → ltb t (hi + 1) ≡ either (ltb t lo) (both (leb lo t) (either (leb t hi) false))
      go (yes a) b = rw (lt-ltb t lo a, lt-ltb t (hi + 1) (omega arith))
      go (no a) (yes b) = rw (le-ltb t lo (omega arith), le-leb lo t (omega arith), lt-leb t hi b, le-ltb t (hi + 1) (omega arith))
      go (no a) (no b) = rw (le-ltb t lo (omega arith), le-leb lo t (omega arith), le-leb t hi (omega arith), lt-ltb t (hi + 1) (omega arith))

  block_last : hi ≡ top_number → every_number t ≡ either (below lo t) (in_block lo hi t)
  unfolding in_block
  block_last e = rw (eq-eqb hi top_number e) (go (dec_lt t lo) (leb t hi))
    where
      go : Dec (t < lo) → (b : Bool) → true ≡ either (ltb t lo) (both (leb lo t) (either b true))
      go (yes a) b = rw (lt-ltb t lo a)
      go (no a) true = rw (le-ltb t lo (omega arith), le-leb lo t (omega arith))
      go (no a) false = rw (le-ltb t lo (omega arith), le-leb lo t (omega arith))

module _ {s : List ℕ} (lo hi : ℕ) {stop best r : ℕ} (f : FirstWrong s (below lo) stop best) (g : FirstWrong s (in_block lo hi) best r) where
  pub wrong-next : lo ≤ hi → (hi ≡ top_number → ⊥) → FirstWrong s (below (hi + 1)) stop r
  wrong-next h n = record { met = g.met; is = block-join (below lo) (in_block lo hi) (below (hi + 1)) (λ t. block-next lo hi t h n) f.is g.is }

  pub wrong-last : hi ≡ top_number → FirstWrong s every_number stop r
  wrong-last e = record { met = g.met; is = block-join (below lo) (in_block lo hi) every_number (λ t. block_last lo hi t e) f.is g.is }

pub wrong-low : {s : List ℕ} {R : ℕ → Bool} {stop r : ℕ} → FirstWrong s R stop r → r ≤ stop
wrong-low f = f.is.low

-- every number: the first entry out of order
pub wrong-order : {s : List ℕ} {stop r : ℕ} → FirstWrong s every_number stop r → FirstOf (λ xs e. in_order xs e ≡ false) (entries s) 32 stop r
wrong-order f =
    let g = f.is in
    record {
      low = g.low;
      none = λ xs e ys q l h. g.none xs e ys q l (refl, h);
      some = λ l. let k = g.some l in record { xs = k.xs; e = k.e; ys = k.ys; split = k.split; place = k.place; holds = k.holds.1 };
    }
