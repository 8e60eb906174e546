-- What the first Begins and endings of a block tell at a place of the walk.
-- Assumes nothing.
use Prim.Native.Nat.{ℕ, ◌+◌, ◌≤◌, ◌<◌}
use mathlib.Core.Path.{◌≡◌, refl, sym, ap, ◌∙◌}
use mathlib.Core.Bool.{Bool, true, false}
use mathlib.Core.List.{List}
use native.Mathlib.Omega.{arith}
use lib.ListN.{take}
use lib.Dec.{eqb}
use borrow.Author.Tests.{eq-eqb, eqb-true}
use Rattle.endian.specs.Pick.{pick}
use Rattle.wal.specs.Entry.{Entry, entry_of, sizes_of, begin, commit, rollback}
use Rattle.wal.specs.Read.{length_at, view}
use Rattle.wal.specs.Walk.{entries}
use Rattle.wal.specs.Prefix.{Met, Stands, said, before, onward}
use Rattle.wal.proofs.Prefix.{met-from}
use Rattle.rules.specs.Shape.{both, either}
use Rattle.rules.specs.Order.{any, is, is_begin, begun, ended}
use Rattle.rules.proofs.Tests.{both_true, true-both}
use Rattle.index.specs.Places.{number}
use Rattle.index.specs.Index.{lookup, First}
use Rattle.index.specs.Collect.{Indexed}
use Rattle.index.proofs.Collecting.{indexed-first}
use Rattle.firsts.specs.First.{places_of, is_end, is_ending, FirstOf}
use Rattle.firsts.proofs.FirstLaws.{tells-of, first-zero, zero_test}
use Rattle.firsts.proofs.Orders.{ended-any}
use Rattle.firsts.proofs.Log.{Here, at_split, split_at, place_is, told_at}
use Rattle.order.specs.Blocks.{Blocked, is_before, Telling}
use Rattle.order.specs.declared.Block.{Block}
use Rattle.order.proofs.Gathering.{places-from, places-to}

-- an index is sorted by the transaction number of the entry at a place
pub number-said : (s : List ℕ) (x : ℕ) → number s x ≡ (said s x).txn
unfolding number entry_of view
number-said s x = refl

-- f picks some entries, and ft those of transaction t
module _ (s : List ℕ) (f : Entry → Bool) (t : ℕ) (ft : Entry → Bool) (own : (e : Entry) → ft e ≡ both (f e) (eqb e.txn t)) {lo hi stop : ℕ} {r : List ℕ}
    (m : Met s stop) (ix : Indexed s lo hi (places_of f (before s stop) 32) r) (low : lo ≤ t) (high : t ≤ hi) where
  abbrev P : ℕ → Type 0
  P x = (x < stop) × Here s (λ xs e. f e ≡ true) x

  abbrev q : ℕ
  q = lookup (number s) t r

  first-place : First P (number s) t q
  first-place =
      indexed-first P t ix low high
      (λ x h. omega (arith, met-from s (places-from s f m x h).1.met))
      (λ x h. places-from s f m x h)
      (λ x p e. places-to s f m x p.1.met p.0 p.1.holds)

  pub found : (q ≡ 0 → ⊥) → (q < stop) × Here s (λ xs e. ft e ≡ true) q
  found n =
      let w = first-place.found n in
      let h = w.0.1 in
      (w.0.0, record { met = h.met; stands = h.stands; holds = own (said s q) ∙ true-both h.holds (eq-eqb (said s q).txn t (sym (number-said s q) ∙ w.1)) })

  least : (p : ℕ) → Met s p → Stands s p → p < stop → ft (said s p) ≡ true → (q ≡ 0 → ⊥) × (q ≤ p)
  least p n h l k =
      let b = both_true (f (said s p)) (eqb (said s p).txn t) (sym (own (said s p)) ∙ k) in
      let z : number s p ≡ t = number-said s p ∙ eqb-true (said s p).txn t b.1 in
      let x : P p = (l, record { met = n; stands = h; holds = b.0 }) in
      ((λ e. first-place.none e p x z), first-place.least p x z)

  pub firstly : FirstOf (λ xs e. ft e ≡ true) (entries s) 32 stop (pick (eqb q 0) stop q)
  firstly =
      first-zero
      (λ n. let h = (found n).1 in ((found n).0, record { xs = before s q; e = said s q; ys = onward s (q + length_at s q); split = split_at s h.met h.stands; place = place_is s h.met; holds = h.holds }))
      (λ xs e ys p l k. let a = at_split s xs e ys p in least (32 + sizes_of xs) a.met a.stands l (ap ft a.entry ∙ k))

  told-before : {at : ℕ} → Met s at → at ≤ stop → any ft (before s at) ≡ is_before q at
  told-before {at} n l = told_at s (tells-of ft firstly) n l ∙ zero_test q stop at l

pub own-end : (t : ℕ) (e : Entry) → is_ending t e ≡ both (is_end e) (eqb e.txn t)
own-end t e = go (eqb e.kind commit) (eqb e.kind rollback) (eqb e.txn t)
  where
    go : (a b c : Bool) → either (both a c) (both b c) ≡ both (either a b) c
    go true true true = refl
    go true true false = refl
    go true false true = refl
    go true false false = refl
    go false b c = refl

module _ {s : List ℕ} {b : Block} {bs es : List ℕ} (k : Blocked s b bs es) (t at : ℕ) (low : b.lo.0 ≤ t) (high : t ≤ b.hi.0) (m : Met s at) (l : at ≤ b.stop) where
  begun-told : begun (before s at) t ≡ is_before (lookup (number s) t (take b.begins bs)) at
  unfolding begun
  begun-told = told-before s is_begin t (is begin t) (λ e. refl) k.met k.begins low high m l

  ended-told : ended (before s at) t ≡ is_before (lookup (number s) t (take b.ends es)) at
  ended-told = ended-any (before s at) t ∙ told-before s is_end t (is_ending t) (own-end t) k.met k.ends low high m l

-- what is found is the first Begin of its transaction, and the first ending
module _ {s : List ℕ} {b : Block} {bs es : List ℕ} (k : Blocked s b bs es) (t : ℕ) (low : b.lo.0 ≤ t) (high : t ≤ b.hi.0) where
  pub begin-first : FirstOf (λ xs e. is begin t e ≡ true) (entries s) 32 b.stop (pick (eqb (lookup (number s) t (take b.begins bs)) 0) b.stop (lookup (number s) t (take b.begins bs)))
  begin-first = firstly s is_begin t (is begin t) (λ e. refl) k.met k.begins low high

  pub ending-first : FirstOf (λ xs e. is_ending t e ≡ true) (entries s) 32 b.stop (pick (eqb (lookup (number s) t (take b.ends es)) 0) b.stop (lookup (number s) t (take b.ends es)))
  ending-first = firstly s is_end t (is_ending t) (own-end t) k.met k.ends low high

pub telling : {s : List ℕ} {b : Block} {bs es : List ℕ} (stop : ℕ) → Blocked s b bs es → stop ≤ b.stop → Telling s b.lo.0 b.hi.0 stop (take b.begins bs) (take b.ends es)
telling stop k h =
    record {
      begin_places = k.begins.places;
      begins_rise = k.begins.rising;
      end_places = k.ends.places;
      ends_rise = k.ends.rising;
      tells_begun = λ t at low high m l. begun-told k t at low high m (omega arith);
      tells_ended = λ t at low high m l. ended-told k t at low high m (omega arith);
    }
