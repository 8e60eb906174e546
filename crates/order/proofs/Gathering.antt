-- What was collected of Begins and endings, with one entry more, and as a block.
-- Assumes nothing.
use Prim.Native.Nat.{ℕ, ◌+◌, ◌≤◌, ◌<◌, min}
use mathlib.Core.Path.{◌≡◌, refl, sym, ap, ◌∙◌, subst}
use mathlib.Core.Bool.{Bool, true, false}
use mathlib.Core.List.{List, [], ◌∷◌, ◌++◌, append-nil}
use native.Mathlib.Omega.{arith}
use native.Mathlib.Decide.{dec_lt}
use lib.ListN.{length, take}
use lib.Dec.{eqb}
use borrow.Author.Tests.{eq-eqb, ne_eqb}
use Rattle.endian.specs.Pick.{cons_if}
use Rattle.endian.specs.declared.TxnNumber.{TxnNumber}
use Rattle.wal.specs.Entry.{Entry, begin, commit, rollback}
use Rattle.wal.specs.Read.{length_at}
use Rattle.wal.specs.Prefix.{Met, Stands, said, before}
use Rattle.wal.proofs.Prefix.{Along, start, more, along, stands_at, met-from, met-below}
use Rattle.rules.specs.Shape.{either}
use Rattle.rules.specs.Order.{is_begin}
use Rattle.index.specs.Places.{number, count, Has}
use Rattle.index.specs.Index.{Index}
use Rattle.index.specs.Collect.{Lowered}
use Rattle.index.specs.declared.inner.collect.Held.{Held}
use Rattle.index.proofs.Counting.{Snoc, old, new, snoc-cases, snoc_old, snoc_new}
use Rattle.index.proofs.Collecting.{lowered_none, lowered-next, indexed}
use Rattle.firsts.specs.First.{places_of, is_end}
use Rattle.firsts.proofs.Log.{Here, places-first, places-next}
use Rattle.order.specs.Blocks.{top_number, Gathered, Blocked}
use Rattle.order.specs.declared.Holding.{Holding}

-- ---- the places before a place of the walk

module _ (s : List ℕ) (f : Entry → Bool) where
  abbrev Passing : ℕ → Type 0
  Passing x = Here s (λ xs e. f e ≡ true) x

  -- an element of an empty list
  none_in : {A : Type 0} (x : ℕ) → Has x [] → A
  unfolding count
  none_in x h = absurd (omega arith)

  next-places : {p q : ℕ} → Met s q → Stands s q → p ≡ q + length_at s q → places_of f (before s p) 32 ≡ places_of f (before s q) 32 ++ cons_if (f (said s q)) q []
  next-places m h e = ap (λ (y : ℕ). places_of f (before s y) 32) e ∙ places-next s f m h

  from_more : {p : ℕ} (q : ℕ) → Met s q → Stands s q → p ≡ q + length_at s q → (x : ℕ) → (Has x (places_of f (before s q) 32) → (x < q) × Passing x) → Has x (places_of f (before s p) 32) → (x < p) × Passing x
  from_more {p} q m k e x w h = go (f (said s q)) refl (subst (λ (l : List ℕ). Has x l) (next-places m k e) h)
    where
      long : q < p
      long = let b = stands_at k in omega (arith, b.low, b.front)

      earlier : Has x (places_of f (before s q) 32) → (x < p) × Passing x
      earlier g = let r = w g in (omega (arith, r.0, long), r.1)

      cases : f (said s q) ≡ true → Snoc x q (places_of f (before s q) 32) → (x < p) × Passing x
      cases z (old n) = earlier n
      cases z (new n) = (omega (arith, long), subst Passing (sym n) (record { met = m; stands = k; holds = z }))

      go : (b : Bool) → f (said s q) ≡ b → Has x (places_of f (before s q) 32 ++ cons_if b q []) → (x < p) × Passing x
      go true z g = cases z (snoc-cases x q (places_of f (before s q) 32) g)
      go false z g = earlier (subst (λ (l : List ℕ). Has x l) (append-nil (places_of f (before s q) 32)) g)

  from-along : {p : ℕ} → Along s p → (x : ℕ) → Has x (places_of f (before s p) 32) → (x < p) × Passing x
  from-along start x h = none_in x (subst (λ (l : List ℕ). Has x l) (places-first s f) h)
  from-along (more {p = q} w m k e) x h = from_more q m k e x (from-along w x) h

  to-more : {p : ℕ} (q : ℕ) → Met s q → Stands s q → p ≡ q + length_at s q → (x : ℕ) → Met s x → x < p → f (said s x) ≡ true → (x < q → Has x (places_of f (before s q) 32)) → Has x (places_of f (before s p) 32)
  to-more {p} q n k e x m l h w = subst (λ (y : List ℕ). Has x y) (sym (next-places n k e)) (at-it (dec_lt x q) (dec_lt q x))
    where
      go : (b : Bool) → Has x (places_of f (before s q) 32) → Has x (places_of f (before s q) 32 ++ cons_if b q [])
      go true g = snoc_old x q (places_of f (before s q) 32) g
      go false g = subst (λ (y : List ℕ). Has x y) (sym (append-nil (places_of f (before s q) 32))) g

      at-it : Dec (x < q) → Dec (q < x) → Has x (places_of f (before s q) 32 ++ cons_if (f (said s q)) q [])
      at-it (yes a) b = go (f (said s q)) (w a)
      at-it (no a) (yes b) = absurd (omega (arith, (met-below s n m b).next))
      at-it (no a) (no b) =
          let z : x ≡ q = omega arith in
          let t : f (said s q) ≡ true = ap (λ (y : ℕ). f (said s y)) (sym z) ∙ h in
          rw (t, z) (snoc_new q (places_of f (before s q) 32))

  to-along : {p : ℕ} → Along s p → (x : ℕ) → Met s x → x < p → f (said s x) ≡ true → Has x (places_of f (before s p) 32)
  to-along start x m l h = absurd (omega (arith, met-from s m))
  to-along (more {p = q} w n k e) x m l h = to-more q n k e x m l h (λ a. to-along w x m a h)

  pub places-from : {p : ℕ} → Met s p → (x : ℕ) → Has x (places_of f (before s p) 32) → (x < p) × Here s (λ xs e. f e ≡ true) x
  places-from m x h = from-along (along m) x h

  pub places-to : {p : ℕ} → Met s p → (x : ℕ) → Met s x → x < p → f (said s x) ≡ true → Has x (places_of f (before s p) 32)
  places-to m x n l h = to-along (along m) x n l h

-- ---- one entry more

module _ {s : List ℕ} {lo at hi : ℕ} {r : List ℕ} (f : Entry → Bool) (m : Met s at) (h : Stands s at) (g : Lowered s lo top_number (places_of f (before s at) 32) hi r) where
  taken : {hi' : ℕ} {r' : List ℕ} → f (said s at) ≡ true → Lowered s lo hi (r ++ (at ∷ [])) hi' r' → Lowered s lo top_number (places_of f (before s (at + length_at s at)) 32) hi' r'
  taken {hi'} {r'} z k =
      let e : places_of f (before s (at + length_at s at)) 32 ≡ places_of f (before s at) 32 ++ (at ∷ []) = places-next s f m h ∙ ap (λ (b : Bool). places_of f (before s at) 32 ++ cons_if b at []) z in
      subst (λ (l : List ℕ). Lowered s lo top_number l hi' r') (sym e) (lowered-next at g k)

  passed : f (said s at) ≡ false → Lowered s lo top_number (places_of f (before s (at + length_at s at)) 32) hi r
  passed z =
      let e : places_of f (before s (at + length_at s at)) 32 ≡ places_of f (before s at) 32 = places-next s f m h ∙ ap (λ (b : Bool). places_of f (before s at) 32 ++ cons_if b at []) z ∙ append-nil (places_of f (before s at) 32) in
      subst (λ (l : List ℕ). Lowered s lo top_number l hi r) (sym e) g

-- a Begin is no ending, and an ending no Begin
end-begin : (k : ℕ) → k ≡ begin → either (eqb k commit) (eqb k rollback) ≡ false
end-begin k e = rw e

begin-end : (k : ℕ) → either (eqb k commit) (eqb k rollback) ≡ true → eqb k begin ≡ false
begin-end k h = ne_eqb k begin (λ e. never (sym (end-begin k e) ∙ h))
  where
    never : false ≡ true → ⊥
    never z = let w : ◌≡◌ {A = ℕ} 0 1 = cc in omega arith

-- the place of an entry is one, with room for its number
pub placed : {s : List ℕ} {at : ℕ} → Stands s at → (1 ≤ at) × (at + 20 ≤ length s)
placed h = let k = stands_at h in (omega (arith, k.from), omega (arith, k.room, k.low))

pub gathered-first : {s : List ℕ} (lo : ℕ) (h : Holding) (bs es : List ℕ) → lo ≤ top_number → h.begins.len ≡ 0 → h.ends.len ≡ 0 → h.begins.hi.0 ≡ top_number → h.ends.hi.0 ≡ top_number → Gathered s lo 32 h bs es
gathered-first {s} lo h bs es k a b c d = record { begins_fit = omega arith; ends_fit = omega arith; begins = rw (places-first s is_begin, a, c) (lowered_none lo top_number k); ends = rw (places-first s is_end, b, d) (lowered_none lo top_number k) }

module _ {s : List ℕ} {lo at : ℕ} {h : Holding} {bs es : List ℕ} (m : Met s at) (k : Stands s at) (g : Gathered s lo at h bs es) where
  pub begin-in : (bs' : List ℕ) (r : Held) → (said s at).kind ≡ begin → (r.len ≤ length bs') × Lowered s lo h.begins.hi.0 (take h.begins.len bs ++ (at ∷ [])) r.hi.0 (take r.len bs')
      → Gathered s lo (at + length_at s at) (record { begins = r; ends = h.ends }) bs' es
  begin-in bs' r e o =
      record {
        begins_fit = o.0;
        ends_fit = g.ends_fit;
        begins = taken is_begin m k g.begins (eq-eqb (said s at).kind begin e) o.1;
        ends = passed is_end m k g.ends (end-begin (said s at).kind e);
      }

  pub end-in : (es' : List ℕ) (r : Held) → is_end (said s at) ≡ true → (r.len ≤ length es') × Lowered s lo h.ends.hi.0 (take h.ends.len es ++ (at ∷ [])) r.hi.0 (take r.len es')
      → Gathered s lo (at + length_at s at) (record { begins = h.begins; ends = r }) bs es'
  end-in es' r e o =
      record {
        begins_fit = g.begins_fit;
        ends_fit = o.0;
        begins = passed is_begin m k g.begins (begin-end (said s at).kind e);
        ends = taken is_end m k g.ends e o.1;
      }

  pub other-in : ((said s at).kind ≡ begin → ⊥) → is_end (said s at) ≡ false → Gathered s lo (at + length_at s at) h bs es
  other-in n e =
      record {
        begins_fit = g.begins_fit;
        ends_fit = g.ends_fit;
        begins = passed is_begin m k g.begins (ne_eqb (said s at).kind begin n);
        ends = passed is_end m k g.ends e;
      }

-- ---- a block

pub blocked : {s : List ℕ} {stop : ℕ} {h : Holding} {bs es : List ℕ} (bs' es' : List ℕ) (lo hi : TxnNumber) (n k : ℕ) → Met s stop → Gathered s lo.0 stop h bs es → length bs' ≡ length bs → length es' ≡ length es
    → hi.0 ≡ min h.begins.hi.0 h.ends.hi.0
    → (n ≤ h.begins.len) × Index (number s) (take h.begins.len bs) (take n bs')
    → (k ≤ h.ends.len) × Index (number s) (take h.ends.len es) (take k es')
    → Blocked s (record { stop = stop; lo = lo; hi = hi; begins = n; ends = k }) bs' es'
blocked {s} {stop} {h} bs' es' lo hi n k m g p q e b c =
    record {
      met = m;
      range = omega (arith, g.begins.stock.range, g.ends.stock.range);
      begins_fit = omega (arith, b.0, g.begins_fit);
      ends_fit = omega (arith, c.0, g.ends_fit);
      begins = indexed g.begins b.1 (omega arith);
      ends = indexed g.ends c.1 (omega arith);
    }
