-- A walk by places: the first place, the next one, the one before, and the end; and the entries before each. Assumes nothing.
use Prim.Native.Nat.{ℕ, zero, suc, ◌+◌, ◌-◌, ◌≤◌, ◌<◌}
use mathlib.Core.Path.{◌≡◌, refl, sym, ap, ◌∙◌, subst}
use mathlib.Core.List.{List, [], ◌∷◌, ◌++◌, map, append_assoc, append-nil}
use mathlib.Core.Bool.{Bool, true, false}
use native.Mathlib.Decide.{dec_lt}
use native.Mathlib.Omega.{arith}
use lib.ListN.{length}
use lib.Dec.{ltb}
use borrow.Author.Tests.{lt-ltb, le-ltb}
use Rattle.endian.specs.Pick.{pick}
use Rattle.endian.specs.Numbers.{number_at}
use Rattle.wal.specs.Entry.{entry_of}
use Rattle.wal.specs.Read.{length_at, length_before, view, read_at}
use Rattle.wal.specs.Walk.{views_from, end_from, views, end_of, entries}
use Rattle.wal.specs.Prefix.{entry_in, said, Stands, up_to, Met, before, onward}
use Rattle.wal.specs.declared.EntryView.{EntryView}
use Rattle.wal.specs.declared.Reading.TheVariants.{Whole}
use Rattle.wal.proofs.WalkLaws.{EntryAt, entry_at, Walk, done, step, walk, walk_is, walk_ends, next, none, end-from}
use Rattle.wal.proofs.Places.{end-append}

-- ---- the entry at a place
pub entry_in_lem : (s : List ℕ) (p : ℕ) {v : EntryView} → read_at s p ≡ Whole v → v ≡ entry_in s p
entry_in_lem s p h = let k = entry_at s p h in k.is ∙ ap (view s p) (sym k.front)

pub stands : {s : List ℕ} {p : ℕ} {v : EntryView} → read_at s p ≡ Whole v → Stands s p
stands {s} {p} h = record { is = h ∙ ap Whole (entry_in_lem s p h) }

pub stands_at : {s : List ℕ} {p : ℕ} → Stands s p → EntryAt s p (entry_in s p)
stands_at {s} {p} h = entry_at s p h.is

-- its fields, as they were read
module _ (s : List ℕ) (p : ℕ) {v : EntryView} (e : v ≡ entry_in s p) where
  pub view-kind : v.kind ≡ (said s p).kind
  unfolding entry_of
  view-kind = ap (λ (u : EntryView). u.kind) e

  pub view-txn : v.txn.0 ≡ (said s p).txn
  unfolding entry_of
  view-txn = ap (λ (u : EntryView). u.txn.0) e

  pub view-length : v.length ≡ length_at s p
  unfolding view
  view-length = ap (λ (u : EntryView). u.length) e

-- ---- entries up to a place, of any walk
-- an entry more
up_next : (us : List EntryView) (at : ℕ) (v : EntryView) (ws : List EntryView) → 0 < v.length
    → up_to (end_from at us + v.length) at (us ++ (v ∷ ws)) ≡ us ++ (v ∷ [])
unfolding up_to
up_next [] at v ws h = rw (lt-ltb at (at + v.length) (omega arith)) (ap (◌∷◌ v) (rest ws))
  where
    rest : (ws : List EntryView) → up_to (at + v.length) (at + v.length) ws ≡ []
    rest [] = refl
    rest (w ∷ ws) = rw (le-ltb (at + v.length) (at + v.length) (omega arith))
up_next (u ∷ us) at v ws h =
    rw (lt-ltb at (end_from (at + u.length) us + v.length) (omega (arith, end-from (at + u.length) us))) (ap (◌∷◌ u) (up_next us (at + u.length) v ws h))

module _ {s : List ℕ} where
  split : (p at : ℕ) (vs : List EntryView) → Walk s at vs → end_from at (up_to p at vs) ≡ p → vs ≡ up_to p at vs ++ views_from s p
  unfolding up_to
  split p at _ (done n) h = sym (ap (views_from s) (sym h) ∙ none s at n)
  split p at _ (step {v = v} {vs = vs} q w) h = go (λ k. split p (at + v.length) vs w k) (ltb at p) h
    where
      go : (end_from (at + v.length) (up_to p (at + v.length) vs) ≡ p → vs ≡ up_to p (at + v.length) vs ++ views_from s p) → (b : Bool) → end_from at (pick b (v ∷ up_to p (at + v.length) vs) []) ≡ p → v ∷ vs ≡ pick b (v ∷ up_to p (at + v.length) vs) [] ++ views_from s p
      go f true k = ap (◌∷◌ v) (f k)
      go f false k = sym (walk_is (step q w)) ∙ ap (views_from s) k

  -- an entry less
  up-less : (us : List EntryView) (at : ℕ) (ws : List EntryView) → Walk s at (us ++ ws) → up_to (end_from at us) at (us ++ ws) ≡ us
  unfolding up_to
  up-less [] at ws w = rest ws
    where
      rest : (ws : List EntryView) → up_to at at ws ≡ []
      rest [] = refl
      rest (w ∷ ws) = rw (le-ltb at at (omega arith))
  up-less (u ∷ us) at ws (step q w) =
      let k = entry_at s at q in
      rw (lt-ltb at (end_from (at + u.length) us) (omega (arith, k.low, end-from (at + u.length) us))) (ap (◌∷◌ u) (up-less us (at + u.length) ws w))

  -- all entries before an entry's place end there, and a later place has it behind it
  up-past : (q : ℕ) (us : List EntryView) (at : ℕ) (v : EntryView) (ws : List EntryView) → Walk s at (us ++ (v ∷ ws)) → end_from at us < q
      → end_from at us + v.length ≤ end_from at (up_to q at (us ++ (v ∷ ws)))
  unfolding up_to
  up-past q [] at v ws w h = rw (lt-ltb at q h) (end-from (at + v.length) (up_to q (at + v.length) ws))
  up-past q (u ∷ us) at v ws (step r w) h =
      rw (lt-ltb at q (omega (arith, end-from (at + u.length) us))) (up-past q us (at + u.length) v ws w h)

  -- no place of a walk is past its end
  up-end : (q at : ℕ) (vs : List EntryView) → Walk s at vs → end_from at (up_to q at vs) ≤ end_from at vs
  unfolding up_to
  up-end q at _ (done n) = omega arith
  up-end q at _ (step {v = v} {vs = vs} r w) = go (up-end q (at + v.length) vs w) (ltb at q)
    where
      go : end_from (at + v.length) (up_to q (at + v.length) vs) ≤ end_from (at + v.length) vs → (b : Bool) → end_from at (pick b (v ∷ up_to q (at + v.length) vs) []) ≤ end_from (at + v.length) vs
      go h true = h
      go h false = omega (arith, end-from (at + v.length) vs)

-- the last of some entries
data Last : List EntryView → Type 0 where
  empty : Last []
  last : (us : List EntryView) (v : EntryView) → Last (us ++ (v ∷ []))

last_of : (vs : List EntryView) → Last vs
last_of [] = empty
last_of (v ∷ vs) = go (last_of vs)
  where
    go : {ws : List EntryView} → Last ws → Last (v ∷ ws)
    go empty = last [] v
    go (last us w) = last (v ∷ us) w

map-append : {A B : Type 0} (f : A → B) (xs ys : List A) → map f (xs ++ ys) ≡ map f xs ++ map f ys
map-append f [] ys = refl
map-append f (x ∷ xs) ys = ap (◌∷◌ (f x)) (map-append f xs ys)

end-walk : {s : List ℕ} {p : ℕ} {vs : List EntryView} → Walk s p vs → p ≤ length s → end_from p vs ≤ length s
end-walk (done n) h = h
end-walk {s} {p} (step q w) h = end-walk w (entry_at s p q).room

end-small : {s : List ℕ} {p : ℕ} {vs : List EntryView} → Walk s p vs → end_from p vs ≤ p + length s
end-small (done n) = omega arith
end-small {s} {p} (step q w) = omega (arith, end-walk w (entry_at s p q).room)

module _ (s : List ℕ) where
  -- ---- the first place
  up_first : (vs : List EntryView) → up_to 32 32 vs ≡ []
  unfolding up_to
  up_first [] = refl
  up_first (v ∷ vs) = refl

  pub met-first : Met s 32
  met-first = record { is = rw (up_first (views s)) }

  pub before-first : before s 32 ≡ []
  unfolding before
  before-first = rw (up_first (views s))

  pub onward-first : onward s 32 ≡ entries s
  unfolding onward
  onward-first = refl

  -- ---- the entries before a place and those from it on are all
  met-views : (p : ℕ) → Met s p → views s ≡ up_to p 32 (views s) ++ views_from s p
  met-views p m = split p 32 (views s) (walk s 32) m.is

  pub met-split : {p : ℕ} → Met s p → entries s ≡ before s p ++ onward s p
  unfolding before onward
  met-split {p} m = ap (map (entry_of s)) (met-views p m) ∙ map-append (entry_of s) (up_to p 32 (views s)) (views_from s p)

  -- ---- the next place
  up-after : (p : ℕ) → Met s p → Stands s p → up_to (p + length_at s p) 32 (views s) ≡ up_to p 32 (views s) ++ (entry_in s p ∷ [])
  unfolding view
  up-after p m h =
      let k = entry_at s p h.is in
      let e : views s ≡ up_to p 32 (views s) ++ (entry_in s p ∷ views_from s (p + length_at s p)) = met-views p m ∙ ap (λ (l : List EntryView). up_to p 32 (views s) ++ l) (next s p h.is) in
      ap (λ (l : List EntryView). up_to (p + length_at s p) 32 l) e
      ∙ ap (λ (q : ℕ). up_to (q + length_at s p) 32 (up_to p 32 (views s) ++ (entry_in s p ∷ views_from s (p + length_at s p)))) (sym m.is)
      ∙ up_next (up_to p 32 (views s)) 32 (entry_in s p) (views_from s (p + length_at s p)) (omega (arith, k.low))

  pub met_next : {p : ℕ} → Met s p → Stands s p → Met s (p + length_at s p)
  unfolding view
  met_next {p} m h = record { is = ap (end_from 32) (up-after p m h) ∙ end-append 32 (up_to p 32 (views s)) (entry_in s p ∷ []) ∙ ap (λ (q : ℕ). q + length_at s p) m.is }

  pub before-next : {p : ℕ} → Met s p → Stands s p → before s (p + length_at s p) ≡ before s p ++ (said s p ∷ [])
  unfolding before
  before-next {p} m h = ap (map (entry_of s)) (up-after p m h) ∙ map-append (entry_of s) (up_to p 32 (views s)) (entry_in s p ∷ [])

  pub onward-next : {p : ℕ} → Stands s p → onward s p ≡ said s p ∷ onward s (p + length_at s p)
  unfolding onward view
  onward-next {p} h = ap (map (entry_of s)) (next s p h.is)

  -- ---- the place before
  pub record Back (p q : ℕ) : Type 0 where
    pub met : Met s q
    pub stands : Stands s q
    pub is : q + length_at s q ≡ p
    pub low : 43 ≤ length_at s q
    pub from : 32 ≤ q
    pub room : p ≤ length s

  met-back-of : (p : ℕ) → 32 < p → (us : List EntryView) → Last us → (ws : List EntryView) → views s ≡ us ++ ws → end_from 32 us ≡ p → Back p (p - length_before s p)
  unfolding view
  met-back-of p h us empty ws e q = absurd (omega arith)
  met-back-of p h us (last ts v) ws e q =
      let e1 : views s ≡ ts ++ (v ∷ ws) = e ∙ append_assoc ts (v ∷ []) ws in
      let w : Walk s 32 (ts ++ (v ∷ ws)) = subst (Walk s 32) e1 (walk s 32) in
      let r : read_at s (end_from 32 ts) ≡ Whole v = first_of (rest ts w) in
      let k = entry_at s _ r in
      let p1 : end_from 32 ts + v.length ≡ p = sym (end-append 32 ts (v ∷ [])) ∙ q in
      let n : length_before s p ≡ v.length = ap (λ (x : ℕ). number_at 4 x s) (omega (arith, k.low)) ∙ k.back in
      let place : p - length_before s p ≡ end_from 32 ts = omega arith in
      subst (Back p) (sym place)
      (record {
        met = record { is = ap (end_from 32) (ap (λ (l : List EntryView). up_to (end_from 32 ts) 32 l) e1 ∙ up-less ts 32 (v ∷ ws) w) };
        stands = stands r;
        is = omega (arith, k.front);
        low = omega (arith, k.front, k.low);
        from = k.from;
        room = omega (arith, k.room);
      })
    where
      rest : {at : ℕ} (us : List EntryView) {vs : List EntryView} → Walk s at (us ++ vs) → Walk s (end_from at us) vs
      rest [] w = w
      rest {at = at} (u ∷ us) (step q w) = rest {at = at + u.length} us w

      first_of : {at : ℕ} {v : EntryView} {vs : List EntryView} → Walk s at (v ∷ vs) → read_at s at ≡ Whole v
      first_of (step q w) = q

  pub met-back : {p : ℕ} → Met s p → 32 < p → Back p (p - length_before s p)
  met-back {p} m h = met-back-of p h (up_to p 32 (views s)) (last_of (up_to p 32 (views s))) (views_from s p) (split p 32 (views s) (walk s 32) m.is) m.is

  -- ---- a place before another
  pub record Below (p q : ℕ) : Type 0 where
    pub stands : Stands s p
    pub next : p + length_at s p ≤ q
    pub low : 43 ≤ length_at s p

  met-below-of : (p q : ℕ) → Met s p → Met s q → p < q → {vs : List EntryView} → Walk s p vs → views s ≡ up_to p 32 (views s) ++ vs → Below p q
  unfolding view
  met-below-of p q m n h (done x) e =
      absurd (omega (arith, up-end q 32 (views s) (walk s 32), ap (end_from 32) (e ∙ append-nil (up_to p 32 (views s))) ∙ m.is))
  met-below-of p q m n h (step {v = v} {vs = vs} r w) e =
      let k = entry_at s p r in
      let b = up-past q (up_to p 32 (views s)) 32 v vs (subst (Walk s 32) e (walk s 32)) (omega (arith, m.is)) in
      let c : end_from 32 (up_to q 32 (up_to p 32 (views s) ++ (v ∷ vs))) ≡ q = ap (λ (l : List EntryView). end_from 32 (up_to q 32 l)) (sym e) ∙ n.is in
      record { stands = stands r; next = omega (arith, k.front); low = omega (arith, k.front, k.low) }

  pub met-below : {p q : ℕ} → Met s p → Met s q → p < q → Below p q
  met-below {p} {q} m n h = met-below-of p q m n h (walk s p) (split p 32 (views s) (walk s 32) m.is)

  -- ---- the end
  up-all : (at : ℕ) (vs : List EntryView) → Walk s at vs → up_to (end_from at vs) at vs ≡ vs
  unfolding up_to
  up-all at _ (done n) = refl
  up-all at _ (step {v = v} {vs = vs} q w) =
      let k = entry_at s at q in
      rw (lt-ltb at (end_from (at + v.length) vs) (omega (arith, k.low, end-from (at + v.length) vs))) (ap (◌∷◌ v) (up-all (at + v.length) vs w))

  pub met-end : Met s (end_of s)
  met-end = record { is = ap (end_from 32) (up-all 32 (views s) (walk s 32)) }

  pub before-end : before s (end_of s) ≡ entries s
  unfolding before
  before-end = ap (map (entry_of s)) (up-all 32 (views s) (walk s 32))

  -- no entry stands there
  pub onward-end : onward s (end_of s) ≡ []
  unfolding onward
  onward-end = rw (none s (end_of s) (λ v q. walk_ends (walk s 32) q))

  pub met-last : {p : ℕ} → Met s p → views_from s p ≡ [] → p ≡ end_of s
  met-last {p} m h =
      let e : views s ≡ up_to p 32 (views s) ++ [] = rw h at (met-views p m) in
      sym m.is ∙ ap (end_from 32) (sym (e ∙ append-nil (up_to p 32 (views s))))

  -- ---- bounds
  pub met-from : {p : ℕ} → Met s p → 32 ≤ p
  met-from {p} m = omega (arith, m.is, end-from 32 (up_to p 32 (views s)))

  pub met-le : {p : ℕ} → Met s p → p ≤ end_of s
  met-le {p} m = omega (arith, m.is, up-end p 32 (views s) (walk s 32))

  pub met-small : {p : ℕ} → Met s p → p ≤ 32 + length s
  met-small {p} m = omega (arith, met-le m, end-small (walk s 32))

  pub end-le : 32 ≤ length s → end_of s ≤ length s
  end-le h = end-walk (walk s 32) h

-- ---- arguing along the places
pub data Along (s : List ℕ) : ℕ → Type 0 where
  start : Along s 32
  more : {p q : ℕ} → Along s p → Met s p → Stands s p → q ≡ p + length_at s p → Along s q

along-by : (s : List ℕ) (fuel p : ℕ) → p ≤ fuel → Met s p → Along s p
along-by s zero p h m = absurd (omega (arith, met-from s m))
along-by s (suc f) p h m =
    elim (dec_lt 32 p) [
      | yes q ↦ let b = met-back s m q in more (along-by s f _ (omega (arith, b.low, b.is)) b.met) b.met b.stands (sym b.is)
      | no q ↦ subst (Along s) (omega (arith, met-from s m)) start
    ]

pub along : {s : List ℕ} {p : ℕ} → Met s p → Along s p
along {s} {p} m = along-by s p p (omega arith) m
