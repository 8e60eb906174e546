-- What is known where an entry is found, and the walk without its fuel: a turn, and the last turn. Assumes nothing.
use Rattle.std.specs.Prelude.{None}
use Prim.Native.Nat.{ℕ, zero, suc, ◌+◌, ◌-◌, ◌≤◌}
use mathlib.Core.Path.{◌≡◌, refl, sym, ap, ◌∙◌}
use mathlib.Core.List.{List, [], ◌∷◌}
use mathlib.Core.Bool.{Bool, true, false}
use native.Mathlib.Omega.{arith}
use lib.ListN.{length, drop}
use lib.Dec.{ltb, leb, eqb}
use borrow.Author.Tests.{ltb-false, leb-false, eqb-true}
use denote.Enum.Declared.{tag_of}
use types.Run.{OneOf, miss}
use Rattle.endian.specs.Pick.{pick}
use Rattle.endian.specs.Numbers.{part, number_at}
use Rattle.crc32c.specs.Crc.{crc32c}
use Rattle.wal.specs.Read.{all_zero, length_at, key_len, old_len, new_len, view, inner_at, whole_at, read_at, found}
use Rattle.wal.specs.Walk.{followed, scan, views_from, end_from}
use Rattle.wal.specs.declared.EntryView.{EntryView}
use Rattle.wal.specs.declared.Reading.{Reading}
use Rattle.wal.specs.declared.Reading.TheVariants.{Whole, End, Torn, Unused, Damage}
use Rattle.wal.specs.contracts.Reading.{the_type}
use Rattle.wal.proofs.ReadLaws.{past_end, whole, sealed, good-inner}

-- ---- the entry v at p
pub record EntryAt (s : List ℕ) (p : ℕ) (v : EntryView) : Type 0 where
  pub from : 32 ≤ p
  pub low : 43 ≤ v.length
  pub high : v.length ≤ 32705
  pub room : p + v.length ≤ length s
  pub here : v.place ≡ p
  pub is : v ≡ view s p v.length
  pub inner : 43 + v.key_len + v.old_len + v.new_len ≡ v.length
  pub front : length_at s p ≡ v.length
  pub back : number_at 4 (p + (v.length - 4)) s ≡ v.length
  pub sum : number_at 4 (p + (v.length - 8)) s ≡ crc32c (part p (v.length - 8) s)

module _ {v : EntryView} where
  pub not_end : End ≡ Whole v → ⊥
  not_end h = let z : ◌≡◌ {A = ℕ} 0 1 = cc in omega arith

  pub not-torn : Torn ≡ Whole v → ⊥
  not-torn h = let z : ◌≡◌ {A = ℕ} 0 1 = cc in omega arith

  pub not-unused : Unused ≡ Whole v → ⊥
  not-unused h = let z : ◌≡◌ {A = ℕ} 0 1 = cc in omega arith

  pub not-damage : Damage ≡ Whole v → ⊥
  not-damage h = let z : ◌≡◌ {A = ℕ} 0 1 = cc in omega arith

  past : (b : Bool) {x y : Reading} → (x ≡ Whole v → ⊥) → pick b x y ≡ Whole v → (b ≡ false) × (y ≡ Whole v)
  past true n h = absurd (n h)
  past false n h = (refl, h)

  pub into : (b : Bool) {x y : Reading} → (y ≡ Whole v → ⊥) → pick b x y ≡ Whole v → (b ≡ true) × (x ≡ Whole v)
  into true n h = (refl, h)
  into false n h = absurd (n h)

-- what the tests of `whole_at` tell
record Sealed (s : List ℕ) (p n : ℕ) (v : EntryView) : Type 0 where
  front : length_at s p ≡ n
  back : number_at 4 (p + (n - 4)) s ≡ n
  sum : number_at 4 (p + (n - 8)) s ≡ crc32c (part p (n - 8) s)
  inner : 43 + key_len s p + old_len s p + new_len s p ≡ n
  is : view s p n ≡ v

tests : (s : List ℕ) (p n : ℕ) {v : EntryView} → whole_at s p n ≡ Whole v → Sealed s p n v
unfolding whole_at inner_at
tests s p n h =
    let a = into (eqb (length_at s p) n) not-damage h in
    let b = into (eqb (number_at 4 (p + (n - 4)) s) n) not-damage a.1 in
    let c = into (eqb (number_at 4 (p + (n - 8)) s) (crc32c (part p (n - 8) s))) not-damage b.1 in
    let d = into (eqb (43 + key_len s p + old_len s p + new_len s p) n) not-damage c.1 in
    let w = d.1 in
    record { front = eqb-true _ _ a.0; back = eqb-true _ _ b.0; sum = eqb-true _ _ c.0; inner = eqb-true _ _ d.0; is = cc }

-- n bytes that are whole are an entry of n bytes
pub whole_length : (s : List ℕ) (p n : ℕ) {v : EntryView} → whole_at s p n ≡ Whole v → n ≡ v.length
unfolding view
whole_length s p n h = ap (λ (u : EntryView). u.length) (tests s p n h).is

pub entry_whole : (s : List ℕ) (p n : ℕ) {v : EntryView} → 32 ≤ p → 43 ≤ n → n ≤ 32705 → p + n ≤ length s → whole_at s p n ≡ Whole v → EntryAt s p v
unfolding view
entry_whole s p n {v} from low high room h =
    let w = tests s p n h in
    let e = w.is in
    let l = whole_length s p n h in
    let k : key_len s p ≡ v.key_len = cc in
    let o : old_len s p ≡ v.old_len = cc in
    let u : new_len s p ≡ v.new_len = cc in
    record {
      from = from;
      low = omega arith;
      high = omega arith;
      room = omega arith;
      here = cc;
      is = sym e ∙ ap (view s p) l;
      inner = omega arith;
      front = w.front ∙ l;
      back = rw l at w.back;
      sum = rw l at w.sum;
    }

pub entry_at : (s : List ℕ) (p : ℕ) {v : EntryView} → read_at s p ≡ Whole v → EntryAt s p v
unfolding read_at
entry_at s p h =
    let a = past (ltb p 32) not_end h in
    let b = past (leb (length s) p) not_end a.1 in
    let c = past (ltb (length s - p) 4) not-torn b.1 in
    let u = past (all_zero (drop p s)) not-unused c.1 in
    let d = past (ltb (length_at s p) 43) not-damage u.1 in
    let e = past (ltb 32705 (length_at s p)) not-damage d.1 in
    let f = past (ltb (length s - p) (length_at s p)) not-torn e.1 in
    entry_whole s p (length_at s p) (ltb-false _ _ a.0) (ltb-false _ _ d.0) (ltb-false _ _ e.0) (omega (arith, ltb-false, leb-false)) f.1

-- its inner lengths are those that stand in the log
pub inner-lengths : {s : List ℕ} {p : ℕ} {v : EntryView} → EntryAt s p v
    → (key_len s p ≡ v.key_len) × (old_len s p ≡ v.old_len) × (new_len s p ≡ v.new_len)
unfolding view
inner-lengths k = let e = k.is in (cc, cc, cc)

-- what is known makes it whole
pub whole-at : {s : List ℕ} {p : ℕ} {v : EntryView} → EntryAt s p v → whole_at s p v.length ≡ Whole v
whole-at {s} {p} {v} k =
    let i = inner-lengths k in
    sealed s p v.length k.front k.back k.sum ∙ good-inner s p v.length (omega arith) ∙ ap Whole (sym k.is)

pub is_whole : {s : List ℕ} {p : ℕ} {v : EntryView} → EntryAt s p v → read_at s p ≡ Whole v
is_whole {s} {p} {v} k =
    whole s p k.from (omega arith) (omega arith) (omega arith) (omega arith) ∙ ap (whole_at s p) k.front ∙ whole-at k

-- ---- the walk from p and its entries, to argue by its turns
pub data Walk (s : List ℕ) : ℕ → List EntryView → Type 0 where
  done : {p : ℕ} → ((v : EntryView) → read_at s p ≡ Whole v → ⊥) → Walk s p []
  step : {p : ℕ} {v : EntryView} {vs : List EntryView} → read_at s p ≡ Whole v → Walk s (p + v.length) vs → Walk s p (v ∷ vs)

-- an entry has bytes, so the fuel is enough
turn : (s : List ℕ) (f p : ℕ) → ((v : EntryView) → EntryAt s p v → Walk s (p + v.length) (scan f s (p + v.length)))
    → (r : Reading) → read_at s p ≡ r → Walk s p (followed r (λ v. scan f s (p + v.length)))
turn s f p more (Whole v) q = step q (more v (entry_at s p q))
turn s f p more End q = done (λ v e. not_end (sym q ∙ e))
turn s f p more Torn q = done (λ v e. not-torn (sym q ∙ e))
turn s f p more Unused q = done (λ v e. not-unused (sym q ∙ e))
turn s f p more Damage q = done (λ v e. not-damage (sym q ∙ e))

fuelled : (s : List ℕ) (f p : ℕ) → length s ≤ f + p → Walk s p (scan f s p)
unfolding scan
fuelled s zero p h = done (λ v q. not_end (past_end s p (omega arith) ∙ q))
fuelled s (suc f) p h = turn s f p (λ v k. fuelled s f (p + v.length) (omega (arith, k.low))) (read_at s p) refl

pub walk : (s : List ℕ) (p : ℕ) → Walk s p (views_from s p)
unfolding views_from
walk s p = fuelled s (length s) p (omega arith)

-- there is one walk from a place
unique : {s : List ℕ} {p q : ℕ} {vs ws : List EntryView} → p ≡ q → Walk s p vs → Walk s q ws → vs ≡ ws
unique e (done n) (done m) = refl
unique {s = s} e (done n) (step k x) = absurd (n _ (ap (read_at s) e ∙ k))
unique {s = s} e (step h w) (done m) = absurd (m _ (ap (read_at s) (sym e) ∙ h))
unique {s} {p} {q} e (step {v = v} h w) (step {v = u} k x) =
    let same : v ≡ u = cc in
    let more = unique (cc) w x in
    cc

pub walk_is : {s : List ℕ} {p : ℕ} {vs : List EntryView} → Walk s p vs → views_from s p ≡ vs
walk_is {s} {p} w = unique refl (walk s p) w

-- where it ends there is no entry
pub walk_ends : {s : List ℕ} {p : ℕ} {v : EntryView} {vs : List EntryView} → Walk s p vs → read_at s (end_from p vs) ≡ Whole v → ⊥
walk_ends {v = v} (done n) h = n v h
walk_ends (step q w) h = walk_ends w h

-- one turn: the entries from p on are the entry at p and those after it
pub next : (s : List ℕ) (p : ℕ) {v : EntryView} → read_at s p ≡ Whole v → views_from s p ≡ v ∷ views_from s (p + v.length)
next s p h = walk_is (step h (walk s _))

-- the last turn
pub none : (s : List ℕ) (p : ℕ) → ((v : EntryView) → read_at s p ≡ Whole v → ⊥) → views_from s p ≡ []
none s p n = walk_is (done n)

-- as the `else` of `let Reading::Whole(v) = .. else` knows it: the variant's number is not 0
pub missed : (r : Reading) → OneOf (1 ∷ 2 ∷ 3 ∷ 4 ∷ []) (tag_of the_type r) → (found r ≡ None) × ((v : EntryView) → r ≡ Whole v → ⊥)
missed (Whole v) k = absurd (miss (1 ∷ 2 ∷ 3 ∷ 4 ∷ []) 0 tt k)
missed End k = (refl, λ v. not_end)
missed Torn k = (refl, λ v. not-torn)
missed Unused k = (refl, λ v. not-unused)
missed Damage k = (refl, λ v. not-damage)

pub stops : (s : List ℕ) (p : ℕ) (r : Reading) → r ≡ read_at s p → OneOf (1 ∷ 2 ∷ 3 ∷ 4 ∷ []) (tag_of the_type r) → views_from s p ≡ []
stops s p r h k = none s p (λ v q. (missed r k).1 v (h ∙ q))

-- a walk does not go back
pub end-from : (p : ℕ) (vs : List EntryView) → p ≤ end_from p vs
end-from p [] = omega arith
end-from p (v ∷ vs) = omega (arith, end-from (p + v.length) vs)
