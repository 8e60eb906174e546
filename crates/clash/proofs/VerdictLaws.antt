-- The first clash on some pages, group by group. Assumes nothing.
use Prim.Native.Nat.{ℕ, ◌+◌, ◌^◌, ◌≤◌, ◌<◌, max}
use mathlib.Core.Path.{◌≡◌, refl, sym, ap, ◌∙◌}
use mathlib.Core.Bool.{Bool, true, false}
use mathlib.Core.List.{List, [], ◌∷◌, ◌++◌, append_assoc}
use native.Mathlib.Omega.{arith}
use native.Mathlib.Decide.{dec_lt, ℕ_discrete}
use lib.ListN.{get_or}
use lib.Dec.{ltb, leb}
use borrow.Author.Tests.{lt-ltb, le-ltb, le-leb, lt-leb}
use Rattle.endian.specs.Numbers.{Bytes}
use Rattle.endian.proofs.Bytes.{number-range, bytes_take, bytes_drop}
use Rattle.wal.specs.Entry.{Entry, entry_of}
use Rattle.wal.specs.Read.{key_len, view}
use Rattle.wal.specs.Prefix.{Met, said, before}
use Rattle.wal.proofs.Prefix.{Along, start, more, along, met-from, met-below, before-next}
use Rattle.rules.specs.Shape.{both, either, is_change, page_of, top_on}
use Rattle.rules.specs.Mend.{top_of}
use Rattle.rules.proofs.Slots.{top-append}
use Rattle.rules.proofs.Tests.{false-true, true-both}
use Rattle.states.specs.Clash.{clash_after}
use Rattle.cells.specs.Measure.{Sound, is_beyond, FirstBeyond}
use Rattle.cells.specs.Cell.{Starts}
use Rattle.cells.proofs.Soundness.{none_before}
use Rattle.clash.specs.First.{is_in, clash_in, FirstIn}
use Rattle.clash.specs.Group.{Ground}
use Rattle.clash.proofs.NewestLaws.{no-clash}

module _ (s : List ℕ) where
  -- the entries before a later place are those before an earlier one, the entry there and some more
  later : {p q : ℕ} → Met s p → p < q → Along s q → (rest : List Entry) × (before s q ≡ before s p ++ (said s p ∷ rest))
  later {p} m l start = absurd (omega (arith, met-from s m))
  later {p} {q} m l (more {p = r} w n h e) = go (ℕ_discrete p r) (dec_lt p r) (λ k. later m k w)
    where
      step : before s q ≡ before s r ++ (said s r ∷ [])
      step = ap (before s) e ∙ before-next s n h

      go : Dec (p ≡ r) → Dec (p < r) → (p < r → (rest : List Entry) × (before s r ≡ before s p ++ (said s p ∷ rest))) → (rest : List Entry) × (before s q ≡ before s p ++ (said s p ∷ rest))
      go (yes z) d f = ([], step ∙ rw z)
      go (no z) (yes k) f =
          let g = f k in
          (g.0 ++ (said s r ∷ []), step ∙ ap (λ (l : List Entry). l ++ (said s r ∷ [])) g.1 ∙ append_assoc (before s p) (said s p ∷ g.0) (said s r ∷ []))
      go (no z) (no k) f = absurd (omega (arith, (met-below s n m (omega arith)).next))

  -- ---- all pages
  page-in : Bytes s → (p : ℕ) → is_in 0 (2 ^ 64) (said s p) ≡ true
  unfolding is_in entry_of view
  page-in b p =
      let h : page_of (said s p) < 2 ^ 64 = number-range 8 0 (bytes_take (key_len s p) (bytes_drop (p + 27) b)) in
      true-both (le-leb 0 (page_of (said s p)) (omega arith)) (lt-ltb (page_of (said s p)) (2 ^ 64) h)

  pub clash-all : Bytes s → (p : ℕ) → clash_in 0 (2 ^ 64) s p ≡ clash_after (before s p) (said s p)
  clash-all b p = rw (page-in b p)

-- ---- group by group
in_split : (a b c : ℕ) (e : Entry) → a ≤ b → b ≤ c → is_in a c e ≡ either (is_in a b e) (is_in b c e)
unfolding is_in
in_split a b c e h k = go (dec_lt (page_of e) b) (dec_lt (page_of e) a) (dec_lt (page_of e) c)
  where
    go : Dec (page_of e < b) → Dec (page_of e < a) → Dec (page_of e < c) → both (leb a (page_of e)) (ltb (page_of e) c) ≡ either (both (leb a (page_of e)) (ltb (page_of e) b)) (both (leb b (page_of e)) (ltb (page_of e) c))
    go (yes x) (yes y) z = rw (lt-leb a (page_of e) y, lt-leb b (page_of e) x)
    go (yes x) (no y) z = rw (le-leb a (page_of e) (omega arith), lt-ltb (page_of e) b x, lt-ltb (page_of e) c (omega arith))
    go (no x) y (yes z) = rw (le-leb a (page_of e) (omega arith), le-leb b (page_of e) (omega arith), le-ltb (page_of e) b (omega arith), lt-ltb (page_of e) c z)
    go (no x) y (no z) = rw (le-leb a (page_of e) (omega arith), le-leb b (page_of e) (omega arith), le-ltb (page_of e) b (omega arith), le-ltb (page_of e) c (omega arith))

clash-split : (a b c : ℕ) (s : List ℕ) (p : ℕ) → a ≤ b → b ≤ c → clash_in a b s p ≡ false → clash_in b c s p ≡ false → clash_in a c s p ≡ false
clash-split a b c s p h k x y = rw (in_split a b c (said s p) h k) (go (is_in a b (said s p)) (is_in b c (said s p)) (clash_after (before s p) (said s p)) x y)
  where
    go : (i j r : Bool) → both i r ≡ false → both j r ≡ false → both (either i j) r ≡ false
    go true j r x y = x
    go false j r x y = y

pub first-none : (s : List ℕ) (stop : ℕ) → Met s stop → FirstIn 0 0 s stop stop
unfolding is_in
first-none s stop m = record { met = m; low = omega arith; none = λ p n l. rw (le-leb 0 (page_of (said s p)) (omega arith), le-ltb (page_of (said s p)) 0 (omega arith)); some = λ l. absurd (omega arith) }

pub first_more : {a b c : ℕ} {s : List ℕ} {stop limit r : ℕ} → a ≤ b → b ≤ c → FirstIn a b s stop limit → FirstIn b c s limit r → FirstIn a c s stop r
first_more {a} {b} {c} {s} {stop} {limit} {r} h k f g =
    record {
      met = g.met;
      low = omega (arith, f.low, g.low);
      none = λ p m l. clash-split a b c s p h k (f.none p m (omega (arith, g.low))) (g.none p m l);
      some = λ l. some l (dec_lt r limit);
    }
  where
    some : r < stop → Dec (r < limit) → clash_after (before s r) (said s r) ≡ true
    some l (yes x) = g.some x
    some l (no x) =
        let e : r ≡ limit = omega (arith, g.low) in
        ap (λ (y : ℕ). clash_after (before s y) (said s y)) e ∙ f.some (omega arith)

not_beyond : (s : List ℕ) (n p : ℕ) → is_beyond n (said s p) ≡ false → clash_in n (2 ^ 64) s p ≡ false
unfolding is_beyond is_in
not_beyond s n p = go (is_change (said s p)) refl (leb n (page_of (said s p)))
  where
    go : (c : Bool) → is_change (said s p) ≡ c → (l : Bool) → both c l ≡ false → both (both l (ltb (page_of (said s p)) (2 ^ 64))) (clash_after (before s p) (said s p)) ≡ false
    go true e true b = false-true (sym b)
    go c e false b = refl
    go false e true b = rw (no-clash (before s p) (said s p) e) (never (ltb (page_of (said s p)) (2 ^ 64)))
      where
        never : (x : Bool) → both x false ≡ false
        never true = refl
        never false = refl

-- changes beyond the lent pages: none before a place that is not behind the first of them
pub none-beyond : {s : List ℕ} {stop n beyond limit : ℕ} → FirstBeyond s stop n beyond → Met s limit → limit ≤ beyond → FirstIn n (2 ^ 64) s limit limit
none-beyond {s} {stop} {n} {beyond} {limit} f m h =
    record { met = m; low = omega arith; none = λ p q l. not_beyond s n p (none_before (is_beyond n) q f.met (omega arith) f.none); some = λ l. absurd (omega arith) }

-- a change on a page from n on
module _ (s : List ℕ) (n p : ℕ) (bytes : Bytes s) where
  pub no-change-beyond : is_change (said s p) ≡ false → clash_in n (2 ^ 64) s p ≡ false
  unfolding is_beyond
  no-change-beyond h = not_beyond s n p (rw h)

  pub low-beyond : page_of (said s p) < n → clash_in n (2 ^ 64) s p ≡ false
  unfolding is_in
  low-beyond h = rw (lt-leb n (page_of (said s p)) h)

  pub high-beyond : n ≤ page_of (said s p) → {r : Bool} → r ≡ clash_after (before s p) (said s p) → r ≡ clash_in n (2 ^ 64) s p
  unfolding is_in entry_of view
  high-beyond h e =
      let b : page_of (said s p) < 2 ^ 64 = number-range 8 0 (bytes_take (key_len s p) (bytes_drop (p + 27) bytes)) in
      e ∙ sym (rw (le-leb n (page_of (said s p)) h, lt-ltb (page_of (said s p)) (2 ^ 64) b))

-- ---- the ground of a group
top-reach : {s : List ℕ} {p stop : ℕ} → Met s p → Met s stop → p < stop → (i : ℕ) → top_on i (said s p) ≤ top_of i (before s stop)
unfolding top_of
top-reach {s} {p} {stop} m n l i =
    let g = later s m l (along n) in
    let e : top_of i (before s stop) ≡ max (top_of i (before s p)) (max (top_on i (said s p)) (top_of i g.0)) = ap (top_of i) g.1 ∙ top-append i (before s p) (said s p ∷ g.0) in
    omega arith

pub ground : {s starts : List ℕ} {stop limit n lo hi : ℕ} → Met s stop → Sound s stop → Starts (before s stop) n starts → limit ≤ stop → lo < hi → hi ≤ n → n ≤ 4096 → get_or starts hi 0 ≤ get_or starts lo 0 + 327680
    → Ground s starts limit lo hi
ground {s} {stop = stop} {n = n} m k b l o w most z =
    record {
      es = before s stop;
      n = n;
      begin = b;
      reach = λ p q h i. top-reach q m (omega arith) i;
      shaped = λ p q h. k.shaped q (omega arith);
      order = o;
      within = w;
      most = most;
      size = z;
    }
