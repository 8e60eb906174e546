-- The first entry out of order is the first that fails one of two tests by first places; tests go block by block of numbers.
-- Assumes nothing.
use mathlib.Core.Path.{◌≡◌, refl, sym, ap₂, ◌∙◌}
use mathlib.Core.Bool.{Bool, true, false, not}
use Prim.Native.Nat.{ℕ, ◌+◌, ◌≤◌, ◌<◌}
use native.Mathlib.Omega.{arith}
use native.Mathlib.Decide.{dec_lt}
use mathlib.Core.List.{List, [], ◌∷◌, ◌++◌}
use lib.Dec.{ltb, leb, eqb}
use borrow.Author.Tests.{lt-ltb, le-ltb, le-leb, lt-leb, ltb-true, ltb-false, eq-eqb, ne_eqb}
use Rattle.endian.specs.Pick.{pick}
use Rattle.wal.specs.Entry.{Entry, sizes_of, begin, commit, rollback, checkpoint}
use Rattle.rules.specs.Shape.{both, either, is_change}
use Rattle.rules.specs.Order.{any, is, is_begin, begun, ended, is_open, in_order}
use Rattle.rules.proofs.Tests.{false-true, both_true, true-both, not-true}
use Rattle.firsts.specs.First.{first_at, is_ending, Tells, FirstOf}
use Rattle.firsts.specs.Tests.{begin_right, end_right, begin_test, end_test, Fails, range}
use Rattle.firsts.proofs.FirstLaws.{first_any, tells_first, first-join}

-- ---- an entry

pub ended-any : (xs : List Entry) (t : ℕ) → ended xs t ≡ any (is_ending t) xs
unfolding ended
ended-any [] t = refl
ended-any (x ∷ xs) t = go (is commit t x) (is rollback t x) (any (is commit t) xs) (ended-any xs t)
  where
    go : (a b c : Bool) → either c (any (is rollback t) xs) ≡ any (is_ending t) xs → either (either a c) (either b (any (is rollback t) xs)) ≡ either (either a b) (any (is_ending t) xs)
    go true b c h = refl
    go false true true h = refl
    go false true false h = refl
    go false false c h = h

-- in order is right by both tests
pub order-both : (xs : List Entry) (e : Entry) → in_order xs e ≡ both (begin_right xs e) (end_right xs e)
unfolding in_order is_open begin_right end_right
order-both xs e = go (eqb e.kind checkpoint) (eqb e.txn 0) (is_begin e) (is_change e) (begun xs e.txn) (not (ended xs e.txn))
  where
    go : (c z b k s n : Bool) → pick c true (pick z k (pick b (not s) (both s n))) ≡ both (pick c true (pick z k (pick b (not s) s))) (pick c true (pick z true (pick b true n)))
    go true z b k s n = refl
    go false true b true s n = refl
    go false true b false s n = refl
    go false false true k true n = refl
    go false false true k false n = refl
    go false false false k true n = refl
    go false false false k false n = refl

module _ {es : List Entry} {at stop b : ℕ} (xs ys : List Entry) (e : Entry) (split : es ≡ xs ++ ys) (up : at + sizes_of xs ≤ stop) where
  pub begin-test : Tells (is begin e.txn) es at stop b → begin_right xs e ≡ begin_test b (at + sizes_of xs) e
  unfolding begin_right begin_test begun
  begin-test h = rw (h.tell xs ys split up)

  pub end_test_lem : Tells (is_ending e.txn) es at stop b → end_right xs e ≡ end_test b (at + sizes_of xs) e
  unfolding end_right end_test
  end_test_lem h = rw (ended-any xs e.txn, h.tell xs ys split up)

-- in order, by the first places of the whole list
pub order-places : {es : List Entry} (at : ℕ) (xs : List Entry) (e : Entry) (ys : List Entry) → es ≡ xs ++ (e ∷ ys)
    → in_order xs e ≡ both (begin_test (first_at (is begin e.txn) es at) (at + sizes_of xs) e) (end_test (first_at (is_ending e.txn) es at) (at + sizes_of xs) e)
order-places {es} at xs e ys split =
    order-both xs e
    ∙ ap₂ both (begin-test xs (e ∷ ys) e split (omega arith) (tells_first (is begin e.txn) es at (at + sizes_of xs)))
    (end_test_lem xs (e ∷ ys) e split (omega arith) (tells_first (is_ending e.txn) es at (at + sizes_of xs)))

-- a Begin is the first of its number exactly if the first one stands where it stands
pub begin-own : {es : List Entry} {at stop b : ℕ} (xs : List Entry) (e : Entry) (ys : List Entry) → es ≡ xs ++ (e ∷ ys) → is_begin e ≡ true
    → FirstOf (λ us f. is begin e.txn f ≡ true) es at stop b → not (ltb b (at + sizes_of xs)) ≡ eqb b (at + sizes_of xs)
begin-own {es} {at} {stop} {b} xs e ys split k f = go (dec_lt b (at + sizes_of xs))
  where
    up : at + sizes_of xs < b → ⊥
    up l = f.none xs e ys split l (true-both k (eq-eqb e.txn e.txn refl))

    go : Dec (b < at + sizes_of xs) → not (ltb b (at + sizes_of xs)) ≡ eqb b (at + sizes_of xs)
    go (yes l) = rw (lt-ltb b (at + sizes_of xs) l, ne_eqb b (at + sizes_of xs) (λ q. omega arith))
    go (no l) = at-it (dec_lt (at + sizes_of xs) b)
      where
        at-it : Dec (at + sizes_of xs < b) → not (ltb b (at + sizes_of xs)) ≡ eqb b (at + sizes_of xs)
        at-it (yes m) = absurd (up m)
        at-it (no m) = rw (le-ltb b (at + sizes_of xs) (omega arith), eq-eqb b (at + sizes_of xs) (omega arith))

-- ---- searches

-- the first entry out of order: a search by Begins, then one by endings in what it left, or the other way round
pub order-first : {es : List Entry} {at stop limit r : ℕ} → FirstOf (λ xs e. begin_right xs e ≡ false) es at stop limit → FirstOf (λ xs e. end_right xs e ≡ false) es at limit r
    → FirstOf (λ xs e. in_order xs e ≡ false) es at stop r
order-first f g = first-join or left right f g
  where
    or : (xs : List Entry) (e : Entry) → (begin_right xs e ≡ false → ⊥) → (end_right xs e ≡ false → ⊥) → in_order xs e ≡ false → ⊥
    or xs e a b h = go (begin_right xs e) (end_right xs e) a b (sym (order-both xs e) ∙ h)
      where
        go : (x y : Bool) → (x ≡ false → ⊥) → (y ≡ false → ⊥) → both x y ≡ false → ⊥
        go true true a b h = false-true (sym h)
        go true false a b h = b refl
        go false y a b h = a refl

    left : (xs : List Entry) (e : Entry) → begin_right xs e ≡ false → in_order xs e ≡ false
    left xs e h = order-both xs e ∙ rw h

    right : (xs : List Entry) (e : Entry) → end_right xs e ≡ false → in_order xs e ≡ false
    right xs e h = order-both xs e ∙ rw h (go (begin_right xs e))
      where
        go : (x : Bool) → both x false ≡ false
        go true = refl
        go false = refl

-- one block of numbers after another, each in what the one before left
pub block-join : (R S W : ℕ → Bool) {T : List Entry → Entry → Bool} {es : List Entry} {at stop limit r : ℕ} → ((t : ℕ) → W t ≡ either (R t) (S t))
    → FirstOf (Fails R T) es at stop limit → FirstOf (Fails S T) es at limit r → FirstOf (Fails W T) es at stop r
block-join R S W {T} w f g = first-join or left right f g
  where
    or : (xs : List Entry) (e : Entry) → (Fails R T xs e → ⊥) → (Fails S T xs e → ⊥) → Fails W T xs e → ⊥
    or xs e a b h = go (R e.txn) refl (sym (w e.txn) ∙ h.0)
      where
        go : (x : Bool) → R e.txn ≡ x → either x (S e.txn) ≡ true → ⊥
        go true q k = a (q, h.1)
        go false q k = b (k, h.1)

    left : (xs : List Entry) (e : Entry) → Fails R T xs e → Fails W T xs e
    left xs e h = (w e.txn ∙ rw h.0, h.1)

    right : (xs : List Entry) (e : Entry) → Fails S T xs e → Fails W T xs e
    right xs e h = (w e.txn ∙ rw h.0 (go (R e.txn)), h.1)
      where
        go : (x : Bool) → either x true ≡ true
        go true = refl
        go false = refl

-- blocks that have every number of the entries
pub block-all : (R : ℕ → Bool) {T : List Entry → Entry → Bool} {es : List Entry} {at stop r : ℕ} → ((xs : List Entry) (e : Entry) (ys : List Entry) → es ≡ xs ++ (e ∷ ys) → R e.txn ≡ true)
    → FirstOf (Fails R T) es at stop r → FirstOf (λ xs e. T xs e ≡ false) es at stop r
block-all R w f =
    record {
      low = f.low;
      none = λ xs e ys q l h. f.none xs e ys q l (w xs e ys q, h);
      some = λ l. let s = f.some l in record { xs = s.xs; e = s.e; ys = s.ys; split = s.split; place = s.place; holds = s.holds.1 };
    }

-- blocks that are ranges
pub range_split : (lo mid hi t : ℕ) → lo ≤ mid → mid ≤ hi → range lo hi t ≡ either (range lo mid t) (range mid hi t)
unfolding range
range_split lo mid hi t h k = go (dec_lt t mid) (dec_lt t lo) (dec_lt t hi)
  where
    go : Dec (t < mid) → Dec (t < lo) → Dec (t < hi) → both (leb lo t) (ltb t hi) ≡ either (both (leb lo t) (ltb t mid)) (both (leb mid t) (ltb t hi))
    go (yes x) (yes y) z = rw (lt-leb lo t y, lt-leb mid t x)
    go (yes x) (no y) z = rw (le-leb lo t (omega arith), lt-ltb t mid x, lt-ltb t hi (omega arith))
    go (no x) y (yes z) = rw (le-leb lo t (omega arith), le-leb mid t (omega arith), le-ltb t mid (omega arith), lt-ltb t hi z)
    go (no x) y (no z) = rw (le-leb lo t (omega arith), le-leb mid t (omega arith), le-ltb t mid (omega arith), le-ltb t hi (omega arith))

pub range_all : (hi t : ℕ) → t < hi → range 0 hi t ≡ true
unfolding range
range_all hi t h = rw (le-leb 0 t (omega arith), lt-ltb t hi h)

-- ---- what order tells of the first places

pub record Going (es : List Entry) (at : ℕ) (xs : List Entry) (t : ℕ) : Type 0 where
  pub begins : begun xs t ≡ true
  pub going : ended xs t ≡ false
  pub after : first_at (is begin t) es at < at + sizes_of xs
  pub before : at + sizes_of xs ≤ first_at (is_ending t) es at

pub going_on : {es : List Entry} {at : ℕ} (xs : List Entry) (e : Entry) (ys : List Entry) → es ≡ xs ++ (e ∷ ys) → in_order xs e ≡ true
    → eqb e.kind checkpoint ≡ false → eqb e.txn 0 ≡ false → is_begin e ≡ false → Going es at xs e.txn
unfolding in_order is_open begun
going_on {es} {at} xs e ys split h c z b =
    let o : both (begun xs e.txn) (not (ended xs e.txn)) ≡ true = rw (c, z, b) at h in
    let k = both_true (begun xs e.txn) (not (ended xs e.txn)) o in
    let n : ended xs e.txn ≡ false = not-true (ended xs e.txn) k.1 in
    let first : any (is begin e.txn) xs ≡ ltb (first_at (is begin e.txn) es at) (at + sizes_of xs) = rw split (first_any (is begin e.txn) xs (e ∷ ys) at) in
    let last : any (is_ending e.txn) xs ≡ ltb (first_at (is_ending e.txn) es at) (at + sizes_of xs) = rw split (first_any (is_ending e.txn) xs (e ∷ ys) at) in
    record {
      begins = k.0;
      going = n;
      after = ltb-true (first_at (is begin e.txn) es at) (at + sizes_of xs) (sym first ∙ k.0);
      before = ltb-false (first_at (is_ending e.txn) es at) (at + sizes_of xs) (sym last ∙ sym (ended-any xs e.txn) ∙ n);
    }

-- in the whole list's firsts: ended before an entry is an ending before it
pub ended-first : {es : List Entry} (at : ℕ) (xs ys : List Entry) (t : ℕ) → es ≡ xs ++ ys → ended xs t ≡ ltb (first_at (is_ending t) es at) (at + sizes_of xs)
ended-first {es} at xs ys t split = ended-any xs t ∙ rw split (first_any (is_ending t) xs ys at)

pub begun_first : {es : List Entry} (at : ℕ) (xs ys : List Entry) (t : ℕ) → es ≡ xs ++ ys → begun xs t ≡ ltb (first_at (is begin t) es at) (at + sizes_of xs)
unfolding begun
begun_first {es} at xs ys t split = rw split (first_any (is begin t) xs ys at)
