-- Counts and records of entries in two parts; the four change counts sum to the number of change entries, and the three transaction
-- counts to the number of Begins.
-- Assumes nothing.
use mathlib.Core.Path.{◌≡◌, refl, ◌∙◌}
use mathlib.Core.Bool.{Bool, true, false, not}
use Prim.Native.Nat.{ℕ, ◌+◌}
use native.Mathlib.Omega.{arith}
use mathlib.Core.List.{List, [], ◌∷◌, ◌++◌}
use lib.Dec.{eqb}
use Rattle.endian.specs.Pick.{pick, cons_if}
use Rattle.wal.specs.Entry.{Entry, commit, rollback}
use Rattle.rules.specs.Shape.{both, is_change}
use Rattle.rules.specs.Order.{one, count, any, is, is_begin}
use Rattle.rules.specs.Recover.{outcome_of, transactions, changes_of, changes_zero, record_of, records_of}

-- ---- entries in two parts

pub count-append : (f : Entry → Bool) (es fs : List Entry) → count f (es ++ fs) ≡ count f es + count f fs
count-append f [] fs = omega arith
count-append f (e ∷ es) fs = omega (arith, count-append f es fs)

pub count-snoc : (f : Entry → Bool) (es : List Entry) (e : Entry) → count f (es ++ (e ∷ [])) ≡ count f es + one (f e)
count-snoc f es e = count-append f es (e ∷ []) ∙ omega arith

pub records-append : (all es fs : List Entry) → records_of all (es ++ fs) ≡ records_of all es ++ records_of all fs
unfolding records_of
records-append all [] fs = refl
records-append all (e ∷ es) fs = rw (records-append all es fs) (go (is_begin e))
  where
    go : (b : Bool) → cons_if b (record_of all e) (records_of all es ++ records_of all fs) ≡ cons_if b (record_of all e) (records_of all es) ++ records_of all fs
    go true = refl
    go false = refl

-- ---- the sums

-- an outcome is one of three
sum3 : (es : List Entry) (t : ℕ) → one (eqb (outcome_of es t) 0) + one (eqb (outcome_of es t) 1) + one (eqb (outcome_of es t) 2) ≡ 1
unfolding outcome_of
sum3 es t = go (any (is commit t) es) (any (is rollback t) es)
  where
    go : (a b : Bool) → one (eqb (pick a 1 (pick b 2 0)) 0) + one (eqb (pick a 1 (pick b 2 0)) 1) + one (eqb (pick a 1 (pick b 2 0)) 2) ≡ 1
    go true b = refl
    go false true = refl
    go false false = refl

one-both : (a b : Bool) → one (both a b) ≡ pick a (one b) 0
one-both true b = refl
one-both false b = refl

module _ (es : List Entry) where
  changed : ℕ → Entry → Bool
  changed o e = both (is_change e) (both (not (eqb e.txn 0)) (eqb (outcome_of es e.txn) o))

  one-change : (e : Entry) → one (changed 0 e) + one (changed 1 e) + one (changed 2 e) + one (both (is_change e) (eqb e.txn 0)) ≡ one (is_change e)
  unfolding changed
  one-change e = go (is_change e) (eqb e.txn 0)
    where
      o : ℕ
      o = outcome_of es e.txn

      go : (a z : Bool) → one (both a (both (not z) (eqb o 0))) + one (both a (both (not z) (eqb o 1))) + one (both a (both (not z) (eqb o 2))) + one (both a z) ≡ one a
      go true true = refl
      go true false = omega (arith, sum3 es e.txn)
      go false z = refl

  each-change : (fs : List Entry) → count (changed 0) fs + count (changed 1) fs + count (changed 2) fs + count (λ e. both (is_change e) (eqb e.txn 0)) fs ≡ count is_change fs
  each-change [] = refl
  each-change (f ∷ fs) = omega (arith, one-change f, each-change fs)

  begun : ℕ → Entry → Bool
  begun o e = both (is_begin e) (eqb (outcome_of es e.txn) o)

  one-begin : (e : Entry) → one (begun 0 e) + one (begun 1 e) + one (begun 2 e) ≡ one (is_begin e)
  unfolding begun
  one-begin e = go (is_begin e)
    where
      o : ℕ
      o = outcome_of es e.txn

      go : (a : Bool) → one (both a (eqb o 0)) + one (both a (eqb o 1)) + one (both a (eqb o 2)) ≡ one a
      go true = sum3 es e.txn
      go false = refl

  each-begin : (fs : List Entry) → count (begun 0) fs + count (begun 1) fs + count (begun 2) fs ≡ count is_begin fs
  each-begin [] = refl
  each-begin (f ∷ fs) = omega (arith, one-begin f, each-begin fs)

  pub changes-sum : changes_of 1 es + changes_of 2 es + changes_of 0 es + changes_zero es ≡ count is_change es
  unfolding changes_of changes_zero changed
  changes-sum = omega (arith, each-change es)

  pub transactions-sum : transactions 1 es + transactions 2 es + transactions 0 es ≡ count is_begin es
  unfolding transactions begun
  transactions-sum = omega (arith, each-begin es)
