-- Internal: the order of transactions by two tests of an entry: one by the Begins, one by the endings; and both by first places.
use Rattle.std.specs.Prelude.{ℕ, ◌≡◌, List, Bool, true, false, not, ltb, leb, eqb}
use Rattle.endian.specs.Pick.{pick}
use Rattle.wal.specs.Entry.{Entry, checkpoint}
use Rattle.rules.specs.Shape.{both, is_change}
use Rattle.rules.specs.Order.{is_begin, begun, ended}

-- after the entries xs: a Begin needs no Begin of its number, another entry of a transaction needs one; of transaction 0 there are changes only
unfoldable pub begin_right : List Entry → Entry → Bool
begin_right xs e =
    pick (eqb e.kind checkpoint) true
    (pick (eqb e.txn 0) (is_change e)
    (pick (is_begin e) (not (begun xs e.txn)) (begun xs e.txn)))

-- but for a Begin, no ending of the transaction
unfoldable pub end_right : List Entry → Entry → Bool
end_right xs e =
    pick (eqb e.kind checkpoint) true
    (pick (eqb e.txn 0) true
    (pick (is_begin e) true (not (ended xs e.txn))))

-- the same of the entry e at p, where b is the place of the first Begin of its number
unfoldable pub begin_test : ℕ → ℕ → Entry → Bool
begin_test b p e =
    pick (eqb e.kind checkpoint) true
    (pick (eqb e.txn 0) (is_change e)
    (pick (is_begin e) (not (ltb b p)) (ltb b p)))

-- where b is the place of its first ending
unfoldable pub end_test : ℕ → ℕ → Entry → Bool
end_test b p e =
    pick (eqb e.kind checkpoint) true
    (pick (eqb e.txn 0) true
    (pick (is_begin e) true (not (ltb b p))))

-- a test fails for an entry whose number R names
abbrev pub Fails : (ℕ → Bool) → (List Entry → Entry → Bool) → List Entry → Entry → Type 0
Fails R T xs e = (R e.txn ≡ true) × (T xs e ≡ false)

-- the numbers from lo up to hi
unfoldable pub range : ℕ → ℕ → ℕ → Bool
range lo hi t = both (leb lo t) (ltb t hi)
