-- The shapes of entries, and what a change does to a slot (paper 01, Log and Which image wins).
use Rattle.std.specs.Prelude.{ℕ, zero, suc, List, [], ◌∷◌, ◌++◌, Bool, true, false, length, take, drop, leb, eqb}
use Rattle.endian.specs.Pick.{pick}
use Rattle.endian.specs.Numbers.{bytes_of, number_at}
use Rattle.wal.specs.Entry.{Entry, begin, commit, rollback, insert, delete, checkpoint, update}
use Rattle.page.specs.Layout.{deleted_of, row_head, longest_tuple}

abbrev pub both : Bool → Bool → Bool
both a b = pick a b false

abbrev pub either : Bool → Bool → Bool
either a b = pick a true b

-- ---- types

-- refusal 5: another type
unfoldable pub is_known : ℕ → Bool
is_known k =
    either (eqb k begin) (either (eqb k commit) (either (eqb k rollback) (either (eqb k insert) (either (eqb k delete) (either (eqb k checkpoint) (eqb k update))))))

unfoldable pub is_changing : ℕ → Bool
is_changing k = either (eqb k insert) (either (eqb k delete) (eqb k update))

abbrev pub is_change : Entry → Bool
is_change e = is_changing e.kind

-- ---- shapes: refusal 6

-- a tuple image has 24 to 16,316 bytes, deleted byte 0 or 1
unfoldable pub is_image : List ℕ → Bool
is_image t = both (leb row_head (length t)) (both (leb (length t) longest_tuple) (leb (deleted_of t) 1))

abbrev pub is_none : List ℕ → Bool
is_none l = eqb (length l) 0

-- two lists are the same
unfoldable pub same : List ℕ → List ℕ → Bool
same [] [] = true
same [] (y ∷ m) = false
same (x ∷ l) [] = false
same (x ∷ l) (y ∷ m) = both (eqb x y) (same l m)

-- a key is a page number of 8 bytes and a slot number of 2
abbrev pub key_bytes : ℕ
key_bytes = 10

abbrev pub is_key : List ℕ → Bool
is_key k = eqb (length k) key_bytes

-- a value that begins with the key again, then a tuple image
unfoldable pub is_keyed : List ℕ → List ℕ → Bool
is_keyed k v = both (same (take key_bytes v) k) (is_image (drop key_bytes v))

-- no key, no values
unfoldable pub is_bare : Entry → Bool
is_bare e = both (is_none e.key) (both (is_none e.old) (is_none e.new))

unfoldable pub is_shaped : Entry → Bool
is_shaped e =
    pick (eqb e.kind insert) (both (is_key e.key) (both (is_none e.old) (is_image e.new)))
    (pick (eqb e.kind delete) (both (is_key e.key) (both (is_image e.old) (is_none e.new)))
    (pick (eqb e.kind update) (both (is_key e.key) (both (is_keyed e.key e.old) (is_keyed e.key e.new)))
    (pick (eqb e.kind checkpoint) (both (is_bare e) (eqb e.txn 0))
    (is_bare e))))

-- ---- images

-- the page and the slot of a change
abbrev pub page_of : Entry → ℕ
page_of e = number_at 8 0 e.key

abbrev pub slot_of : Entry → ℕ
slot_of e = number_at 2 8 e.key

-- a tuple deleted by transaction x: xmax is x, and the deleted byte 1
unfoldable pub stamped : ℕ → List ℕ → List ℕ
stamped x t = take 8 t ++ (bytes_of 8 x ++ (1 ∷ drop 17 t))

-- before-image: nothing for an Insert, else the old image
unfoldable pub before_of : Entry → List ℕ
before_of e = pick (eqb e.kind insert) [] (pick (eqb e.kind delete) e.old (drop key_bytes e.old))

-- after-image: the new image; of a Delete the old one, stamped
unfoldable pub after_of : Entry → List ℕ
after_of e = pick (eqb e.kind insert) e.new (pick (eqb e.kind delete) (stamped e.txn e.old) (drop key_bytes e.new))

-- ---- effects: what an entry does to the slots of page i

-- a change of one slot: by which transaction, and what stands for the slot's tuple before and after it
pub record ChangeOf (A : Type 0) : Type 0 where
  pub by : ℕ
  pub before : A
  pub after : A

-- with the tuples themselves ([] for none)
abbrev pub Change : Type 0
Change = ChangeOf (List ℕ)

-- the entry changes page i
unfoldable pub is_on : ℕ → Entry → Bool
is_on i e = both (is_change e) (eqb (page_of e) i)

-- the changes of the entry on slot k of page i
unfoldable pub effect_on : ℕ → ℕ → Entry → List Change
effect_on i k e = pick (both (is_on i e) (eqb (slot_of e) k)) (record { by = e.txn; before = before_of e; after = after_of e } ∷ []) []

-- one more than the highest slot of page i that the entry changes; 0 where it changes none
unfoldable pub top_on : ℕ → Entry → ℕ
top_on i e = pick (is_on i e) (suc (slot_of e)) zero

-- the entry's LSN where it changes page i, else 0
unfoldable pub lsn_on : ℕ → Entry → ℕ
lsn_on i e = pick (is_on i e) e.lsn zero

-- the two entries change one slot
unfoldable pub same_slot : Entry → Entry → Bool
same_slot e f = both (is_on (page_of e) f) (both (is_change e) (eqb (slot_of e) (slot_of f)))
