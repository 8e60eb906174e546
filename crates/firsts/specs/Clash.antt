-- Internal: clashes by the newest change on a slot. An entry may change several slots of a page: `slots i e` says which of page i.
use Rattle.std.specs.Prelude.{ℕ, zero, ◌+◌, ◌≡◌, List, [], ◌∷◌, Bool, true, false, not, ltb, leb, eqb}
use Rattle.endian.specs.Pick.{pick, cons_if}
use Rattle.wal.specs.Entry.{Entry, size_of}
use Rattle.rules.specs.Shape.{both, either, is_on, slot_of}
use Rattle.rules.specs.Order.{ended}

-- one of some slots passes a test
unfoldable pub some_slot : (ℕ → Bool) → List ℕ → Bool
some_slot f [] = false
some_slot f (k ∷ ks) = either (f k) (some_slot f ks)

-- k is one of them
abbrev pub has : ℕ → List ℕ → Bool
has k ks = some_slot (λ l. eqb l k) ks

-- today's entries: one slot of a change
unfoldable pub slots_on : ℕ → Entry → List ℕ
slots_on i e = pick (is_on i e) (slot_of e ∷ []) []

-- ---- by entries

-- the transaction of the newest change on slot k of page i; u where there is none
unfoldable pub newest_on : (ℕ → Entry → List ℕ) → ℕ → ℕ → ℕ → List Entry → ℕ
newest_on slots i k u [] = u
newest_on slots i k u (e ∷ es) = newest_on slots i k (pick (has k (slots i e)) e.txn u) es

-- the transaction u is not 0, another one than e's, and has not ended after the entries xs
unfoldable pub open_other : List Entry → Entry → ℕ → Bool
open_other xs e u = both (not (eqb u 0)) (both (not (eqb u e.txn)) (not (ended xs u)))

-- some slot of e was changed last by such a transaction; R names the pages, slots and transactions that are looked at
pub record ClashIn (slots : ℕ → Entry → List ℕ) (R : ℕ → ℕ → ℕ → Bool) (xs : List Entry) (e : Entry) : Type 0 where
  pub page : ℕ
  pub slot : ℕ
  pub named : R page slot (newest_on slots page slot zero xs) ≡ true
  pub changed : has slot (slots page e) ≡ true
  pub is_other : open_other xs e (newest_on slots page slot zero xs) ≡ true

-- every slot
abbrev pub everywhere : ℕ → ℕ → ℕ → Bool
everywhere i k t = true

-- the pages below n
abbrev pub pages_below : ℕ → ℕ → ℕ → ℕ → Bool
pages_below n i k t = ltb i n

-- the slots and transactions of page i that Q names
abbrev pub slots_of : ℕ → (ℕ → ℕ → Bool) → ℕ → ℕ → ℕ → Bool
slots_of i Q j k t = both (eqb j i) (Q k t)

-- two entries clash as the rules say, where `meets` says whether two entries change one slot
unfoldable pub clashes_by : (Entry → Entry → Bool) → List Entry → Entry → Entry → Bool
clashes_by meets es e f = both (meets e f) (both (not (eqb f.txn e.txn)) (both (not (eqb f.txn 0)) (not (ended es f.txn))))

-- they change one slot where they share one
pub record Shared (slots : ℕ → Entry → List ℕ) (e f : Entry) : Type 0 where
  pub page : ℕ
  pub slot : ℕ
  pub one : has slot (slots page e) ≡ true
  pub other : has slot (slots page f) ≡ true

pub record Sharing (slots : ℕ → Entry → List ℕ) (meets : Entry → Entry → Bool) : Type 0 where
  pub from : (e f : Entry) → meets e f ≡ true → Shared slots e f
  pub to : (e f : Entry) → Shared slots e f → meets e f ≡ true

-- ---- by the changes of one page alone, with their places

pub record Mark : Type 0 where
  pub place : ℕ
  pub entry : Entry

-- the entries that change page i, in order
unfoldable pub marks_on : (ℕ → Entry → List ℕ) → ℕ → List Entry → ℕ → List Mark
marks_on slots i [] at = []
marks_on slots i (e ∷ es) at = cons_if (some_slot (λ k. true) (slots i e)) (record { place = at; entry = e }) (marks_on slots i es (at + size_of e))

-- the same by the place of the first ending of u
unfoldable pub open_at : (ℕ → ℕ) → ℕ → Entry → ℕ → Bool
open_at E p e u = both (not (eqb u 0)) (both (not (eqb u e.txn)) (not (ltb (E u) p)))

-- one slot of the mark's, one that Q names, clashes, where `u k` is the newest transaction of slot k
abbrev pub clash_at : (ℕ → Entry → List ℕ) → (ℕ → ℕ) → (ℕ → ℕ → Bool) → ℕ → (ℕ → ℕ) → Mark → Bool
clash_at slots E Q i u m = some_slot (λ k. both (Q k (u k)) (open_at E m.place m.entry (u k))) (slots i m.entry)

-- the newest after one mark more
abbrev pub noted : (ℕ → Entry → List ℕ) → ℕ → (ℕ → ℕ) → Mark → ℕ → ℕ
noted slots i u m k = pick (has k (slots i m.entry)) m.entry.txn (u k)

-- the place of the first clash before stop, or stop
unfoldable pub clash_walk : (ℕ → Entry → List ℕ) → (ℕ → ℕ) → (ℕ → ℕ → Bool) → ℕ → ℕ → (ℕ → ℕ) → List Mark → ℕ
clash_walk slots E Q i stop u [] = stop
clash_walk slots E Q i stop u (m ∷ ms) =
    pick (leb stop m.place) stop
    (pick (clash_at slots E Q i u m) m.place
    (clash_walk slots E Q i stop (noted slots i u m) ms))
