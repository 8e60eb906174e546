-- Which image wins, and the mended page (paper 01, Which image wins). E is the accepted list of entries.
use Rattle.std.specs.Prelude.{ℕ, zero, suc, ◌≤◌, ◌<◌, max, ◌≡◌, Bool, List, [], ◌∷◌, ◌++◌, eqb}
use Rattle.endian.specs.Pick.{pick}
use Rattle.wal.specs.Entry.{Entry, commit}
use Rattle.page.specs.Layout.{body_bytes, data_type, magic_of, type_of, count_of, id_of, lsn_of, reserved_of, slot_at}
use Rattle.page.specs.Packed.{Head, packed, tab, room_for}
use Rattle.page.specs.Good.{Good}
use Rattle.rules.specs.Shape.{ChangeOf, Change, either, effect_on, top_on, lsn_on}
use Rattle.rules.specs.Order.{any, is}

-- a transaction counts as committed if it is 0 or its Commit is among the entries
unfoldable pub committed : List Entry → ℕ → Bool
committed es t = either (eqb t 0) (any (is commit t) es)

-- ---- one slot

-- the after-image of the last change by a transaction that c says committed; d where there is none
abbrev pub last_after : {A : Type 0} → (ℕ → Bool) → List (ChangeOf A) → A → A
last_after c [] d = d
last_after c (x ∷ xs) d = last_after c xs (pick (c x.by) x.after d)

-- what a slot that holds v is to hold, by the changes on it: the after-image of the last that committed, else the before-image of the first; untouched, v.
-- Said of images and, for reading a row, of where they stand
abbrev pub winner : {A : Type 0} → (ℕ → Bool) → List (ChangeOf A) → A → A
winner c [] v = v
winner c (x ∷ xs) v = last_after c (x ∷ xs) x.before

-- ---- page i

-- the changes on slot k, in the order of the log
unfoldable pub changes : ℕ → ℕ → List Entry → List Change
changes i k [] = []
changes i k (e ∷ es) = effect_on i k e ++ changes i k es

-- one more than the highest touched slot; 0 where the page is untouched
unfoldable pub top_of : ℕ → List Entry → ℕ
top_of i [] = zero
top_of i (e ∷ es) = max (top_on i e) (top_of i es)

-- the LSN of the last change on the page, committed or not; LSNs rise, so it is the largest
unfoldable pub last_on : ℕ → List Entry → ℕ
last_on i [] = zero
last_on i (e ∷ es) = max (lsn_on i e) (last_on i es)

-- c says which transactions committed
module _ (c : ℕ → Bool) (es : List Entry) (i : ℕ) where
  -- what slot k, which holds v, is to hold
  unfoldable pub decided : ℕ → List ℕ → List ℕ
  decided k v = winner c (changes i k es) v

  -- the slots that page p is to have: item count the larger of its own and 1 + highest touched slot
  unfoldable pub slots_for : List ℕ → List (List ℕ)
  slots_for p = tab (max (count_of p) (top_of i es)) (λ k. decided k (slot_at p k))

  -- what rewriting keeps of the page, and the LSN it gets
  abbrev pub head_for : List ℕ → Head
  head_for p = record { magic = magic_of p; type = type_of p; id = id_of p; lsn = max (lsn_of p) (last_on i es); reserved = reserved_of p }

  abbrev pub repacked : List ℕ → List ℕ
  repacked p = packed (head_for p) (slots_for p)

  abbrev pub unless : ℕ → List ℕ → List ℕ → List ℕ
  unless zero p q = p
  unless (suc n) p q = q

  -- an untouched page keeps every byte
  unfoldable pub mend_by : List ℕ → List ℕ
  mend_by p = unless (top_of i es) p (repacked p)

-- page i, mended by the entries
unfoldable pub mend : List Entry → ℕ → List ℕ → List ℕ
mend es i p = mend_by (committed es) es i p

-- page i is accepted (11, 12, 13 and 14 of it): good, its LSN not above both the floor and the last one, and where it is touched a Data page with room
pub record Accepts (c : ℕ → Bool) (magic floor last : ℕ) (es : List Entry) (i : ℕ) (p : List ℕ) : Type 0 where
  pub good : Good magic i p
  pub lsn_known : lsn_of p ≤ max floor last
  pub is_data : 0 < top_of i es → type_of p ≡ data_type
  pub has_room : 0 < top_of i es → room_for (slots_for c es i p) ≤ body_bytes
