-- When repaired pages are right, in the words of paper 02, W10: without the search that finds where they are not.
use Rattle.std.specs.Prelude.{ℕ, ◌≤◌, ◌<◌, ◌≡◌, ◌⊎◌, List, length}
use Rattle.wal.specs.Entry.{Entry}
use Rattle.wal.specs.Walk.{entries}
use Rattle.page.specs.Layout.{pages_in, page_at, magic_of, type_of, id_of, reserved_of, slot_at}
use Rattle.page.specs.Good.{Good}
use Rattle.rules.specs.Order.{never_full}
use Rattle.rules.specs.Mend.{top_of}
use Rattle.rules.specs.Lent.{Lent}
use Rattle.rules.specs.Recover.{recover_verdict, mended_from}

-- ---- page i, which was p, is r by our recovery, and q after

-- what rewriting keeps of a page's header is the same
pub record SameHead (p q : List ℕ) : Type 0 where
  pub magic : magic_of p ≡ magic_of q
  pub type : type_of p ≡ type_of q
  pub id : id_of p ≡ id_of q
  pub reserved : reserved_of p ≡ reserved_of q

-- a page that the log does not touch is the same bytes; a touched one has the header but for packing, flags, LSN and item count, and each slot holds the same tuple as ours: a slot past the count
-- holds none
pub record PageRight (es : List Entry) (i : ℕ) (p r q : List ℕ) : Type 0 where
  pub untouched : top_of i es ≡ 0 → p ≡ q
  pub head : 0 < top_of i es → SameHead p q
  pub slots : 0 < top_of i es → (k : ℕ) → slot_at r k ≡ slot_at q k

-- slot k is the one that a no names: slot 0 for an untouched page or a header that differs, else the lowest whose tuple is not ours
pub record SlotNamed (es : List Entry) (i : ℕ) (p r q : List ℕ) (k : ℕ) : Type 0 where
  pub before : (j : ℕ) → j < k → slot_at r j ≡ slot_at q j
  pub here : ((k ≡ 0) × (top_of i es ≡ 0) × (p ≡ q → ⊥)) ⊎ (((k ≡ 0) × (0 < top_of i es) × (SameHead p q → ⊥)) ⊎ ((0 < top_of i es) × SameHead p q × (slot_at r k ≡ slot_at q k → ⊥)))

-- ---- all pages

-- what recovery leaves of the pages before: with every table with which it is done (`audit Sentence.ours-recovered`)
abbrev pub ours : Lent → List ℕ
ours x = mended_from (entries x.log) x.pages (pages_in x.pages) 0

-- page i is right
abbrev pub RightAt : Lent → List ℕ → ℕ → Type 0
RightAt x after i = PageRight (entries x.log) i (page_at i x.pages) (page_at i (ours x)) (page_at i after)

-- nothing is refused: recovery without a table accepts, the areas are of one length, and each page after is good
pub record Lendable (x : Lent) (after : List ℕ) : Type 0 where
  pub accepts : (recover_verdict never_full x).number ≡ 0
  pub lengths : length x.pages ≡ length after
  pub good : (i : ℕ) → i < pages_in after → Good x.magic i (page_at i after)

-- yes for the pages from an index on
pub record Right (x : Lent) (after : List ℕ) (first : ℕ) : Type 0 where
  pub lendable : Lendable x after
  pub pages : (i : ℕ) → first ≤ i → i < pages_in x.pages → RightAt x after i

-- no, by page i and slot k: the lowest page that is not right, and its lowest slot that differs
pub record Wrong (x : Lent) (after : List ℕ) (first i k : ℕ) : Type 0 where
  pub lendable : Lendable x after
  pub from : first ≤ i
  pub within : i < pages_in x.pages
  pub before : (j : ℕ) → first ≤ j → j < i → RightAt x after j
  pub here : RightAt x after i → ⊥
  pub slot : SlotNamed (entries x.log) i (page_at i x.pages) (page_at i (ours x)) (page_at i after) k
