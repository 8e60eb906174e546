-- Reading a row before recovery (paper 01, Numbers given back).
use Rattle.std.specs.Prelude.{ℕ, ◌+◌, List, [], ◌∷◌, true, false, length, leb, eqb}
use Rattle.refusals.specs.Refusal.{no_such_page}
use Rattle.endian.specs.Pick.{pick}
use Rattle.wal.specs.Entry.{entry_of, delete, update}
use Rattle.wal.specs.Walk.{entries, views}
use Rattle.wal.specs.declared.EntryView.{EntryView}
use Rattle.page.specs.Layout.{data_type, pages_in, page_at, type_of, slot_at, tuple_offset, row_head, xmin_of, xmax_of, deleted_of, pad_of, payload_of}
use Rattle.refusals.specs.Verdict.{verdict, accepted, ◌then◌}
use Rattle.refusals.specs.declared.Verdict.{Verdict}
use Rattle.rules.specs.Shape.{ChangeOf, both, is_on, slot_of, key_bytes}
use Rattle.rules.specs.Order.{never_full}
use Rattle.rules.specs.Mend.{committed, winner, decided}
use Rattle.rules.specs.Lent.{Lent}
use Rattle.rules.specs.Recover.{recover_verdict}
use Rattle.rules.specs.declared.RowHead.{RowHead}
use Rattle.rules.specs.declared.Located.{Located}

-- the refusals of recovery without a table, then 15: on no lent page
unfoldable pub row_verdict : Lent → ℕ → Verdict
row_verdict x page = recover_verdict never_full x then pick (leb (pages_in x.pages) page) (verdict no_such_page 0) accepted

-- the tuple that recovery would leave in slot k of page i: none where the page is not of type 1
unfoldable pub tuple_of : List ℕ → List ℕ → ℕ → ℕ → List ℕ
tuple_of pages log i k =
    pick (eqb (type_of (page_at i pages)) data_type)
    (decided (committed (entries log)) (entries log) i k (slot_at (page_at i pages) k))
    []

-- the row header of a tuple
abbrev pub head_of : List ℕ → RowHead
head_of [] = record { number = 0; place = 0; filled = false; xmin = record { 0 = 0 }; xmax = record { 0 = 0 }; deleted = 0; pad = 0 }
head_of (b ∷ t) =
    record {
      number = 0;
      place = 0;
      filled = true;
      xmin = record { 0 = xmin_of (b ∷ t) };
      xmax = record { 0 = xmax_of (b ∷ t) };
      deleted = deleted_of (b ∷ t);
      pad = pad_of (b ∷ t);
    }

abbrev pub refused_row : Verdict → RowHead
refused_row v = record { number = v.number; place = v.place; filled = false; xmin = record { 0 = 0 }; xmax = record { 0 = 0 }; deleted = 0; pad = 0 }

unfoldable pub row_of : Lent → ℕ → ℕ → RowHead
row_of x i k = pick (eqb (row_verdict x i).number 0) (head_of (tuple_of x.pages x.log i k)) (refused_row (row_verdict x i))

-- the row's tuple; none where it is refused
unfoldable pub row_tuple : Lent → ℕ → ℕ → List ℕ
row_tuple x i k = pick (eqb (row_verdict x i).number 0) (tuple_of x.pages x.log i k) []

-- the payload of the row; empty where it is refused or unfilled
unfoldable pub row_payload : Lent → ℕ → ℕ → List ℕ
row_payload x i k = payload_of (row_tuple x i k)

-- ---- where the payload stands

-- the changes on slot k of page i among some entries of the log s, in their order, with what b and a give of an entry for the slot before and after it
unfoldable pub changes_by : {A : Type 0} → (EntryView → A) → (EntryView → A) → List ℕ → ℕ → ℕ → List EntryView → List (ChangeOf A)
changes_by b a s i k [] = []
changes_by b a s i k (v ∷ vs) =
    pick (both (is_on i (entry_of s v)) (eqb (slot_of (entry_of s v)) k))
    (record { by = v.txn.0; before = b v; after = a v } ∷ changes_by b a s i k vs)
    (changes_by b a s i k vs)

-- where a tuple stands: in source 1, the log, or 2, the pages, and its place there
pub record Standing : Type 0 where
  pub source : ℕ
  pub at : ℕ

abbrev pub in_log : ℕ → Standing
in_log p = record { source = 1; at = p }

abbrev pub in_pages : ℕ → Standing
in_pages p = record { source = 2; at = p }

-- where the images of a change stand in the log: they are its old value and its new one, and of an Update, whose values begin with the key, what is behind that;
-- the after-image of a Delete is its old value too
abbrev pub image_from : EntryView → ℕ → ℕ
image_from v p = p + pick (eqb v.kind update) key_bytes 0

abbrev pub before_at : EntryView → ℕ
before_at v = image_from v (v.place + (31 + v.key_len))

abbrev pub after_at : EntryView → ℕ
after_at v = pick (eqb v.kind delete) (before_at v) (image_from v (v.place + (35 + v.key_len + v.old_len)))

-- where the tuple that recovery would leave in slot k of page i stands: where the log changes the slot, the image that wins, in the log; else at d
unfoldable pub standing_by : List ℕ → ℕ → ℕ → Standing → Standing
standing_by log i k d = winner (committed (entries log)) (changes_by (λ v. in_log (before_at v)) (λ v. in_log (after_at v)) log i k (views log)) d

-- and that is where the slot's tuple stands in the pages
unfoldable pub standing_of : List ℕ → List ℕ → ℕ → ℕ → Standing
standing_of pages log i k = standing_by log i k (in_pages (tuple_offset i (page_at i pages) k))

-- the row of a tuple that stands somewhere: its payload is behind the row header; without a tuple, nowhere
abbrev pub located_at : RowHead → Standing → List ℕ → Located
located_at head st [] = record { head = head; source = 0; offset = 0; length = 0 }
located_at head st (b ∷ t) = record { head = head; source = st.source; offset = st.at + row_head; length = length (payload_of (b ∷ t)) }

unfoldable pub located_of : Lent → ℕ → ℕ → Located
located_of x i k = located_at (row_of x i k) (standing_of x.pages x.log i k) (row_tuple x i k)
