-- The cells of one page, as code finds them, and what they decide. Assumes nothing.
use Prim.Native.Nat.{ℕ, ◌+◌, ◌-◌, ◌/◌, ◌%◌, ◌≤◌, ◌<◌, max}
use mathlib.Core.Path.{◌≡◌, refl, sym, ap, subst, ◌∙◌}
use mathlib.Core.Bool.{Bool}
use mathlib.Core.List.{List}
use native.Mathlib.Numerals.{add-one}
use native.Mathlib.Omega.{arith}
use lib.ListN.{get_or}
use borrow.Author.Tests.{eq-eqb, ne_eqb}
use Rattle.wal.specs.Entry.{Entry, entry_of}
use Rattle.wal.specs.Walk.{entries, views}
use Rattle.wal.specs.Prefix.{entry_in, said}
use Rattle.wal.specs.declared.EntryView.{EntryView}
use Rattle.wal.proofs.Prefix.{met-from}
use Rattle.page.specs.Layout.{body_bytes, count_of, slot_at}
use Rattle.page.specs.Packed.{room_for}
use Rattle.page.proofs.Tables.{length-tab}
use Rattle.rules.specs.Shape.{Change, before_of, after_of}
use Rattle.rules.specs.Mend.{committed, winner, top_of, decided, slots_for}
use Rattle.rules.specs.Row.{Standing, in_log, before_at, after_at, standing_by}
use Rattle.rules.proofs.Slots.{decided-untouched}
use Rattle.rules.proofs.Standings.{changes-by, none-past}
use Rattle.fates.specs.Fate.{Ordered}
use Rattle.fates.proofs.Turns.{turn_at, passes_at}
use Rattle.cells.specs.Cell.{Starts}
use Rattle.cells.proofs.CellLaws.{start-next}
use Rattle.decide.specs.Decide.{won, ChangeAt, Decided}
use Rattle.decide.proofs.Marks.{won-none}
use Rattle.decide.proofs.Pages.{cell-wins}
use Rattle.change.specs.declared.Image.{Image}
use Rattle.change.specs.declared.Source.TheVariants.{Log, Page}
use Rattle.change.specs.Places.{ChangeAt as Changed}
use Rattle.change.specs.Tuples.{InLog, Stood, LoggedAt}
use Rattle.images.specs.Tuples.{InPage, PagedAt, image_won, standing_won, Placed}
use Rattle.images.specs.Page.{PageCells}

-- ---- a change, and what a cell says of it

pub shaped-at : {s : List ℕ} {p : ℕ} → Ordered s → ChangeAt s p → Changed s p
shaped-at o a = record { met = a.met; stands = a.stands; change = a.change; shaped = (passes_at (turn_at o a.met) a.stands).shaped }

-- a source is one of two
one-source : Page ≡ Log → ⊥
one-source e = cc

-- the image m is what the cell c names, in the log
abbrev Wins : List ℕ → ℕ → Image → Type 0
Wins s c m = ((v : List ℕ) → InLog s m (image_won s c v)) × ((m.source ≡ Log) × ((d : Standing) → standing_won s c d ≡ in_log m.place))

module _ {s : List ℕ} (c : ℕ) (a : ChangeAt s (c / 2)) where
  some : c ≡ 0 → ⊥
  some z = absurd (omega (arith, met-from s a.met))

  pub won-after : {m : Image} → c % 2 ≡ 1 → InLog s m (after_of (said s (c / 2))) × LoggedAt m (after_at (entry_in s (c / 2))) → Wins s c m
  unfolding won
  won-after e h = (λ v. rw (ne_eqb c 0 some, eq-eqb (c % 2) 1 e) h.0, (h.1.logged, λ d. rw (ne_eqb c 0 some, eq-eqb (c % 2) 1 e) (ap in_log (sym h.1.at))))

  pub won-before : {m : Image} → (c % 2 ≡ 1 → ⊥) → InLog s m (before_of (said s (c / 2))) × LoggedAt m (before_at (entry_in s (c / 2))) → Wins s c m
  unfolding won
  won-before n h = (λ v. rw (ne_eqb c 0 some, ne_eqb (c % 2) 1 n) h.0, (h.1.logged, λ d. rw (ne_eqb c 0 some, ne_eqb (c % 2) 1 n) (ap in_log (sym h.1.at))))

-- ---- what a cell decides

module _ {s : List ℕ} {i k c : ℕ} (h : Decided s i k c) where
  image-decided : (v : List ℕ) → image_won s c v ≡ decided (committed (entries s)) (entries s) i k v
  unfolding decided
  image-decided v =
      cell-wins (λ w. before_of (entry_of s w)) (λ w. after_of (entry_of s w)) s i k v h
      ∙ ap (λ (xs : List Change). winner (committed (entries s)) xs v) (changes-by s i k (views s))

  standing-decided : (d : Standing) → standing_won s c d ≡ standing_by s i k d
  unfolding standing_by
  standing-decided d = cell-wins (λ w. in_log (before_at w)) (λ w. in_log (after_at w)) s i k d h

standing-past : (s : List ℕ) (i k : ℕ) → top_of i (entries s) ≤ k → (d : Standing) → standing_by s i k d ≡ d
unfolding standing_by
standing-past s i k l d = rw (none-past s i k (λ v. in_log (before_at v)) (λ v. in_log (after_at v)) (views s) l)

-- ---- the starts of pages, and how high the page's touched slots go

module _ {es : List Entry} {n : ℕ} {starts : List ℕ} (t : Starts es n starts) (i : ℕ) (h : i < n) where
  start-after : get_or starts (i + 1) 0 ≡ get_or starts i 0 + top_of i es
  start-after = omega (arith, t.at i (omega arith), t.at (i + 1) (omega arith), rw (← add-one i) at (start-next es i))

  pub top-asked : n ≤ 4096 → (i < 4096) × (get_or starts i 0 ≤ get_or starts (i + 1) 0)
  top-asked q = (omega arith, omega (arith, start-after))

  pub top-found : {x : ℕ} → x ≡ get_or starts (i + 1) 0 - get_or starts i 0 → x ≡ top_of i es
  top-found e = omega (arith, start-after)

  -- how many slots the page is to have
  pub slots-found : {x : ℕ} (c : ℕ) → x ≡ max c (get_or starts (i + 1) 0 - get_or starts i 0) → x ≡ max c (top_of i es)
  slots-found c e = e ∙ ap (max c) (top-found refl)

-- a page that has room for its slots has room for four bytes of each
pub top-fits : (c : ℕ → Bool) (es : List Entry) (i : ℕ) (p : List ℕ) → room_for (slots_for c es i p) ≤ body_bytes → top_of i es ≤ 4080
unfolding slots_for
top-fits c es i p h = omega (arith, length-tab (max (count_of p) (top_of i es)) (λ k. decided c es i k (slot_at p k)))

-- the image m is what slot k of page i, the page p, is to hold
abbrev Slot : List ℕ → List ℕ → ℕ → ℕ → Image → Type 0
Slot s p i k m = Stood s p m (decided (committed (entries s)) (entries s) i k (slot_at p k)) × Placed s p i k m

-- ---- the cells of a page

module _ {s cells : List ℕ} {i top : ℕ} (d : PageCells s i top cells) where
  -- a touched slot, and its cell
  module _ {k : ℕ} (below : k < top) where
    touched : k < top_of i (entries s)
    touched = omega (arith, d.top-is)

    pub change-named : (get_or cells k 0 ≡ 0 → ⊥) → ChangeAt s (get_or cells k 0 / 2)
    change-named n = (d.is.at k touched).at (omega arith)

    abbrev says : Decided s i k (get_or cells k 0)
    says = d.is.at k touched

    pub slot-won : {p : List ℕ} {m : Image} → Wins s (get_or cells k 0) m → Slot s p i k m
    slot-won {p} {m} h = (
      subst (Stood s p m) (image-decided says (slot_at p k)) ((h.0 (slot_at p k)).stood p),
      record {
        won = λ e x. sym (standing-decided says x) ∙ h.1.1 x;
        kept = λ e x. absurd (one-source (sym e ∙ h.1.0));
        at = λ e. absurd (one-source (sym e ∙ h.1.0));
      },
    )

    pub slot-left : {p : List ℕ} {m : Image} → get_or cells k 0 ≡ 0 → InPage p m (slot_at p k) × PagedAt p k m → Slot s p i k m
    slot-left {p} {m} z h = (
      subst (Stood s p m) (sym (none (λ w. before_of (entry_of s w)) (λ w. after_of (entry_of s w)) (slot_at p k)) ∙ image-decided says (slot_at p k)) (h.0.stood s),
      record {
        won = λ e x. absurd (one-source (sym h.1.paged ∙ e));
        kept = λ e x. sym (standing-decided says x) ∙ none (λ w. in_log (before_at w)) (λ w. in_log (after_at w)) x;
        at = λ e. h.1.at;
      },
    )
      where
        none : {A : Type 0} (b a : EntryView → A) (x : A) → won b a s (get_or cells k 0) x ≡ x
        none b a x = ap (λ (c : ℕ). won b a s c x) z ∙ won-none b a s x

  -- a slot that is not touched
  pub slot-untouched : {k : ℕ} {p : List ℕ} {m : Image} → top ≤ k → InPage p m (slot_at p k) × PagedAt p k m → Slot s p i k m
  slot-untouched {k} {p} {m} l h = (
    subst (Stood s p m) (sym (decided-untouched i (committed (entries s)) (entries s) k (slot_at p k) (omega (arith, d.top-is)))) (h.0.stood s),
    record { won = λ e x. absurd (one-source (sym h.1.paged ∙ e)); kept = λ e x. standing-past s i k (omega (arith, d.top-is)) x; at = λ e. h.1.at },
  )
