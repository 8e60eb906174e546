-- Internal: where the image that a slot is to hold stands, by the log or by its page.
use Rattle.std.specs.Prelude.{ℕ, ◌+◌, ◌≡◌, List, None}
use Rattle.wal.specs.Entry.{entry_of}
use Rattle.page.specs.Layout.{head_bytes, body_of, slot_off}
use Rattle.rules.specs.Shape.{before_of, after_of}
use Rattle.rules.specs.Row.{Standing, in_log, before_at, after_at, standing_by}
use Rattle.change.specs.declared.Image.{Image}
use Rattle.change.specs.declared.Source.TheVariants.{Log, Page}
use Rattle.change.specs.Tuples.{Stood}
use Rattle.decide.specs.Decide.{won}

-- n bytes of the page from place a on
abbrev pub paged : ℕ → ℕ → Image
paged a n = record { source = Page; place = a; length = n; deleted_by = None }

-- the image m stands for the tuple t by the page alone
pub record InPage (p : List ℕ) (m : Image) (t : List ℕ) : Type 0 where
  pub stood : (s : List ℕ) → Stood s p m t

-- the image m is what slot k of the page p holds; one without bytes may stand anywhere
pub record PagedAt (p : List ℕ) (k : ℕ) (m : Image) : Type 0 where
  pub paged : m.source ≡ Page
  pub at : (m.length ≡ 0 → ⊥) → m.place ≡ head_bytes + slot_off (body_of p) k

-- what a slot that has v gets by its cell c, and where that stands
abbrev pub image_won : List ℕ → ℕ → List ℕ → List ℕ
image_won s = won (λ v. before_of (entry_of s v)) (λ v. after_of (entry_of s v)) s

abbrev pub standing_won : List ℕ → ℕ → Standing → Standing
standing_won = won (λ v. in_log (before_at v)) (λ v. in_log (after_at v))

-- the image m that slot k of page i, the page p, is to hold stands where the rules say
pub record Placed (s p : List ℕ) (i k : ℕ) (m : Image) : Type 0 where
  pub won : m.source ≡ Log → (d : Standing) → standing_by s i k d ≡ in_log m.place
  pub kept : m.source ≡ Page → (d : Standing) → standing_by s i k d ≡ d
  pub at : m.source ≡ Page → (m.length ≡ 0 → ⊥) → m.place ≡ head_bytes + slot_off (body_of p) k
