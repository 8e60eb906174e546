-- Internal: where the tuple of a row stands, and its header, as they are found (paper 01, Numbers given back: reading a row).
use Rattle.std.specs.Prelude.{◌≡◌, ℕ, ◌+◌, ◌-◌, ◌≤◌, Bool, true, false, ◌⊎◌, List, ◌==◌, ◌≢◌}
use Rattle.endian.specs.Pick.{pick}
use Rattle.refusals.specs.Verdict.{verdict}
use Rattle.rules.specs.Row.{row_verdict, tuple_of, Standing, in_log, in_pages, standing_of}
use Rattle.rules.specs.declared.RowHead.{RowHead}
use Rattle.rules.specs.declared.Located.{Located}
use Rattle.change.specs.declared.Image.{Image}
use Rattle.change.specs.declared.Source.{Source}
use Rattle.change.specs.declared.Source.TheVariants.{Log, Page}
use Rattle.change.specs.Tuples.{Lies, Stood}
use Rattle.images.specs.Tuples.{paged}
use Rattle.recovery.specs.declared.Spot.{Spot}
use Rattle.rules.specs.Lent.{lent}

-- one of two, by a source
abbrev pub by_source : {A : Type 0} → A → A → Source → A
by_source a b Log = a
by_source a b Page = b

-- an image of a page that starts at place a of the page area, as an image of that area
abbrev pub shifted_by : ℕ → Image → Image
shifted_by a m = by_source m (record { source = Page; place = m.place + a; length = m.length; deleted_by = m.deleted_by }) m.source

-- a verdict without a tuple
abbrev pub nowhere_by : ℕ → ℕ → Spot
nowhere_by number place = record { number = number; place = place; image = paged 0 0 }

-- the row header of a tuple with these fields
abbrev pub filled_by : ℕ → ℕ → ℕ → ℕ → RowHead
filled_by xmin xmax deleted pad =
    record { number = 0; place = 0; filled = true; xmin = record { 0 = xmin }; xmax = record { 0 = xmax }; deleted = deleted; pad = pad }

-- where an image of the log or of the page area stands
abbrev pub standing_in : Image → Standing
standing_in m = by_source (in_log m.place) (in_pages m.place) m.source

-- the spot of slot k of page i: the verdict, and where the tuple that recovery would leave there stands; refused, no tuple
pub record Spotted (magic floor : ℕ) (pages log : List ℕ) (i k : ℕ) (r : Spot) : Type 0 where
  pub verdict : verdict r.number r.place ≡ row_verdict (lent magic floor pages log) i
  pub stood : r.number ≡ 0 → Stood log pages r.image (tuple_of pages log i k)
  pub stands : r.number ≡ 0 → (r.image.length ≢ 0) → standing_in r.image ≡ standing_of pages log i k
  pub none : (r.number ≢ 0) → r.image ≡ paged 0 0
  pub lies : Lies log pages r.image
  pub whole : (r.image.length ≡ 0) ⊎ (24 ≤ r.image.length)

-- the payload of a tuple of n bytes at a place, located: source 1 is the log, 2 the page area, 0 none
abbrev pub located_by : RowHead → Source → ℕ → ℕ → Located
located_by head source place n =
    pick (n == 0)
    (record { head = head; source = 0; offset = 0; length = 0 })
    (record { head = head; source = by_source 1 2 source; offset = place + 24; length = n - 24 })
