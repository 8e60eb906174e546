-- Where a reader's steps lead: what is no entry moves no place. Assumes nothing.
use Rattle.std.specs.Prelude.{Option, None}
use Prim.Native.Nat.{ℕ}
use mathlib.Core.Path.{◌≡◌, refl}
use Rattle.wal.specs.Reader.{place_after, place_before}
use Rattle.wal.specs.declared.EntryView.{EntryView}
use Rattle.wal.specs.declared.Reading.{Reading}
use Rattle.wal.specs.declared.Reading.TheVariants.{Whole, End, Torn, Unused, Damage}

pub stays : (r : Reading) (p : ℕ) → ((v : EntryView) → r ≡ Whole v → ⊥) → p ≡ place_after r p
stays (Whole v) p n = absurd (n v refl)
stays End p n = refl
stays Torn p n = refl
stays Unused p n = refl
stays Damage p n = refl

pub stays-back : (r : Option EntryView) (p : ℕ) → r ≡ None → p ≡ place_before r p
stays-back r p h = simp h
