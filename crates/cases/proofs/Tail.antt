-- The tail offset is the log's own length where nothing is torn, unused or damaged (paper 01, Log). Assumes nothing.
use Prim.Native.Nat.{ℕ, ◌+◌, ◌-◌, ◌≤◌, ◌<◌}
use mathlib.Core.Path.{◌≡◌, refl, ap}
use mathlib.Core.Bool.{Bool, true, false}
use mathlib.Core.List.{List}
use native.Mathlib.Omega.{arith}
use native.Mathlib.Decide.{dec_le}
use lib.ListN.{length, drop}
use lib.Dec.{ltb, eqb}
use borrow.Author.Tests.{le-ltb, lt-leb}
use Rattle.endian.specs.Pick.{pick}
use Rattle.endian.specs.Numbers.{part, number_at}
use Rattle.crc32c.specs.Crc.{crc32c}
use Rattle.wal.specs.Read.{shortest, longest, all_zero, length_at, key_len, old_len, new_len, view, inner_at, whole_at, read_at}
use Rattle.wal.specs.Walk.{end_of}
use Rattle.wal.specs.declared.EntryView.{EntryView}
use Rattle.wal.specs.declared.Reading.{Reading}
use Rattle.wal.specs.declared.Reading.TheVariants.{Whole, End, Torn, Unused, Damage}
use Rattle.wal.proofs.Prefix.{met-end, met-from, end-le}

-- 0 for the exact end alone
abbrev mark : Reading → ℕ
mark (Whole v) = 1
mark End = 0
mark Torn = 1
mark Unused = 1
mark Damage = 1

record Other (r : Reading) : Type 0 where
  is : mark r ≡ 1

either_way : (b : Bool) {x y : Reading} → Other x → Other y → Other (pick b x y)
either_way true h k = h
either_way false h k = k

torn : Other Torn
torn = record { is = refl }

unused : Other Unused
unused = record { is = refl }

whole : (v : EntryView) → Other (Whole v)
whole v = record { is = refl }

damage : Other Damage
damage = record { is = refl }

inner-other : (s : List ℕ) (p n : ℕ) → Other (inner_at s p n)
unfolding inner_at
inner-other s p n = either_way (eqb (43 + key_len s p + old_len s p + new_len s p) n) (whole (view s p n)) damage

whole-other : (s : List ℕ) (p n : ℕ) → Other (whole_at s p n)
unfolding whole_at
whole-other s p n =
    either_way (eqb (length_at s p) n)
    (either_way (eqb (number_at 4 (p + (n - 4)) s) n)
    (either_way (eqb (number_at 4 (p + (n - 8)) s) (crc32c (part p (n - 8) s)))
    (inner-other s p n)
    damage)
    damage)
    damage

left_other : (s : List ℕ) (p : ℕ) → 32 ≤ p → p < length s → Other (read_at s p)
unfolding read_at
left_other s p f l =
    rw (le-ltb p 32 f, lt-leb (length s) p l)
    (either_way (ltb (length s - p) 4) torn
    (either_way (all_zero (drop p s)) unused
    (either_way (ltb (length_at s p) shortest) damage
    (either_way (ltb longest (length_at s p)) damage
    (either_way (ltb (length s - p) (length_at s p)) torn
    (whole-other s p (length_at s p)))))))

pub tail-exact : (s : List ℕ) → 32 ≤ length s → read_at s (end_of s) ≡ End → end_of s ≡ length s
tail-exact s h e =
    elim (dec_le (length s) (end_of s)) [
      | yes l ↦ omega (arith, end-le s h)
      | no l ↦ absurd (omega (arith, ap mark e, (left_other s (end_of s) (met-from s (met-end s)) (omega arith)).is))
    ]
