-- A file's header, case by case, in the order in which code meets them, and what its verdict says of it.
-- Assumes nothing.
use mathlib.Core.Path.{◌≡◌, refl, sym}
use mathlib.Core.Bool.{Bool, true, false}
use Prim.Native.Nat.{ℕ, ◌<◌}
use native.Mathlib.Omega.{arith}
use mathlib.Core.List.{List}
use lib.ListN.{length}
use lib.Dec.{eqb}
use borrow.Author.Tests.{eq-eqb, ne_eqb}
use Rattle.endian.specs.Pick.{pick}
use Rattle.endian.specs.Numbers.{number_of, number_at}
use Rattle.refusals.specs.Verdict.{verdict, accepted}
use Rattle.doublewrite.specs.File.{file_bytes, name, version, slot_count, is_headed, is_summed, is_marked, ids_fit, file_verdict}
use Rattle.refusals.specs.declared.Verdict.{Verdict}

abbrev judged : Bool → Bool → Bool → Bool → Verdict
judged h s m i = pick h (pick s (pick m (pick i accepted (verdict 25 0)) (verdict 24 0)) (verdict 23 0)) (verdict 22 0)

-- the name as a number
pub name-number : number_of name ≡ 0x5257_4C42_444D_5841
unfolding number_of
name-number = refl

none : (a b : Bool) → pick a (pick b false false) false ≡ false
none true true = refl
none true false = refl
none false b = refl

module _ (f : List ℕ) where
  -- ---- header and size

  pub head-short : length f < file_bytes 0 → false ≡ is_headed f
  unfolding is_headed
  head-short h = sym (rw (ne_eqb (length f) (file_bytes (slot_count f)) (λ e. omega arith)) (none (eqb (number_at 8 0 f) (number_of name)) (eqb (number_at 4 8 f) version)))

  pub head-name : (number_at 8 0 f ≡ 0x5257_4C42_444D_5841 → ⊥) → false ≡ is_headed f
  unfolding is_headed
  head-name h = sym (rw (name-number, ne_eqb _ _ h))

  module _ (n : number_at 8 0 f ≡ 0x5257_4C42_444D_5841) where
    pub head-version : (number_at 4 8 f ≡ 1 → ⊥) → false ≡ is_headed f
    unfolding is_headed
    head-version h = sym (rw (name-number, eq-eqb _ _ n, ne_eqb _ _ h))

    pub head-size : number_at 4 8 f ≡ 1 → eqb (length f) (file_bytes (slot_count f)) ≡ is_headed f
    unfolding is_headed
    head-size h = sym (rw (name-number, eq-eqb _ _ n, eq-eqb _ _ h))

  -- ---- the verdict on a file of n slots

  module _ (pages : ℕ) where
    pub case-fine : is_headed f ≡ true → (n : ℕ) → n ≡ slot_count f → is_summed f n ≡ true → is_marked f n ≡ true → ids_fit f pages n ≡ true → accepted ≡ file_verdict f pages
    unfolding file_verdict
    case-fine h n e s m i = sym (rw (h, ← e, s, m, i))

    -- what acceptance says
    pub accepted-file : (file_verdict f pages).number ≡ 0
        → (file_verdict f pages ≡ accepted) × (is_headed f ≡ true) × (is_summed f (slot_count f) ≡ true) × (is_marked f (slot_count f) ≡ true) × (ids_fit f pages (slot_count f) ≡ true)
    unfolding file_verdict
    accepted-file = by_tests (is_headed f) (is_summed f (slot_count f)) (is_marked f (slot_count f)) (ids_fit f pages (slot_count f))
      where
        by_tests : (h s m i : Bool) → (judged h s m i).number ≡ 0 → (judged h s m i ≡ accepted) × (h ≡ true) × (s ≡ true) × (m ≡ true) × (i ≡ true)
        by_tests true true true true e = (refl, refl, refl, refl, refl)
        by_tests true true true false e = absurd (omega arith)
        by_tests true true false i e = absurd (omega arith)
        by_tests true false m i e = absurd (omega arith)
        by_tests false s m i e = absurd (omega arith)
