-- The first fault of a page, case by case, in the order in which code meets them.
-- Assumes nothing.
use mathlib.Core.Path.{◌≡◌}
use mathlib.Core.Bool.{Bool, true, false}
use Prim.Native.Nat.{ℕ, zero, suc, ◌+◌, ◌*◌, ◌-◌, ◌≤◌, ◌<◌}
use native.Mathlib.Decide.{dec_le}
use native.Mathlib.Omega.{arith}
use mathlib.Core.List.{List}
use lib.ListN.{length, take, drop, length-drop}
use lib.Seq.{take_all}
use lib.Dec.{leb, eqb}
use borrow.Author.Tests.{lt-ltb, le-ltb, le-leb, lt-leb, eq-eqb, ne_eqb}
use Rattle.endian.specs.Pick.{pick}
use Rattle.crc32c.specs.Crc.{crc32c}
use Rattle.page.specs.Layout.{head_bytes, body_bytes, slot_limit, data_type, last_type, magic_of, type_of, count_of, crc_of, id_of, free_start_of, free_end_of, body_of}
use Rattle.page.specs.Fault.{slot_faulty, slots_fault, data_fault, fault_of, slot_in}
use Rattle.std.specs.Prelude.{Option, Some, None}
use Rattle.page.specs.declared.Fault.{Fault}
use Rattle.page.specs.declared.Fault.TheVariants.{MagicOrType, Id, Checksum, Count, FreeStart, FreeEnd, Slot}

-- `&page[64..]` is the body
pub body-part : (p : List ℕ) → take (length p - head_bytes) (drop head_bytes p) ≡ body_of p
body-part p = take_all (length p - head_bytes) (drop head_bytes p) (simp length-drop (omega arith))

module _ (p : List ℕ) where
  pub data-count : slot_limit < count_of p → Some Count ≡ data_fault p
  unfolding data_fault
  data-count h = simp (lt-ltb _ _ h)

  module _ (n : count_of p ≤ slot_limit) where
    pub data-start : (free_start_of p ≡ 4 * count_of p → ⊥) → Some FreeStart ≡ data_fault p
    unfolding data_fault
    data-start h = simp (le-ltb _ _ n, ne_eqb _ _ h)

    module _ (s : free_start_of p ≡ 4 * count_of p) where
      pub data-low : free_end_of p < free_start_of p → Some FreeEnd ≡ data_fault p
      unfolding data_fault
      data-low h = simp (le-ltb _ _ n, eq-eqb _ _ s, lt-leb _ _ h)

      module _ (l : free_start_of p ≤ free_end_of p) where
        pub data-high : body_bytes < free_end_of p → Some FreeEnd ≡ data_fault p
        unfolding data_fault
        data-high h = simp (le-ltb _ _ n, eq-eqb _ _ s, le-leb _ _ l, lt-leb _ _ h)

        pub data-slots : (e k : ℕ) → e ≡ free_end_of p → k ≡ count_of p → free_end_of p ≤ body_bytes → slots_fault (body_of p) e k 0 ≡ data_fault p
        unfolding data_fault
        data-slots e k ee ek h = simp (ee, ek, le-ltb _ _ n, eq-eqb _ _ s, le-leb _ _ l, le-leb _ _ h)

module _ (magic index : ℕ) (p : List ℕ) where
  pub case-magic : (magic_of p ≡ magic → ⊥) → Some MagicOrType ≡ fault_of magic index p
  unfolding fault_of
  case-magic h = simp (ne_eqb _ _ h)

  module _ (m : magic_of p ≡ magic) where
    pub case-type : last_type < type_of p → Some MagicOrType ≡ fault_of magic index p
    unfolding fault_of
    case-type h = simp (eq-eqb _ _ m, lt-leb _ _ h)

    module _ (t : type_of p ≤ last_type) where
      pub case-id : (id_of p ≡ index → ⊥) → Some Id ≡ fault_of magic index p
      unfolding fault_of
      case-id h = simp (eq-eqb _ _ m, le-leb _ _ t, ne_eqb _ _ h)

      module _ (i : id_of p ≡ index) where
        pub case-crc : (crc_of p ≡ crc32c (body_of p) → ⊥) → Some Checksum ≡ fault_of magic index p
        unfolding fault_of
        case-crc h = simp (eq-eqb _ _ m, le-leb _ _ t, eq-eqb _ _ i, ne_eqb _ _ h)

        module _ (r : crc_of p ≡ crc32c (body_of p)) where
          pub case-other : (type_of p ≡ data_type → ⊥) → None ≡ fault_of magic index p
          unfolding fault_of
          case-other h = simp (eq-eqb _ _ m, le-leb _ _ t, eq-eqb _ _ i, eq-eqb _ _ r, ne_eqb _ _ h)

          pub case-data : type_of p ≡ data_type → data_fault p ≡ fault_of magic index p
          unfolding fault_of
          case-data h = simp (eq-eqb _ _ m, le-leb _ _ t, eq-eqb _ _ i, eq-eqb _ _ r, eq-eqb _ _ h)

-- ---- the slot that a fault names is one of a page's

-- the slot that is named, where there is a fault
abbrev Low : Option Fault → Type 0
Low None = Unit
Low (Some f) = slot_in f < slot_limit

low-pick : (t : Bool) (a b : Option Fault) → Low a → Low b → Low (pick t a b)
low-pick true a b l m = l
low-pick false a b l m = m

low-slots : (b : List ℕ) (end n k : ℕ) → k + n ≤ slot_limit → Low (slots_fault b end n k)
unfolding slots_fault
low-slots b end zero k l = tt
low-slots b end (suc n) k l = low-pick (slot_faulty b end k) (Some (Slot k)) _ (omega arith) (low-slots b end n (suc k) (omega arith))

low-data : (p : List ℕ) → Low (data_fault p)
unfolding data_fault
low-data p =
    elim (dec_le (count_of p) slot_limit) [
      | yes l ↦ rw (le-ltb _ _ l) (low-pick (eqb (free_start_of p) (4 * count_of p)) _ (Some FreeStart) (low-pick (leb (free_start_of p) (free_end_of p)) _ (Some FreeEnd) (low-pick (leb (free_end_of p) body_bytes) _ (Some FreeEnd) (low-slots _ _ (count_of p) 0 (omega arith)) (omega arith)) (omega arith)) (omega arith))
      | no l ↦ rw (lt-ltb slot_limit (count_of p) (omega arith)) (omega arith)
    ]

low-fault : (magic index : ℕ) (p : List ℕ) → Low (fault_of magic index p)
unfolding fault_of
low-fault magic index p =
    low-pick (eqb (magic_of p) magic) _ (Some MagicOrType) (low-pick (leb (type_of p) last_type) _ (Some MagicOrType) (low-pick (eqb (id_of p) index) _ (Some Id) (low-pick (eqb (crc_of p) (crc32c (body_of p))) _ (Some Checksum) (low-pick (eqb (type_of p) data_type) _ None (low-data p) tt) (omega arith)) (omega arith)) (omega arith)) (omega arith)

pub low-slot : (magic index : ℕ) (p : List ℕ) (f : Fault) → fault_of magic index p ≡ Some f → slot_in f < slot_limit
low-slot magic index p f e = rw e at (low-fault magic index p)
