-- A page has no fault exactly if it is good.
-- Assumes nothing.
use mathlib.Core.Path.{◌≡◌, refl, sym, ap, ◌∙◌}
use mathlib.Core.Bool.{Bool, true, false}
use Prim.Native.Nat.{ℕ, ◌*◌, ◌<◌}
use native.Mathlib.Omega.{arith}
use mathlib.Core.List.{List}
use lib.Dec.{ltb, leb, eqb}
use lib.ListN.{length}
use borrow.Author.Tests.{le-ltb, le-leb, eq-eqb, leb-true, eqb-true}
use Rattle.endian.specs.Pick.{pick}
use Rattle.crc32c.specs.Crc.{crc32c}
use Rattle.page.specs.Layout.{page_bytes, body_bytes, slot_limit, data_type, last_type, magic_of, type_of, count_of, crc_of, id_of, free_start_of, free_end_of, body_of}
use Rattle.page.specs.Good.{DataGood, Good}
use Rattle.page.specs.Fault.{slot_faulty, data_fault, fault_of, is_sound}
use Rattle.std.specs.Prelude.{Option, Some, None}
use Rattle.page.specs.declared.Fault.{Fault}
use Rattle.page.specs.declared.Fault.TheVariants.{MagicOrType, Id, Checksum, Count, FreeStart, FreeEnd}
use Rattle.page.proofs.Picks.{never}
use Rattle.page.proofs.SlotLaws.{good-fine, share-apart, apart-share, earlier-none, none-earlier, faulty-not, not-faulty, slots-sound, sound-slots}

-- ---- one page

-- a test that was passed, where failing it is a fault
passed : (t : Bool) (a b : Option Fault) → is_sound b ≡ false → pick t a b ≡ None → (t ≡ true) × (a ≡ None)
passed true a b h e = (refl, e)
passed false a b h e = never (sym h ∙ ap is_sound e)

-- a test that was not met, where meeting it is a fault
missed : (t : Bool) (a b : Option Fault) → is_sound a ≡ false → pick t a b ≡ None → (t ≡ false) × (b ≡ None)
missed true a b h e = never (sym h ∙ ap is_sound e)
missed false a b h e = (refl, e)

module _ (p : List ℕ) where
  sound-data : data_fault p ≡ None → DataGood p
  unfolding data_fault
  sound-data e =
      let f1 = missed (ltb slot_limit (count_of p)) (Some Count) _ refl e in
      let f2 = passed (eqb (free_start_of p) (4 * count_of p)) _ (Some FreeStart) refl f1.1 in
      let f3 = passed (leb (free_start_of p) (free_end_of p)) _ (Some FreeEnd) refl f2.1 in
      let f4 = passed (leb (free_end_of p) body_bytes) _ (Some FreeEnd) refl f3.1 in
      let each : (k : ℕ) → k < count_of p → slot_faulty (body_of p) (free_end_of p) k ≡ false = λ k l. sound-slots _ _ (count_of p) 0 f4.1 k (omega arith) (omega arith) in
      record {
        start = eqb-true _ _ f2.0;
        start_end = leb-true _ _ f3.0;
        end = leb-true _ _ f4.0;
        slots = λ k l. (not-faulty _ _ _ (each k l)).0;
        apart = λ j k i l m. share-apart _ j k (earlier-none _ k k (not-faulty _ _ k (each k m)).1 j l) i;
      }

  data-sound : DataGood p → data_fault p ≡ None
  unfolding data_fault
  data-sound d =
      let each : (k : ℕ) → k < count_of p → slot_faulty (body_of p) (free_end_of p) k ≡ false =
      λ k l. faulty-not _ _ k (good-fine _ _ k (d.slots k l)) (none-earlier _ k k (λ j m. apart-share _ j k (λ i. d.apart j k i m l))) in
      rw (le-ltb slot_limit (count_of p) (omega (arith, d.start, d.start_end, d.end)), eq-eqb _ _ d.start, le-leb _ _ d.start_end, le-leb _ _ d.end)
      (slots-sound _ _ (count_of p) 0 (λ j l m. each j (omega arith)))

module _ (magic index : ℕ) (p : List ℕ) where
  pub sound-good : length p ≡ page_bytes → fault_of magic index p ≡ None → Good magic index p
  unfolding fault_of
  sound-good l e =
      let f1 = passed (eqb (magic_of p) magic) _ (Some MagicOrType) refl e in
      let f2 = passed (leb (type_of p) last_type) _ (Some MagicOrType) refl f1.1 in
      let f3 = passed (eqb (id_of p) index) _ (Some Id) refl f2.1 in
      let f4 = passed (eqb (crc_of p) (crc32c (body_of p))) _ (Some Checksum) refl f3.1 in
      record {
        size = l;
        magic_fits = eqb-true _ _ f1.0;
        type_known = leb-true _ _ f2.0;
        id_fits = eqb-true _ _ f3.0;
        crc_right = eqb-true _ _ f4.0;
        data_good = λ t. sound-data p (rw (eq-eqb _ _ t) at f4.1);
      }

  pub good-sound : Good magic index p → fault_of magic index p ≡ None
  unfolding fault_of
  good-sound g =
      rw (eq-eqb _ _ g.magic_fits, le-leb _ _ g.type_known, eq-eqb _ _ g.id_fits, eq-eqb _ _ g.crc_right)
      (by-type (eqb (type_of p) data_type) (λ e. data-sound p (g.data_good (eqb-true _ _ e))))
    where
      by-type : (t : Bool) → (t ≡ true → data_fault p ≡ None) → pick t (data_fault p) None ≡ None
      by-type true h = h refl
      by-type false h = refl
