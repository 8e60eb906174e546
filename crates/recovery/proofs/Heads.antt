-- The row header and the payload of an image. Assumes nothing.
use Rattle.std.specs.Prelude.{◌≡◌, ℕ, ◌+◌, ◌*◌, ◌^◌, ◌<◌, ◌≤◌, Bool, true, false, eqb, ◌⊎◌, List, [], ◌∷◌, ◌++◌, length, get_or, take, drop, Option, None, Some}
use mathlib.Core.Path.{refl, sym, ap, ◌∙◌}
use mathlib.Core.Logic.{inl, inr}
use mathlib.Core.List.{append_assoc}
use native.Mathlib.Omega.{arith}
use lib.ListN.{length-append, length-drop}
use lib.Seq.{length-take-le, take_all, drop_at, drop-drop}
use borrow.Author.Tests.{eq-eqb, ne_eqb}
use Rattle.endian.specs.Pick.{pick}
use Rattle.endian.specs.Numbers.{part, number_at, number_of, bytes_of}
use Rattle.endian.proofs.Numbers.{length-bytes_of, number-back, number-split}
use Rattle.endian.proofs.Places.{number_append, number-take, number-drop}
use Rattle.page.specs.Layout.{xmin_of, xmax_of, deleted_of, pad_of, payload_of}
use Rattle.refusals.specs.Verdict.{verdict}
use Rattle.page.proofs.Reading.{deleted-in}
use Rattle.rules.specs.Shape.{stamped}
use Rattle.rules.specs.Row.{head_of, refused_row}
use Rattle.rules.proofs.ImageLaws.{stamped-length, stamped-deleted}
use Rattle.endian.specs.declared.TxnNumber.{TxnNumber}
use Rattle.change.specs.declared.Image.{Image}
use Rattle.change.specs.declared.Source.TheVariants.{Log, Page}
use Rattle.change.specs.Tuples.{Lies, tuple_at, tuple_in}
use Rattle.recovery.specs.Spot.{filled_by}

-- ---- the header of a tuple by its fields

head-some : (t : List ℕ) → 24 ≤ length t → filled_by (xmin_of t) (xmax_of t) (deleted_of t) (pad_of t) ≡ head_of t
head-some [] h = absurd (omega arith)
head-some (b ∷ t) h = refl

number-whole : (w x : ℕ) → x < 256 ^ w → number_at w 0 (bytes_of w x) ≡ x
unfolding number_at
number-whole w x h = ap number_of (take_all w (bytes_of w x) (omega (arith, length-bytes_of w x))) ∙ number-back w x h

-- ---- a stamped tuple
module _ (x : ℕ) (t : List ℕ) (long : 24 ≤ length t) where
  front : length (take 8 t) ≡ 8
  front = length-take-le 8 t (omega arith)

  pub stamped-xmin : xmin_of (stamped x t) ≡ xmin_of t
  unfolding stamped
  stamped-xmin = number_append 8 0 (take 8 t) (bytes_of 8 x ++ (1 ∷ drop 17 t)) (omega (arith, front)) ∙ number-take 8 0 8 t (omega arith)

  pub stamped-xmax : x < 2 ^ 64 → xmax_of (stamped x t) ≡ x
  unfolding stamped
  stamped-xmax small =
      let e : drop 8 (stamped x t) ≡ bytes_of 8 x ++ (1 ∷ drop 17 t) = drop_at (take 8 t) (bytes_of 8 x ++ (1 ∷ drop 17 t)) 8 front in
      sym (number-drop 8 0 8 (stamped x t)) ∙ rw e (number_append 8 0 (bytes_of 8 x) (1 ∷ drop 17 t) (omega (arith, length-bytes_of 8 x)) ∙ number-whole 8 x small)

  -- what is behind the deleted byte
  stamped-rest : drop 17 (stamped x t) ≡ drop 17 t
  unfolding stamped
  stamped-rest =
      let l : length (take 8 t ++ bytes_of 8 x) ≡ 16 = simp (length-append, length-bytes_of) (omega (arith, front)) in
      let a : stamped x t ≡ (take 8 t ++ bytes_of 8 x) ++ (1 ∷ drop 17 t) = sym (append_assoc (take 8 t) (bytes_of 8 x) (1 ∷ drop 17 t)) in
      let d : drop 16 (stamped x t) ≡ 1 ∷ drop 17 t = ap (drop 16) a ∙ drop_at (take 8 t ++ bytes_of 8 x) (1 ∷ drop 17 t) 16 l in
      sym (drop-drop 1 16 (stamped x t)) ∙ ap (drop 1) d

  stamped-pad : pad_of (stamped x t) ≡ pad_of t
  stamped-pad = sym (number-drop 7 0 17 (stamped x t)) ∙ ap (number_at 7 0) stamped-rest ∙ number-drop 7 0 17 t

  pub stamped-payload : payload_of (stamped x t) ≡ payload_of t
  stamped-payload = sym (drop-drop 7 17 (stamped x t)) ∙ ap (drop 7) stamped-rest ∙ drop-drop 7 17 t

-- the 7 pad bytes, by 3 and 4 of them
pub pad-parts : (at : ℕ) (s : List ℕ) → number_at 3 (at + 17) s + 16777216 * number_at 4 (at + 20) s ≡ number_at 7 (at + 17) s
pad-parts at s = let e : at + 17 + 3 ≡ at + 20 = omega arith in sym (number-split 3 4 (at + 17) s ∙ rw e)

-- ---- the fields of an image in its source
module _ (source : List ℕ) (m : Image) (within : m.place + m.length ≤ length source) (long : 24 ≤ m.length) where
  abbrev bytes : List ℕ
  bytes = part m.place m.length source

  pub image-long : 24 ≤ length (part m.place m.length source)
  image-long = omega (arith, length-take-le m.length (drop m.place source) (rw (length-drop m.place source) (omega arith)))

  field_at : (w at : ℕ) → at + w ≤ 24 → number_at w at bytes ≡ number_at w (m.place + at) source
  field_at w at h = number-take w at m.length (drop m.place source) (omega arith) ∙ number-drop w at m.place source

  pub head-stamped : (x : TxnNumber) → m.deleted_by ≡ Some x → x.0 < 2 ^ 64 → filled_by (number_at 8 m.place source) x.0 1 (number_at 7 (m.place + 17) source) ≡ head_of (tuple_at source m)
  head-stamped y e small =
      let long-too : 24 ≤ length (stamped y.0 bytes) = omega (arith, stamped-length y.0 bytes image-long, image-long) in
      let x : xmin_of (stamped y.0 bytes) ≡ number_at 8 m.place source = stamped-xmin y.0 bytes image-long ∙ field_at 8 0 (omega arith) ∙ ap (λ (k : ℕ). number_at 8 k source) zero-behind in
      let h = head-some (stamped y.0 bytes) long-too in
      let w : pad_of (stamped y.0 bytes) ≡ number_at 7 (m.place + 17) source = stamped-pad y.0 bytes image-long ∙ field_at 7 17 (omega arith) in
      rw (e) (rw (x, stamped-xmax y.0 bytes image-long small, stamped-deleted y.0 bytes image-long, w) at h)
    where
      zero-behind : m.place + 0 ≡ m.place
      zero-behind = omega arith

  pub head_plain : m.deleted_by ≡ None
      → filled_by (number_at 8 m.place source) (number_at 8 (m.place + 8) source) (get_or source (m.place + 16) 0) (number_at 7 (m.place + 17) source) ≡ head_of (tuple_at source m)
  head_plain e =
      let z : m.place + 0 ≡ m.place = omega arith in
      let x : xmin_of bytes ≡ number_at 8 m.place source = field_at 8 0 (omega arith) ∙ ap (λ (k : ℕ). number_at 8 k source) z in
      let h = head-some bytes image-long in
      rw e (rw (x, field_at 8 8 (omega arith), deleted-in source m.place m.length long, field_at 7 17 (omega arith)) at h)

-- ---- an image in a log or in a page area
module _ (log pages : List ℕ) (m : Image) where
  pub tuple-logged : m.source ≡ Log → tuple_in log pages m ≡ tuple_at log m
  unfolding tuple_in
  tuple-logged e = rw e

  pub tuple-paged : m.source ≡ Page → tuple_in log pages m ≡ tuple_at pages m
  unfolding tuple_in
  tuple-paged e = rw e

  module _ (l : Lies log pages m) where
    plain : m.length ≡ 0 → m.deleted_by ≡ None
    plain z = go m.deleted_by refl
      where
        go : (o : Option TxnNumber) → m.deleted_by ≡ o → m.deleted_by ≡ None
        go (Some x) e = absurd (omega (arith, (l.headed x e).1))
        go None e = e

    pub tuple-empty : m.length ≡ 0 → tuple_in log pages m ≡ []
    unfolding tuple_in
    tuple-empty z = rw (plain z, z)

    module _ (whole : (m.length ≡ 0) ⊎ (24 ≤ m.length)) (some : m.length ≡ 0 → ⊥) where
      long : 24 ≤ m.length
      long = go whole
        where
          go : (m.length ≡ 0) ⊎ (24 ≤ m.length) → 24 ≤ m.length
          go (inl z) = absurd (some z)
          go (inr h) = h

      pub head-logged : m.source ≡ Log → (m.place + m.length ≤ length log) × (24 ≤ m.length)
      head-logged e = (rw e at l.within, long)

      pub head-paged : m.source ≡ Page → (m.place + m.length ≤ length pages) × (24 ≤ m.length)
      head-paged e = (rw e at l.within, long)

-- ---- the header of a spot

module _ (log pages : List ℕ) (n at : ℕ) (m : Image) where
  pub spot-head-refused : (n ≡ 0 → ⊥) → refused_row (verdict n at) ≡ pick (eqb n 0) (head_of (tuple_in log pages m)) (refused_row (verdict n at))
  spot-head-refused h = sym (rw (ne_eqb n 0 h))

  pub spot-head : n ≡ 0 → {t : List ℕ} → tuple_in log pages m ≡ t → head_of t ≡ pick (eqb n 0) (head_of (tuple_in log pages m)) (refused_row (verdict n at))
  spot-head h e = sym (rw (eq-eqb n 0 h, e))
