-- A row by its spot: header, payload, and where the payload stands. Assumes nothing.
use Rattle.std.specs.Prelude.{◌≡◌, ℕ, ◌+◌, ◌-◌, ◌<◌, ◌≤◌, Bool, true, false, eqb, ◌⊎◌, List, [], ◌∷◌, length, take, drop, Option, None, Some}
use mathlib.Core.Path.{refl, sym, ap, ◌∙◌}
use mathlib.Core.Logic.{inl, inr}
use native.Mathlib.Omega.{arith}
use lib.ListN.{length-drop}
use borrow.Author.Tests.{eq-eqb, ne_eqb, eqb-true, eqb-false}
use Rattle.endian.specs.Pick.{pick}
use Rattle.endian.specs.Numbers.{part}
use Rattle.endian.proofs.Places.{drop-part}
use Rattle.page.specs.Layout.{payload_of}
use Rattle.refusals.specs.Verdict.{verdict}
use Rattle.refusals.specs.declared.Verdict.{Verdict}
use Rattle.rules.specs.Row.{row_verdict, tuple_of, head_of, refused_row, row_of, row_tuple, row_payload, in_log, in_pages, standing_of, located_at, located_of}
use Rattle.rules.specs.declared.RowHead.{RowHead}
use Rattle.rules.specs.declared.Located.{Located}
use Rattle.endian.specs.declared.TxnNumber.{TxnNumber}
use Rattle.change.specs.declared.Image.{Image}
use Rattle.change.specs.declared.Source.{Source}
use Rattle.change.specs.declared.Source.TheVariants.{Log, Page}
use Rattle.change.specs.Tuples.{Lies, tuple_at, tuple_in}
use Rattle.recovery.specs.declared.Spot.{Spot}
use Rattle.recovery.specs.Spot.{by_source, standing_in, located_by, Spotted}
use Rattle.recovery.proofs.Heads.{stamped-payload, tuple-logged, tuple-paged, tuple-empty, head-logged, head-paged, image-long}
use Rattle.rules.specs.Lent.{lent}

-- ---- the payload of an image

module _ (source : List ℕ) (m : Image) (within : m.place + m.length ≤ length source) (long : 24 ≤ m.length) where
  payload-at : payload_of (tuple_at source m) ≡ part (m.place + 24) (m.length - 24) source
  payload-at = go m.deleted_by refl
    where
      go : (o : Option TxnNumber) → m.deleted_by ≡ o → payload_of (tuple_at source m) ≡ part (m.place + 24) (m.length - 24) source
      go (Some x) e = rw e (stamped-payload x.0 (part m.place m.length source) (image-long source m within long) ∙ drop-part 24 m.place m.length source long)
      go None e = rw e (drop-part 24 m.place m.length source long)

module _ (log pages : List ℕ) (m : Image) (l : Lies log pages m) where
  pub payload-none : m.length ≡ 0 → payload_of (tuple_in log pages m) ≡ []
  payload-none z = rw (tuple-empty log pages m l z)

  module _ (whole : (m.length ≡ 0) ⊎ (24 ≤ m.length)) (some : m.length ≡ 0 → ⊥) where
    pub payload-logged : m.source ≡ Log → payload_of (tuple_in log pages m) ≡ part (m.place + 24) (m.length - 24) log
    payload-logged e = let h = head-logged log pages m l whole some e in rw (tuple-logged log pages m e) (payload-at log m h.0 h.1)

    pub payload-paged : m.source ≡ Page → payload_of (tuple_in log pages m) ≡ part (m.place + 24) (m.length - 24) pages
    payload-paged e = let h = head-paged log pages m l whole some e in rw (tuple-paged log pages m e) (payload-at pages m h.0 h.1)

pub whole_long : (n : ℕ) → (n ≡ 0) ⊎ (24 ≤ n) → (n ≡ 0 → ⊥) → 24 ≤ n
whole_long n (inl z) h = absurd (h z)
whole_long n (inr l) h = l

pub part_same : (a n : ℕ) (source : List ℕ) → take (a + n - (a + 24)) (drop (a + 24) source) ≡ part (a + 24) (n - 24) source
part_same a n source = let e : a + n - (a + 24) ≡ n - 24 = omega arith in rw e

pub lies-small : {log pages : List ℕ} {m : Image} (top : ℕ) → Lies log pages m → length log < top → length pages < top → m.place + m.length < top
lies-small {log} {pages} {m} top l a b = go m.source refl
  where
    go : (x : Source) → m.source ≡ x → m.place + m.length < top
    go Log e = let w : m.place + m.length ≤ length log = rw e at l.within in omega arith
    go Page e = let w : m.place + m.length ≤ length pages = rw e at l.within in omega arith

-- ---- a row located

module _ (head : RowHead) (logged : Source) (place n : ℕ) where
  pub located-none : n ≡ 0 → record { head = head; source = 0; offset = 0; length = 0 } ≡ located_by head logged place n
  located-none z = sym (rw (eq-eqb n 0 z))

  pub located-some : (n ≡ 0 → ⊥) → {source : ℕ} → source ≡ by_source 1 2 logged → record { head = head; source = source; offset = place + 24; length = n - 24 } ≡ located_by head logged place n
  located-some h e = rw e (sym (rw (ne_eqb n 0 h)))

pub located-head : (head : RowHead) (logged : Source) (place n : ℕ) {r : Located} → r ≡ located_by head logged place n → r.head ≡ head
located-head head logged place n e = ap (λ (x : Located). x.head) e ∙ go (eqb n 0)
  where
    go : (b : Bool) → (pick {A = Located} b (record { head = head; source = 0; offset = 0; length = 0 }) (record { head = head; source = by_source 1 2 logged; offset = place + 24; length = n - 24 })).head ≡ head
    go true = refl
    go false = refl

-- what stands somewhere, located
located-long : (head : RowHead) (m : Image) (t : List ℕ) (n : ℕ) → length t ≡ n → 24 ≤ n
    → record { head = head; source = by_source 1 2 m.source; offset = m.place + 24; length = n - 24 } ≡ located_at head (standing_in m) t
located-long head m [] n e l = absurd (omega arith)
located-long head m (b ∷ t) n e l = go m.source
  where
    payload : n - 24 ≡ length (payload_of (b ∷ t))
    payload = ap (λ (x : ℕ). x - 24) (sym e) ∙ sym (length-drop 24 (b ∷ t))

    go : (c : Source) → record { head = head; source = by_source 1 2 c; offset = m.place + 24; length = n - 24 } ≡ located_at head (by_source (in_log m.place) (in_pages m.place) c) (b ∷ t)
    go Log = ap (λ (x : ℕ). record { head = head; source = 1; offset = m.place + 24; length = x }) payload
    go Page = ap (λ (x : ℕ). record { head = head; source = 2; offset = m.place + 24; length = x }) payload

-- ---- a row
module _ {magic floor : ℕ} {pages log : List ℕ} {i k : ℕ} {r : Spot} (s : Spotted magic floor pages log i k r) where
  number_is : (row_verdict (lent magic floor pages log) i).number ≡ r.number
  number_is = sym (ap (λ (v : Verdict). v.number) s.verdict)

  pub row-head : pick (eqb r.number 0) (head_of (tuple_in log pages r.image)) (refused_row (verdict r.number r.place)) ≡ row_of (lent magic floor pages log) i k
  unfolding row_of
  row-head = rw (← s.verdict) (go (eqb r.number 0) refl)
    where
      go : (b : Bool) → eqb r.number 0 ≡ b → pick b (head_of (tuple_in log pages r.image)) (refused_row (verdict r.number r.place))
          ≡ pick b (head_of (tuple_of pages log i k)) (refused_row (verdict r.number r.place))
      go true e = ap head_of (s.stood (eqb-true r.number 0 e)).is
      go false e = refl

  row-tuple : tuple_in log pages r.image ≡ row_tuple (lent magic floor pages log) i k
  unfolding row_tuple
  row-tuple = rw (number_is) (go (eqb r.number 0) refl)
    where
      go : (b : Bool) → eqb r.number 0 ≡ b → tuple_in log pages r.image ≡ pick b (tuple_of pages log i k) []
      go true e = (s.stood (eqb-true r.number 0 e)).is
      go false e = tuple-empty log pages r.image s.lies (ap (λ (m : Image). m.length) (s.none (eqb-false r.number 0 e)))

  pub row-payload : payload_of (tuple_in log pages r.image) ≡ row_payload (lent magic floor pages log) i k
  unfolding row_payload
  row-payload = ap payload_of row-tuple

  -- with a tuple: it is not refused
  module _ (long : 24 ≤ r.image.length) where
    some : r.image.length ≡ 0 → ⊥
    some z = omega arith

    zero_number : r.number ≡ 0
    zero_number = go (eqb r.number 0) refl
      where
        go : (b : Bool) → eqb r.number 0 ≡ b → r.number ≡ 0
        go true e = eqb-true r.number 0 e
        go false e = absurd (some (ap (λ (x : Image). x.length) (s.none (eqb-false r.number 0 e))))

    tuple-long : length (row_tuple (lent magic floor pages log) i k) ≡ r.image.length
    tuple-long = let d = s.stood zero_number in ap length (sym row-tuple ∙ d.is) ∙ sym d.long

  pub row-located : {l : Located} → l ≡ located_by l.head r.image.source r.image.place r.image.length
      → l.head ≡ pick (eqb r.number 0) (head_of (tuple_in log pages r.image)) (refused_row (verdict r.number r.place)) → l ≡ located_of (lent magic floor pages log) i k
  unfolding located_of
  row-located {l} e h = e ∙ ap (λ (x : RowHead). located_by x r.image.source r.image.place r.image.length) (h ∙ row-head) ∙ go s.whole
    where
      head : RowHead
      head = row_of (lent magic floor pages log) i k

      go : (r.image.length ≡ 0) ⊎ (24 ≤ r.image.length)
          → located_by head r.image.source r.image.place r.image.length ≡ located_at head (standing_of pages log i k) (row_tuple (lent magic floor pages log) i k)
      go (inl z) = rw (eq-eqb r.image.length 0 z, ← row-tuple, tuple-empty log pages r.image s.lies z)
      go (inr b) =
          rw (ne_eqb r.image.length 0 (some b), ← s.stands (zero_number b) (some b))
          (located-long head r.image (row_tuple (lent magic floor pages log) i k) r.image.length (tuple-long b) b)
