-- Where a row's tuple stands, in the log or in the page area. Assumes nothing.
use Rattle.std.specs.Prelude.{◌≡◌, ℕ, ◌+◌, ◌*◌, ◌<◌, ◌≤◌, Bool, true, false, ◌⊎◌, List, [], length, drop, Option}
use mathlib.Core.Path.{refl, sym, ap, ◌∙◌}
use mathlib.Core.Logic.{inl, inr}
use native.Mathlib.Decide.{dec_lt}
use native.Mathlib.Omega.{arith}
use borrow.Author.Tests.{eq-eqb, ne_eqb, le-leb, lt-leb}
use Rattle.rules.proofs.Tests.{false-true}
use Rattle.endian.specs.Numbers.{part}
use Rattle.endian.specs.declared.TxnNumber.{TxnNumber}
use Rattle.endian.proofs.Places.{part-take, part-drop}
use Rattle.wal.specs.Read.{first}
use Rattle.wal.specs.Walk.{entries}
use Rattle.page.specs.Layout.{page_bytes, head_bytes, data_type, pages_in, page_at, type_of, body_of, slot_off, slot_at}
use Rattle.refusals.specs.Verdict.{verdict, accepted}
use Rattle.page.specs.Good.{TupleGood}
use Rattle.refusals.specs.declared.Verdict.{Verdict}
use Rattle.rules.specs.Order.{never_full}
use Rattle.rules.specs.Mend.{committed, top_of, decided}
use Rattle.rules.specs.Recover.{recover_verdict}
use Rattle.rules.specs.Row.{row_verdict, tuple_of, in_pages, standing_of}
use Rattle.rules.proofs.Slots.{decided-keeps}
use Rattle.rules.proofs.Accepted.{slot-good}
use Rattle.rules.proofs.ImageLaws.{tuple-images}
use Rattle.rules.proofs.OrderLaws.{in-turn}
use Rattle.fates.specs.Fate.{Ordered}
use Rattle.change.specs.declared.Image.{Image}
use Rattle.change.specs.declared.Source.{Source}
use Rattle.change.specs.declared.Source.TheVariants.{Log, Page}
use Rattle.change.specs.Tuples.{Lies, Stood, tuple_in}
use Rattle.images.specs.Tuples.{paged, Placed}
use Rattle.images.specs.Page.{Sound, Fitting}
use Rattle.images.proofs.Deciding.{top-fits}
use Rattle.recovery.specs.Spot.{shifted_by, nowhere_by, standing_in, Spotted}
use Rattle.refusals.proofs.Then.{then-refused, then-accepted}
use Rattle.rules.specs.Lent.{lent}

-- ---- an image of a page, as one of the page area

pub shifted-is : (a : ℕ) (m : Image) → m.source ≡ Page
    → record { source = Page; place = m.place + a; length = m.length; deleted_by = m.deleted_by } ≡ shifted_by a m
shifted-is a m e = rw e

module _ {s pages t : List ℕ} (i : ℕ) (room : length (page_at i pages) ≡ page_bytes) (lent : i * page_bytes + page_bytes ≤ length pages) where
  stood-as : (l : Source) (p n : ℕ) (by : Option TxnNumber) → let m : Image = record { source = l; place = p; length = n; deleted_by = by } in
      Stood s (page_at i pages) m t → Stood s pages (shifted_by (i * page_bytes) m) t
  unfolding tuple_in
  stood-as Log p n by h = record { is = h.is; lies = record { within = h.lies.within; short = h.lies.short; headed = h.lies.headed }; long = h.long }
  stood-as Page p n by h =
      let w : p + n ≤ page_bytes = omega (arith, h.lies.within, room) in
      let x : i * page_bytes + p ≡ p + i * page_bytes = omega arith in
      let e : part p n (page_at i pages) ≡ part (p + i * page_bytes) n pages
      = part-take p n page_bytes (drop (i * page_bytes) pages) w ∙ part-drop p n (i * page_bytes) pages ∙ ap (λ (k : ℕ). part k n pages) x in
      record { is = rw (← e) h.is; lies = record { within = omega arith; short = h.lies.short; headed = h.lies.headed }; long = h.long }

  pub stood-shifted : {m : Image} → Stood s (page_at i pages) m t → Stood s pages (shifted_by (i * page_bytes) m) t
  stood-shifted {m} h = stood-as m.source m.place m.length m.deleted_by h

module _ {s : List ℕ} (pages : List ℕ) (i k : ℕ) where
  placed-as : (l : Source) (p n : ℕ) (by : Option TxnNumber) → let m : Image = record { source = l; place = p; length = n; deleted_by = by } in
      Placed s (page_at i pages) i k m → ((shifted_by (i * page_bytes) m).length ≡ 0 → ⊥) → standing_in (shifted_by (i * page_bytes) m) ≡ standing_of pages s i k
  unfolding standing_of
  placed-as Log p n by h some = sym (h.won refl _)
  placed-as Page p n by h some =
      let x : p + i * page_bytes ≡ i * page_bytes + (head_bytes + slot_off (body_of (page_at i pages)) k) = omega (arith, h.at refl some) in
      ap in_pages x ∙ sym (h.kept refl _)

  pub placed-shifted : {m : Image} → Placed s (page_at i pages) i k m → ((shifted_by (i * page_bytes) m).length ≡ 0 → ⊥) → standing_in (shifted_by (i * page_bytes) m) ≡ standing_of pages s i k
  placed-shifted {m} h = placed-as m.source m.place m.length m.deleted_by h

-- ---- what recovery would leave in a slot is nothing or has a row header

pub decided-good : (log p : List ℕ) → Ordered log → Sound p → (i k : ℕ) → TupleGood (decided (committed (entries log)) (entries log) i k (slot_at p k))
decided-good log p o g i k =
    decided-keeps TupleGood (committed (entries log)) (entries log) i k (slot_at p k) (tuple-images never_full (entries log) (in-turn never_full [] (entries log) first o) i k)
    (slot-good p k g.size g.good)

-- ---- verdicts
module _ (magic floor : ℕ) (pages log : List ℕ) (i : ℕ) where
  pub row-refused : (v : Verdict) → (v.number ≡ 0 → ⊥) → recover_verdict never_full (lent magic floor pages log) ≡ v → v ≡ row_verdict (lent magic floor pages log) i
  unfolding row_verdict
  row-refused v h e = sym (rw e (then-refused v _ h))

  module _ (ok : (recover_verdict never_full (lent magic floor pages log)).number ≡ 0) where
    pub row-beyond : pages_in pages ≤ i → verdict 15 0 ≡ row_verdict (lent magic floor pages log) i
    unfolding row_verdict
    row-beyond h = sym (then-accepted (recover_verdict never_full (lent magic floor pages log)) _ ok ∙ rw (le-leb (pages_in pages) i h))

    pub row-accepted : i < pages_in pages → accepted ≡ row_verdict (lent magic floor pages log) i
    unfolding row_verdict
    row-accepted h = sym (then-accepted (recover_verdict never_full (lent magic floor pages log)) _ ok ∙ rw (lt-leb (pages_in pages) i h))

-- ---- spots

none-lies : (s p : List ℕ) → Lies s p (paged 0 0)
none-lies s p = record { within = omega arith; short = omega arith; headed = λ x e. cc }

none-stood : (s p : List ℕ) → Stood s p (paged 0 0) []
unfolding tuple_in
none-stood s p = record { is = refl; lies = none-lies s p; long = refl }

module _ (magic floor : ℕ) (pages log : List ℕ) (i k : ℕ) where
  tuple-none : (type_of (page_at i pages) ≡ data_type → ⊥) → tuple_of pages log i k ≡ []
  unfolding tuple_of
  tuple-none h = rw (ne_eqb (type_of (page_at i pages)) data_type h)

  tuple-some : type_of (page_at i pages) ≡ data_type → tuple_of pages log i k ≡ decided (committed (entries log)) (entries log) i k (slot_at (page_at i pages) k)
  unfolding tuple_of
  tuple-some h = rw (eq-eqb (type_of (page_at i pages)) data_type h)

  pub spot-refused : (n at : ℕ) → (n ≡ 0 → ⊥) → verdict n at ≡ row_verdict (lent magic floor pages log) i → Spotted magic floor pages log i k (nowhere_by n at)
  spot-refused n at h e =
      record { verdict = e; stood = λ z. absurd (h z); stands = λ z. absurd (h z); none = λ z. refl; lies = none-lies log pages; whole = inl refl }

  -- a page not of type 1
  pub spot-none : accepted ≡ row_verdict (lent magic floor pages log) i → (type_of (page_at i pages) ≡ data_type → ⊥) → Spotted magic floor pages log i k (nowhere_by 0 0)
  spot-none e h =
      record {
        verdict = e;
        stood = λ z. rw (tuple-none h) (none-stood log pages);
        stands = λ z n. absurd (n refl);
        none = λ z. refl;
        lies = none-lies log pages;
        whole = inl refl;
      }

  pub spot-found : accepted ≡ row_verdict (lent magic floor pages log) i → type_of (page_at i pages) ≡ data_type → Ordered log → Sound (page_at i pages) → {m : Image}
      → Stood log pages m (decided (committed (entries log)) (entries log) i k (slot_at (page_at i pages) k)) → ((m.length ≡ 0 → ⊥) → standing_in m ≡ standing_of pages log i k)
      → Spotted magic floor pages log i k (record { number = 0; place = 0; image = m })
  spot-found e d o g {m} h st =
      record {
        verdict = e;
        stood = λ z. rw (tuple-some d) h;
        stands = λ z. st;
        none = λ z. absurd (z refl);
        lies = h.lies;
        whole = from (decided-good log (page_at i pages) o g i k);
      }
    where
      from : TupleGood (decided (committed (entries log)) (entries log) i k (slot_at (page_at i pages) k)) → (m.length ≡ 0) ⊎ (24 ≤ m.length)
      from (inl z) = inl (h.long ∙ ap (λ (l : List ℕ). length l) z)
      from (inr z) = inr (omega (arith, h.long, z.0))

-- a page that is accepted has at most 4,080 slots
pub top-few : {log pages : List ℕ} {n : ℕ} (i : ℕ) → Fitting log pages 0 n → i < n → top_of i (entries log) ≤ 4080
top-few {log} {pages} i f l =
    elim (dec_lt 0 (top_of i (entries log))) [
      | yes h ↦ top-fits (committed (entries log)) (entries log) i (page_at i pages) (f.at i (omega arith) l h)
      | no h ↦ omega arith
    ]

-- where an image of a page ends
pub place-small : {s p : List ℕ} {m : Image} {t : List ℕ} → length s ≤ 16777216 → length p ≡ page_bytes → Stood s p m t → m.place ≤ 16777216
place-small {s} {p} {m} small size h = go m.source refl
  where
    go : (b : Source) → m.source ≡ b → m.place ≤ 16777216
    go Log e = let w : m.place + m.length ≤ length s = rw e at h.lies.within in omega arith
    go Page e = let w : m.place + m.length ≤ length p = rw e at h.lies.within in omega arith
