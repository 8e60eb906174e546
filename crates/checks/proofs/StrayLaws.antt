-- The walk for changes to pages that cannot take them, turn by turn. Assumes nothing.
use Prim.Native.Nat.{ℕ, suc, ◌+◌, ◌*◌, ◌≤◌, ◌<◌}
use mathlib.Core.Path.{◌≡◌, refl, sym, ap, ◌∙◌}
use mathlib.Core.Bool.{Bool, true, false, not}
use mathlib.Core.List.{List, [], ◌∷◌}
use native.Mathlib.Decide.{dec_lt}
use native.Mathlib.Numerals.{add-one}
use native.Mathlib.Omega.{arith}
use lib.ListN.{get_or}
use lib.Dec.{leb, eqb}
use borrow.Author.Tests.{le-leb, lt-leb, eqb-true}
use Rattle.endian.specs.Pick.{pick}
use Rattle.wal.specs.Entry.{Entry, size_of}
use Rattle.wal.specs.Read.{first, length_at, view}
use Rattle.wal.specs.Walk.{entries, end_of}
use Rattle.wal.specs.Prefix.{Stands, said, onward}
use Rattle.wal.proofs.Places.{size-of}
use Rattle.wal.proofs.Prefix.{stands_at, before-end, onward-first, onward-next, onward-end}
use Rattle.page.specs.Layout.{page_bytes, data_type, pages_in}
use Rattle.refusals.specs.Verdict.{verdict, accepted}
use Rattle.page.proofs.Reading.{type_at}
use Rattle.rules.specs.Shape.{both, is_change, is_on, page_of, slot_of, top_on}
use Rattle.rules.specs.Order.{any}
use Rattle.rules.specs.Mend.{top_of}
use Rattle.rules.specs.Recover.{is_stray, stray_from}
use Rattle.rules.proofs.OrderLaws.{Every}
use Rattle.rules.proofs.Tests.{either-false, false-true}
use Rattle.rules.proofs.Verdicts.{OnData, all-lent}
use Rattle.cells.specs.Cell.{start_of, Starts}
use Rattle.cells.specs.Measure.{is_beyond, FirstBeyond}
use Rattle.cells.proofs.CellLaws.{start-next}
use Rattle.checks.specs.Judged.{OfData}

-- ---- one entry
module _ (pages : List ℕ) (e : Entry) where
  pub no_stray : is_change e ≡ false → is_stray pages e ≡ false
  unfolding is_stray
  no_stray h = rw h

  module _ (change : is_change e ≡ true) where
    pub stray-beyond : pages_in pages ≤ page_of e → is_stray pages e ≡ true
    unfolding is_stray
    stray-beyond h = rw (change, le-leb (pages_in pages) (page_of e) h)

    pub stray-type : page_of e < pages_in pages → is_stray pages e ≡ not (eqb (get_or pages (page_of e * page_bytes + 8) 0) data_type)
    unfolding is_stray
    stray-type h = rw (change, lt-leb (pages_in pages) (page_of e) h, type_at pages (page_of e))

-- ---- entry by entry
module _ (pages s : List ℕ) where
  pub stray-first : stray_from pages (entries s) 32 ≡ stray_from pages (onward s 32) 32
  stray-first = ap (λ (es : List Entry). stray_from pages es 32) (sym (onward-first s))

  module _ (at : ℕ) (h : Stands s at) where
    turn : stray_from pages (onward s at) at ≡ pick (is_stray pages (said s at)) (verdict 13 at) (stray_from pages (onward s (at + length_at s at)) (at + length_at s at))
    unfolding stray_from view
    turn = rw (onward-next s h, size-of (stands_at h))

    pub stray-here : is_stray pages (said s at) ≡ true → stray_from pages (onward s at) at ≡ verdict 13 at
    stray-here e = turn ∙ rw e

    pub stray-next : (next : ℕ) → next ≡ at + length_at s at → is_stray pages (said s at) ≡ false → stray_from pages (onward s at) at ≡ stray_from pages (onward s next) next
    stray-next next q e = turn ∙ rw (e, ← q)

  pub stray-end : (at : ℕ) → at ≡ end_of s → stray_from pages (onward s at) at ≡ accepted
  unfolding stray_from
  stray-end at e = rw (e, onward-end s)

-- ---- where no change is refused

-- an entry that does not change page n or a later one
off-page : (n i : ℕ) (e : Entry) → is_beyond n e ≡ false → n ≤ i → top_on i e ≡ 0
unfolding is_beyond top_on is_on
off-page n i e h l = go (is_change e) refl (eqb (page_of e) i) refl
  where
    go : (a : Bool) → is_change e ≡ a → (b : Bool) → eqb (page_of e) i ≡ b → pick (both a b) (suc (slot_of e)) 0 ≡ 0
    go true c true d =
        let z : page_of e ≡ i = eqb-true _ _ d in
        let t : both (is_change e) (leb n (page_of e)) ≡ true = rw (c, le-leb n (page_of e) (omega arith)) in
        false-true (sym h ∙ t)
    go true c false d = refl
    go false c b d = refl

untouched : (n i : ℕ) (es : List Entry) → any (is_beyond n) es ≡ false → n ≤ i → top_of i es ≡ 0
unfolding top_of
untouched n i [] h l = refl
untouched n i (e ∷ es) h l =
    let o = either-false (is_beyond n e) (any (is_beyond n) es) h in
    omega (arith, off-page n i e o.0 l, untouched n i es o.1 l)

none-at : (pages : List ℕ) (es : List Entry) (at : ℕ) → Every (λ e. is_stray pages e ≡ false) es → stray_from pages es at ≡ accepted
unfolding stray_from
none-at pages [] at h = refl
none-at pages (e ∷ es) at h = rw h.0 (none-at pages es (at + size_of e) h.1)

pub stray-nowhere : (pages s : List ℕ) (n end r : ℕ) (starts : List ℕ) → n ≡ pages_in pages → end_of s ≡ end → FirstBeyond s end n r → r ≡ end → Starts (entries s) n starts → OfData pages n starts
    → stray_from pages (entries s) first ≡ accepted
stray-nowhere pages s n end r starts lent ends f at-end t d =
    none-at pages (entries s) first (all-lent pages (entries s) all)
  where
    none : any (is_beyond n) (entries s) ≡ false
    none = rw (at-end, ← ends, before-end s) at f.none

    all : (i : ℕ) → 0 < top_of i (entries s) → OnData pages i
    all i h =
        let next : start_of (entries s) (i + 1) ≡ start_of (entries s) i + top_of i (entries s) = rw (add-one i) (start-next (entries s) i) in
        elim (dec_lt i n) [
          | yes l ↦ record { within = omega arith; is_data = type_at pages i ∙ d.at i l (λ e. omega (arith, t.at i (omega arith), t.at (i + 1) (omega arith))) }
          | no l ↦ absurd (omega (arith, untouched n i (entries s) none (omega arith)))
        ]

-- ---- page by page

pub data-none : (pages starts : List ℕ) → OfData pages 0 starts
data-none pages starts = record { at = λ i h. absurd (omega arith) }

pub data-more : {pages starts : List ℕ} {i : ℕ} → ((get_or starts i 0 ≡ get_or starts (i + 1) 0 → ⊥) → get_or pages (i * page_bytes + 8) 0 ≡ data_type) → OfData pages i starts → OfData pages (i + 1) starts
data-more {pages} {starts} {i} h d =
    record {
      at = λ j l k. elim (dec_lt j i) [
        | yes m ↦ d.at j m k
        | no m ↦ let z : j ≡ i = omega arith in rw z (h (rw z at k))
      ];
    }
