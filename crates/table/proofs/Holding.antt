-- A block of rows: made, and read.
-- Assumes nothing.
use mathlib.Core.Path.{◌≡◌, refl, sym, ap, ◌∙◌, subst}
use mathlib.Core.Bool.{Bool, true, false}
use Prim.Native.Nat.{ℕ, zero, suc, ◌+◌, ◌≤◌, ◌<◌}
use native.Mathlib.Omega.{arith}
use mathlib.Core.List.{List, [], ◌∷◌, map}
use lib.ListN.{length, get_or, take, drop, length-drop}
use lib.Seq.{length-take-le, get_or-take, get_or-drop}
use Rattle.endian.specs.Pick.{pick}
use Rattle.wal.specs.Entry.{Entry, commit, rollback}
use Rattle.wal.specs.Walk.{entries}
use Rattle.wal.specs.Prefix.{onward}
use Rattle.wal.proofs.Prefix.{onward-first, met-first}
use Rattle.rules.specs.Order.{any, is}
use Rattle.rules.specs.Recover.{outcome_of, records_of}
use Rattle.rules.specs.declared.Record.{Record}
use Rattle.table.specs.Rows.{row_for, blank, rows}
use Rattle.table.specs.Telling.{reach, begun_rows, tell}
use Rattle.table.specs.Holding.{Held, HeldTo, no_record}
use Rattle.table.specs.declared.inner.records.RowBlock.{RowBlock}
use Rattle.table.specs.declared.Row.{Row}
use Rattle.table.proofs.Telling.{get_d_map}
use Rattle.table.proofs.Blocks.{begun-few}
use Rattle.table.proofs.Flattening.{told-records, records-many}

-- ---- which record is taken

pub held_small : {s : List ℕ} {b : RowBlock} → Held s b → length s < reach → b.base + b.count < 18446744073709551616
held_small {s} h k = omega (arith, h.many, begun-few (met-first s), ap (λ x. length (begun_rows x)) (onward-first s))

pub begun_first : (s : List ℕ) → begun_rows (onward s 32) ≡ begun_rows (entries s)
begun_first s = ap begun_rows (onward-first s)

pub begun-next : {s : List ℕ} {b : RowBlock} {i : ℕ} → HeldTo s b i → b.base + b.count ≤ i → begun_rows (onward s b.next) ≡ drop i (begun_rows (entries s))
begun-next {s} {b} {i} h over =
    let e : b.base + b.count ≡ i = omega (arith, h.high) in
    h.held.rest ∙ ap (λ (k : ℕ). drop k (begun_rows (entries s))) e

-- ---- a row of the block

outcome-small : (es : List Entry) (t : ℕ) → outcome_of es t ≤ 2
unfolding outcome_of
outcome-small es t = go (any (is commit t) es) (any (is rollback t) es)
  where
    go : (a b : Bool) → pick a 1 (pick b 2 0) ≤ 2
    go true b = omega arith
    go false true = omega arith
    go false false = omega arith

get_d-record : (l : List Record) (i : ℕ) → i < length l → get_or (map row_for l) i blank ≡ row_for (get_or l i no_record)
get_d-record [] i h = absurd (omega arith)
get_d-record (r ∷ l) zero h = refl
get_d-record (r ∷ l) (suc i) h = get_d-record l i (omega arith)

-- row j is that of record i
module _ {s : List ℕ} {b : RowBlock} (i j : ℕ) (h : Held s b) (e : b.base + j ≡ i) (k : j < b.count) where
  begun-at : i < length (begun_rows (entries s))
  begun-at = omega (arith, h.many)

  told_at : get_or (rows b.rows) j blank ≡ tell (entries s) (get_or (begun_rows (entries s)) i blank)
  told_at =
      let all = begun_rows (entries s) in
      let part = take b.count (drop b.base all) in
      let c : length part ≡ b.count = length-take-le b.count (drop b.base all) (omega (arith, length-drop b.base all, h.many)) in
      sym (get_or-take b.count (rows b.rows) j blank k)
      ∙ ap (λ (x : List Row). get_or x j blank) h.front
      ∙ get_d_map (tell (entries s)) part j (omega arith)
      ∙ ap (tell (entries s)) (get_or-take b.count (drop b.base all) j blank k ∙ get_or-drop b.base all j blank ∙ ap (λ (m : ℕ). get_or all m blank) e)

  pub held-outcome : (get_or (rows b.rows) j blank).outcome ≤ 2
  unfolding tell
  held-outcome = rw (ap (λ (r : Row). r.outcome) told_at) (outcome-small (entries s) (get_or (begun_rows (entries s)) i blank).number.0)

  pub held-row : get_or (rows b.rows) j blank ≡ row_for (get_or (records_of (entries s) (entries s)) i no_record)
  held-row =
      let t = told-records (entries s) (entries s) in
      told_at
      ∙ sym (get_d_map (tell (entries s)) (begun_rows (entries s)) i begun-at)
      ∙ ap (λ (x : List Row). get_or x i blank) t
      ∙ get_d-record (records_of (entries s) (entries s)) i (omega (arith, begun-at, records-many (entries s) (entries s)))

  -- and it is read as the record
  pub row-outcome : (r : Row) → r ≡ get_or (rows b.rows) j blank → r.outcome ≤ 2
  row-outcome r q = subst (λ (k : ℕ). k ≤ 2) (sym (ap (λ (x : Row). x.outcome) q)) held-outcome

  pub row-record : (r : Row) → r ≡ get_or (rows b.rows) j blank
      → record { number = r.number; first = r.first; outcome = r.outcome; changes = r.changes; ending = r.ending; last = r.last } ≡ get_or (records_of (entries s) (entries s)) i no_record
  row-record r q =
      ap (λ (x : Row). record { number = x.number; first = x.first; outcome = x.outcome; changes = x.changes; ending = x.ending; last = x.last }) (q ∙ held-row)

  pub row-held : HeldTo s b (i + 1)
  row-held = record { held = h; low = omega arith; high = omega arith }
