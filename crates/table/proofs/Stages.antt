-- The table while records are stored, and the block that they are taken from.
-- Assumes nothing.
use mathlib.Core.Path.{◌≡◌, refl, sym, ap, ◌∙◌}
use mathlib.Core.Bool.{Bool, true, false}
use Prim.Native.Nat.{ℕ, zero, suc, ◌+◌, ◌≤◌, ◌<◌}
use native.Mathlib.Numerals.{add-one}
use native.Mathlib.Omega.{arith}
use mathlib.Core.List.{List, ◌++◌}
use lib.ListN.{length, get_or, set, take, drop}
use lib.Seq.{length-take-le, take_all, take-suc, drop-cons, append_snoc, set_at}
use lib.Dec.{eqb}
use borrow.Author.Tests.{eq-eqb, ne_eqb, eqb-true, eqb-false}
use Rattle.endian.specs.Pick.{pick}
use Rattle.wal.specs.Walk.{entries, end_of}
use Rattle.rules.specs.Order.{count, is_begin}
use Rattle.rules.specs.Recover.{records_of, table_after}
use Rattle.rules.specs.declared.Answer.{Answer}
use Rattle.rules.specs.declared.Record.{Record}
use Rattle.table.specs.Telling.{reach, Orderly}
use Rattle.table.specs.Holding.{HeldTo, Next, no_record, due}
use Rattle.table.specs.declared.inner.records.RowBlock.{RowBlock}
use Rattle.table.proofs.Flattening.{begun-length, records-many}

-- ---- how many records there are

pub due_all : (a : Answer) → a.number ≡ 0 → due a ≡ a.committed + a.rolled_back + a.unended
unfolding due
due_all a z = rw (eq-eqb a.number 0 z)

pub due-none : (a : Answer) → (a.number ≡ 0 → ⊥) → due a ≡ 0
unfolding due
due-none a h = rw (ne_eqb a.number 0 h)

-- n records can be stored in a table: nothing is asked of the log where there is none
pub record Storable (s : List ℕ) (end n records : ℕ) : Type 0 where
  pub orderly : 0 < n → Orderly s
  pub ends : 0 < n → end_of s ≡ end
  pub short : 0 < n → length s < reach
  pub begun : 0 < n → n ≤ count is_begin (entries s)
  pub room : n ≤ records

-- the table ys after i records
abbrev pub stored_to : List ℕ → ℕ → List Record → List Record
stored_to s i ys = take i (records_of (entries s) (entries s)) ++ drop i ys

-- i records are stored, and the block holds the row of the last
pub record Stage (s : List ℕ) (n : ℕ) : Type 0 where
  pub index : ℕ
  pub within : index ≤ n
  pub block : RowBlock
  pub held : 0 < index → HeldTo s block index

module _ {s : List ℕ} {end n rows : ℕ} (p : Storable s end n rows) where
  pub begun_all : 0 < n → n ≤ length (records_of (entries s) (entries s))
  begun_all h = omega (arith, p.begun h, records-many (entries s) (entries s), begun-length (entries s))

  -- how far the records reach: none is asked of the log where none is stored
  reaches : (i : ℕ) → i ≤ n → i ≤ length (records_of (entries s) (entries s))
  reaches zero h = omega arith
  reaches (suc i) h = omega (arith, begun_all (omega arith))

  module _ (i : Stage s n) (less : i.index < n) where
    -- what taking the next one asks
    pub next : Next s end i.block i.index
    next = record {
      orderly = p.orderly (omega arith);
      ends = p.ends (omega arith);
      short = p.short (omega arith);
      begun = omega (arith, p.begun (omega arith));
      held = i.held;
    }

    -- and what storing it makes of the table
    pub stored_next : (ys : List Record) → length ys ≡ rows → set (stored_to s i.index ys) i.index (get_or (records_of (entries s) (entries s)) i.index no_record) ≡ stored_to s (i.index + 1) ys
    stored_next ys l =
        let k = i.index in
        let all = records_of (entries s) (entries s) in
        let b : k < length all = omega (arith, begun_all (omega arith)) in
        let c : k < length ys = omega (arith, p.room) in
        rw (add-one k, drop-cons ys k no_record c, take-suc all k no_record b)
        (set_at (take k all) (get_or ys k no_record) (drop (suc k) ys) (get_or all k no_record) k (length-take-le k all (omega arith)) ∙ sym (append_snoc (take k all) (get_or all k no_record) (drop (suc k) ys)))

-- ---- the table of an answer

module _ (s : List ℕ) (a : Answer) (ys : List Record) (ordered : a.number ≡ 0 → Orderly s)
    (asked : a.number ≡ 0 → (end_of s ≡ a.tail) × (length s < reach) × (count is_begin (entries s) ≡ due a) × (due a ≤ length ys)) where
  -- a record is due only where nothing is refused
  accepted : 0 < due a → a.number ≡ 0
  accepted h = go a.number refl
    where
      go : (n : ℕ) → a.number ≡ n → a.number ≡ 0
      go zero e = e
      go (suc n) e = absurd (omega (arith, h, due-none a (λ z. omega (arith, e, z))))

  pub storable : Storable s a.tail (due a) (length ys)
  storable = record {
    orderly = λ h. ordered (accepted h);
    ends = λ h. (asked (accepted h)).0;
    short = λ h. (asked (accepted h)).1;
    begun = λ h. omega (arith, (asked (accepted h)).2);
    room = room a.number refl;
  }
    where
      room : (n : ℕ) → a.number ≡ n → due a ≤ length ys
      room zero e = (asked e).3
      room (suc n) e = omega (arith, due-none a (λ z. omega (arith, e, z)))

  -- once all are stored
  pub stored-all : stored_to s (due a) ys ≡ pick (eqb a.number 0) (table_after (entries s) ys) ys
  unfolding table_after
  stored-all = go (eqb a.number 0) refl
    where
      go : (b : Bool) → eqb a.number 0 ≡ b → stored_to s (due a) ys ≡ pick b (table_after (entries s) ys) ys
      go true e =
          let z = eqb-true a.number 0 e in
          let all = records_of (entries s) (entries s) in
          let k : due a ≡ length all = omega (arith, (asked z).2, records-many (entries s) (entries s), begun-length (entries s)) in
          ap (λ (m : ℕ). stored_to s m ys) k ∙ ap (λ (l : List Record). l ++ drop (length all) ys) (take_all (length all) all (omega arith))
      go false e = ap (λ (m : ℕ). stored_to s m ys) (due-none a (eqb-false a.number 0 e))
