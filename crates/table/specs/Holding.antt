-- Internal: a block of rows from which records are taken one after the other.
use Rattle.std.specs.Prelude.{ℕ, ◌+◌, ◌/◌, ◌≤◌, ◌<◌, ◌≡◌, List, map, eqb, length, take, drop}
use Rattle.endian.specs.Pick.{pick}
use Rattle.wal.specs.Walk.{entries, end_of}
use Rattle.wal.specs.Prefix.{Met, onward}
use Rattle.rules.specs.Order.{count, is_begin}
use Rattle.rules.specs.declared.Answer.{Answer}
use Rattle.rules.specs.declared.Record.{Record}
use Rattle.table.specs.Flat.{stride}
use Rattle.table.specs.declared.inner.records.RowBlock.{RowBlock}
use Rattle.table.specs.Rows.{rows}
use Rattle.table.specs.Telling.{reach, Orderly, begun_rows, tell}

-- the block b holds the rows of some of the Begins, told by all entries
pub record Held (s : List ℕ) (b : RowBlock) : Type 0 where
  pub met : Met s b.next
  pub rest : begun_rows (onward s b.next) ≡ drop (b.base + b.count) (begun_rows (entries s))
  pub many : b.base + b.count ≤ length (begun_rows (entries s))
  pub room : b.count ≤ length b.rows / stride
  pub front : take b.count (rows b.rows) ≡ map (tell (entries s)) (take b.count (drop b.base (begun_rows (entries s))))

-- those up to the record i
pub record HeldTo (s : List ℕ) (b : RowBlock) (i : ℕ) : Type 0 where
  pub held : Held s b
  pub low : b.base ≤ i
  pub high : i ≤ b.base + b.count

-- record i can be taken: nothing is held at first
pub record Next (s : List ℕ) (end : ℕ) (b : RowBlock) (i : ℕ) : Type 0 where
  pub orderly : Orderly s
  pub ends : end_of s ≡ end
  pub short : length s < reach
  pub begun : i < count is_begin (entries s)
  pub held : 0 < i → HeldTo s b i

abbrev pub no_record : Record
no_record = record { number = record { 0 = 0 }; first = record { 0 = 0 }; outcome = 0; changes = 0; ending = record { 0 = 0 }; last = record { 0 = 0 } }

-- how many records an answer tells of: one for each transaction; refused, none
unfoldable pub due : Answer → ℕ
due a = pick (eqb a.number 0) (a.committed + a.rolled_back + a.unended) 0
