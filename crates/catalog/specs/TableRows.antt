-- The catalog's table rows (paper 02, W7): the payload's three forms, reading and writing.
use Rattle.std.specs.Prelude.{ℕ, ◌+◌, ◌-◌, Bool, true, false, List, ◌++◌, Option, Some, None, Result, Ok, Err, length, drop, get_or, ltb, leb, eqb}
use Rattle.refusals.specs.Refusal.{table_row_ends_early, table_row_form, table_row_layout, table_row_no_room, table_row_newer}
use Rattle.refusals.specs.Verdict.{verdict, accepted, told_by}
use Rattle.refusals.specs.declared.Refused.{Refused}
use Rattle.refusals.specs.declared.Verdict.{Verdict}
use Rattle.endian.specs.Pick.{pick}
use Rattle.endian.specs.Numbers.{bytes_of, number_at}
use Rattle.endian.specs.declared.PageNumber.{PageNumber}
use Rattle.catalog.specs.declared.Layout.{Layout}
use Rattle.catalog.specs.declared.Layout.TheVariants.{Heap, Clustered}
use Rattle.catalog.specs.declared.Names.{Names}
use Rattle.catalog.specs.declared.Part.{Part}
use Rattle.catalog.specs.declared.TableRow.{TableRow}

-- ---- a payload: table id u32, root page u64, schema length u8 and bytes, name length u8 and bytes; a byte past the end counts as 0

abbrev pub table_of : List ℕ → ℕ
table_of p = number_at 4 0 p

abbrev pub root_of : List ℕ → ℕ
root_of p = number_at 8 4 p

abbrev pub schema_length : List ℕ → ℕ
schema_length p = get_or p 12 0

-- where the name's length stands
abbrev pub name_length_at : List ℕ → ℕ
name_length_at p = 13 + schema_length p

abbrev pub name_length : List ℕ → ℕ
name_length p = get_or p (name_length_at p) 0

-- where the names end
abbrev pub names_end : List ℕ → ℕ
names_end p = name_length_at p + 1 + name_length p

-- ---- what is read

-- a name is a part of the payload
abbrev pub part_at : ℕ → ℕ → Part
part_at at n = record { at = at; length = n }

abbrev pub names_of : List ℕ → Names
names_of p = record { schema = part_at 13 (schema_length p); name = part_at (name_length_at p + 1) (name_length p); end = names_end p }

-- what a reader answers: a verdict and what the row says, its layout by number
pub record RowAnswer : Type 0 where
  pub verdict : Verdict
  pub table : ℕ
  pub root : PageNumber
  pub schema : Part
  pub name : Part
  pub layout : ℕ
  pub version : ℕ

-- refused: everything else 0
abbrev pub refused_by : Verdict → RowAnswer
refused_by v = record { verdict = v; table = 0; root = record { 0 = 0 }; schema = part_at 0 0; name = part_at 0 0; layout = 0; version = 0 }

abbrev pub refused_row : ℕ → RowAnswer
refused_row n = refused_by (verdict n 0)

-- layout 0 is heap, 1 clustered; another is refused by 36
unfoldable pub laid : List ℕ → ℕ → ℕ → RowAnswer
laid p layout version =
    pick (leb layout 1) (record {
      verdict = accepted;
      table = table_of p;
      root = record { 0 = root_of p };
      schema = part_at 13 (schema_length p);
      name = part_at (name_length_at p + 1) (name_length p);
      layout = layout;
      version = version;
    }) (refused_row table_row_layout)

-- the layout byte, where there is one
abbrev pub layout_of : List ℕ → ℕ
layout_of p = get_or p (names_end p) 0

-- a payload that ends early is refused by 34; then nothing, one layout byte, or what `newest` says of nine bytes, else 35
unfoldable pub row_by : (List ℕ → RowAnswer) → List ℕ → RowAnswer
row_by newest p =
    pick (ltb (length p) (names_end p)) (refused_row table_row_ends_early)
    (pick (eqb (length p - names_end p) 0) (laid p 0 1)
    (pick (eqb (length p - names_end p) 1) (laid p (layout_of p) 1) (pick (eqb (length p - names_end p) 9) (newest p) (refused_row table_row_form))))

-- the newest form, a layout byte and a u64 schema version: a reader that knows it reads it, an older one refuses it by 38, whatever its layout byte
abbrev pub newest_by : Bool → List ℕ → RowAnswer
newest_by knows p = pick knows (laid p (layout_of p) (number_at 8 (names_end p + 1) p)) (refused_row table_row_newer)

abbrev pub row_of : List ℕ → RowAnswer
row_of = row_by (newest_by true)

abbrev pub older_row_of : List ℕ → RowAnswer
older_row_of = row_by (newest_by false)

-- nine bytes behind the names are the newest form
unfoldable pub is_newest : List ℕ → Bool
is_newest p = eqb (length p) (names_end p + 9)

-- ---- as code answers

-- a layout by its byte, and its byte
abbrev pub layout_by : ℕ → Option Layout
layout_by n = pick (eqb n 0) (Some Heap) (pick (eqb n 1) (Some Clustered) None)

abbrev pub layout_number : Layout → ℕ
layout_number Heap = 0
layout_number Clustered = 1

-- a row or a refusal as that answer
abbrev pub answer_of : Result TableRow Refused → RowAnswer
answer_of (Ok r) = record { verdict = accepted; table = r.table; root = r.root; schema = r.schema; name = r.name; layout = layout_number r.layout; version = r.version }
answer_of (Err e) = refused_by (told_by e)

-- ---- what is written

-- a name: its length u8 and its bytes
abbrev pub name_bytes : List ℕ → List ℕ
name_bytes name = bytes_of 1 (length name) ++ name

-- a row in the newest form
unfoldable pub row_bytes : ℕ → ℕ → List ℕ → List ℕ → ℕ → ℕ → List ℕ
row_bytes table root schema name layout version =
    ((((bytes_of 4 table ++ bytes_of 8 root) ++ name_bytes schema) ++ name_bytes name) ++ bytes_of 1 layout) ++ bytes_of 8 version

-- its length, by those of the names
abbrev pub row_length : ℕ → ℕ → ℕ
row_length schema name = 23 + schema + name

-- names of these lengths have at most 255 bytes, and an area of this length has room
unfoldable pub has_room : ℕ → ℕ → ℕ → Bool
has_room schema name area = pick (leb schema 255) (pick (leb name 255) (leb (row_length schema name) area) false) false

-- what a writer answers: a verdict and the length written
pub record WriteAnswer : Type 0 where
  pub verdict : Verdict
  pub length : ℕ

-- a length or a refusal as that answer
abbrev pub written_answer : Result ℕ Refused → WriteAnswer
written_answer (Ok n) = record { verdict = accepted; length = n }
written_answer (Err e) = record { verdict = told_by e; length = 0 }

-- refused: nothing is written
abbrev pub refused_writing : ℕ → WriteAnswer
refused_writing n = record { verdict = verdict n 0; length = 0 }

-- 36 for another layout, then 37 where there is no room; else the length written
unfoldable pub write_answer : List ℕ → List ℕ → ℕ → List ℕ → WriteAnswer
write_answer schema name layout area =
    pick (leb layout 1)
    (pick (has_room (length schema) (length name) (length area)) (record { verdict = accepted; length = row_length (length schema) (length name) }) (refused_writing table_row_no_room))
    (refused_writing table_row_layout)

-- the lent area then: the row and the later bytes as they were; refused, all as lent
unfoldable pub area_after : ℕ → ℕ → List ℕ → List ℕ → ℕ → ℕ → List ℕ → List ℕ
area_after table root schema name layout version area =
    pick (eqb (write_answer schema name layout area).verdict.number 0) (row_bytes table root schema name layout version ++ drop (row_length (length schema) (length name)) area) area
