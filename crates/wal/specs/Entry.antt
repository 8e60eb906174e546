-- What a log entry says, apart from where it stands (paper 01, Log).
use Rattle.std.specs.Prelude.{ℕ, ◌+◌, ◌^◌, ◌≤◌, ◌<◌, List, [], ◌∷◌, ◌++◌, length, replicate}
use Rattle.endian.specs.Numbers.{part, bytes_of, Bytes}
use Rattle.crc32c.specs.Crc.{crc32c}
use Rattle.wal.specs.declared.EntryView.{EntryView}

-- LSN, transaction number, type, table number, key, old value and new value
pub record Entry : Type 0 where
  pub lsn : ℕ
  pub txn : ℕ
  pub kind : ℕ
  pub table : ℕ
  pub key : List ℕ
  pub old : List ℕ
  pub new : List ℕ

-- the bytes of an entry: its fixed parts sum to 43
abbrev pub size_of : Entry → ℕ
size_of e = 43 + length e.key + length e.old + length e.new

-- the bytes of all of some entries
abbrev pub sizes_of : List Entry → ℕ
sizes_of [] = 0
sizes_of (e ∷ es) = size_of e + sizes_of es

-- the types of entries
abbrev pub begin : ℕ
begin = 1

abbrev pub commit : ℕ
commit = 2

abbrev pub rollback : ℕ
rollback = 3

abbrev pub insert : ℕ
insert = 4

abbrev pub delete : ℕ
delete = 5

abbrev pub checkpoint : ℕ
checkpoint = 7

abbrev pub update : ℕ
update = 10

-- ---- an entry that stands in a log, by its place and its lengths

-- its key, old and new value are parts of the log
abbrev pub key_part : List ℕ → EntryView → List ℕ
key_part s v = part (v.place + 27) v.key_len s

abbrev pub old_part : List ℕ → EntryView → List ℕ
old_part s v = part (v.place + (31 + v.key_len)) v.old_len s

abbrev pub new_part : List ℕ → EntryView → List ℕ
new_part s v = part (v.place + (35 + v.key_len + v.old_len)) v.new_len s

unfoldable pub entry_of : List ℕ → EntryView → Entry
entry_of s v =
    record {
      lsn = v.lsn.0;
      txn = v.txn.0;
      kind = v.kind;
      table = v.table;
      key = key_part s v;
      old = old_part s v;
      new = new_part s v;
    }

-- what an entry says, and its place, determine how it stands there
unfoldable pub view_of : ℕ → Entry → EntryView
view_of p e =
    record {
      place = p;
      length = size_of e;
      lsn = record { 0 = e.lsn };
      txn = record { 0 = e.txn };
      kind = e.kind;
      table = e.table;
      key_len = length e.key;
      old_len = length e.old;
      new_len = length e.new;
    }

-- entries one after the other, the first at p
abbrev pub views_of : ℕ → List Entry → List EntryView
views_of p [] = []
views_of p (e ∷ es) = view_of p e ∷ views_of (p + size_of e) es

-- ---- the bytes of an entry: length, LSN, transaction, type, table, key length, key, old length, old value, new length, new value,
-- CRC32c of all before it, length again

unfoldable pub unsealed : Entry → List ℕ
unsealed e =
    bytes_of 4 (size_of e) ++ (bytes_of 8 e.lsn ++ (bytes_of 8 e.txn ++ (bytes_of 1 e.kind ++ (bytes_of 4 e.table
    ++ (bytes_of 2 (length e.key) ++ (e.key ++ (bytes_of 4 (length e.old) ++ (e.old ++ (bytes_of 4 (length e.new) ++ e.new)))))))))

unfoldable pub encoded : Entry → List ℕ
encoded e = unsealed e ++ (bytes_of 4 (crc32c (unsealed e)) ++ bytes_of 4 (size_of e))

-- an entry whose fields fit their bytes, and whose length is within the bounds
pub record Encodable (e : Entry) : Type 0 where
  pub lsn : e.lsn < 2 ^ 64
  pub txn : e.txn < 2 ^ 64
  pub kind : e.kind < 256
  pub table : e.table < 2 ^ 32
  pub short : length e.key < 65536
  pub size : size_of e ≤ 32705
  pub key : Bytes e.key
  pub old : Bytes e.old
  pub new : Bytes e.new

abbrev pub AllEncodable : List Entry → Type 0
AllEncodable [] = Unit
AllEncodable (e ∷ es) = Encodable e × AllEncodable es

-- the bytes of entries one after the other
unfoldable pub encoded_all : List Entry → List ℕ
encoded_all [] = []
encoded_all (e ∷ es) = encoded e ++ encoded_all es

-- ---- the file header: the bytes 57 41 4C 4E, version 1, and 26 bytes that are ignored
abbrev pub mark : List ℕ
mark = 0x57 ∷ 0x41 ∷ 0x4C ∷ 0x4E ∷ []

unfoldable pub header : List ℕ
header = mark ++ (bytes_of 2 1 ++ replicate 26 0)
