-- Small logs and pages, built with their checksums in place.
use Rattle.std.specs.Prelude.{ℕ, suc, List, [], ◌∷◌, ◌++◌, replicate}
use Rattle.endian.specs.Numbers.{bytes_of}
use Rattle.wal.specs.Entry.{Entry, encoded_all, header, begin, commit, rollback, insert, delete, update}
use Rattle.page.specs.Packed.{Head, packed}

-- ---- entries, of table 14

abbrev pub entry : ℕ → ℕ → ℕ → List ℕ → List ℕ → List ℕ → Entry
entry kind lsn txn key old new = record { lsn = lsn; txn = txn; kind = kind; table = 14; key = key; old = old; new = new }

abbrev pub begins : ℕ → ℕ → Entry
begins lsn t = entry begin lsn t [] [] []

abbrev pub commits : ℕ → ℕ → Entry
commits lsn t = entry commit lsn t [] [] []

abbrev pub rolls_back : ℕ → ℕ → Entry
rolls_back lsn t = entry rollback lsn t [] [] []

-- the key of slot k of page i
abbrev pub key : ℕ → ℕ → List ℕ
key i k = bytes_of 8 i ++ bytes_of 2 k

abbrev pub inserts : ℕ → ℕ → ℕ → ℕ → List ℕ → Entry
inserts lsn t i k new = entry insert lsn t (key i k) [] new

abbrev pub deletes : ℕ → ℕ → ℕ → ℕ → List ℕ → Entry
deletes lsn t i k old = entry delete lsn t (key i k) old []

abbrev pub updates : ℕ → ℕ → ℕ → ℕ → List ℕ → List ℕ → Entry
updates lsn t i k old new = entry update lsn t (key i k) (key i k ++ old) (key i k ++ new)

-- a log of entries
abbrev pub log_of : List Entry → List ℕ
log_of es = header ++ encoded_all es

-- ---- Data pages, each with an LSN and slots

abbrev pub magic : ℕ
magic = 0x4C51_5041_4745_3031

pub record Page : Type 0 where
  pub lsn : ℕ
  pub slots : List (List ℕ)

abbrev pub page : ℕ → List (List ℕ) → Page
page lsn slots = record { lsn = lsn; slots = slots }

abbrev pub head_of : ℕ → ℕ → Head
head_of i lsn = record { magic = magic; type = 1; id = i; lsn = lsn; reserved = replicate 28 0 }

abbrev pub page_of : ℕ → Page → List ℕ
page_of i p = packed (head_of i p.lsn) p.slots

-- the pages one after the other, the first with index i
abbrev pub area_from : ℕ → List Page → List ℕ
area_from i [] = []
area_from i (p ∷ ps) = page_of i p ++ area_from (suc i) ps

abbrev pub area : List Page → List ℕ
area ps = area_from 0 ps

-- a tuple of n zero bytes and a last byte: xmin 0, xmax 0, not deleted
abbrev pub tuple : ℕ → ℕ → List ℕ
tuple n last = replicate n 0 ++ (last ∷ [])
