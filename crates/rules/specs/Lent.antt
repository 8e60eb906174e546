-- What is lent to recovery and to reading a row, but for the transaction table (paper 01, Numbers given back): the magic, a floor LSN, the pages and the log.
use Rattle.std.specs.Prelude.{ℕ, List}

pub record Lent : Type 0 where
  pub magic : ℕ
  pub floor : ℕ
  pub pages : List ℕ
  pub log : List ℕ

abbrev pub lent : ℕ → ℕ → List ℕ → List ℕ → Lent
lent magic floor pages log = record { magic = magic; floor = floor; pages = pages; log = log }
