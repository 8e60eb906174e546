-- Reading a row gives what recovery leaves there. Assumes nothing.
use Rattle.std.specs.Prelude.{◌≡◌, ℕ, ◌<◌, List}
use mathlib.Core.Path.{sym}
use borrow.Author.Tests.{eq-eqb}
use Rattle.page.specs.Layout.{data_type, pages_in, page_at, type_of, slot_at}
use Rattle.rules.specs.Mend.{decided}
use Rattle.rules.specs.Recover.{recover_of}
use Rattle.rules.specs.Row.{tuple_of}
use Rattle.rules.specs.declared.Record.{Record}
use Rattle.rules.proofs.Again.{zero-accepted, slot-after}
use Rattle.rules.specs.Lent.{lent}

module _ (magic floor : ℕ) (pages log : List ℕ) (table : List Record) (ok : (recover_of (lent magic floor pages log) table).answer.number ≡ 0) where
  -- where recovery is done, the tuple that is read is the one that it leaves
  pub row-recovered : (i k : ℕ) → i < pages_in pages → type_of (page_at i pages) ≡ data_type → tuple_of pages log i k ≡ slot_at (page_at i (recover_of (lent magic floor pages log) table).pages) k
  unfolding decided tuple_of
  row-recovered i k l d =
      rw (eq-eqb (type_of (page_at i pages)) data_type d)
      (sym (slot-after magic floor pages log table (zero-accepted magic floor pages log table ok) i l k))
