-- When each order was final: every record that an accepted recovery leaves has its LSNs in order (paper 02, W8).
-- Assumes nothing.
use Rattle.std.specs.Prelude.{◌≡◌, ℕ, zero, suc, ◌<◌, List, [], ◌∷◌, length, get_or, drop}
use mathlib.Core.Path.{sym, ap, ◌∙◌, subst}
use native.Mathlib.Omega.{arith}
use lib.ListN.{get_or-append}
use Rattle.wal.specs.Walk.{entries}
use Rattle.rules.specs.Lent.{lent}
use Rattle.rules.specs.Order.{full_at}
use Rattle.rules.specs.Recover.{records_of, table_after, recover_verdict, Recovered, recover_of}
use Rattle.rules.specs.declared.Record.{Record}
use Rattle.rules.proofs.Again.{recover-zero}
use Rattle.table.specs.Times.{Timed, AllTimed}
use Rattle.table.proofs.Times.{timed}
use Rattle.recovery.proofs.Outcome.{sure, by-done}

timed-at : (rs : List Record) → AllTimed rs → (d : Record) (j : ℕ) → j < length rs → Timed (get_or rs j d)
timed-at [] h d j l = absurd (omega arith)
timed-at (r ∷ rs) h d zero l = h.0
timed-at (r ∷ rs) h d (suc j) l = timed-at rs h.1 d j (omega arith)

module _ (magic floor : ℕ) (pages log : List ℕ) (table : List Record) (ok : (recover_of (lent magic floor pages log) table).answer.number ≡ 0) where
  left : (recover_of (lent magic floor pages log) table).table ≡ table_after (entries log) table
  unfolding recover_of
  left = ap (λ (r : Recovered). r.table) (by-done (recover_verdict (full_at (length table)) (lent magic floor pages log)) pages log table (recover-zero magic floor pages log table ok))

  pub accepted-timed : (d : Record) (j : ℕ) → j < length (records_of (entries log) (entries log)) → Timed (get_or (recover_of (lent magic floor pages log) table).table j d)
  unfolding table_after
  accepted-timed d j l =
      let s = sure _ _ _ _ _ (recover-zero magic floor pages log table ok) in
      let e = ap (λ (t : List Record). get_or t j d) left ∙ get_or-append (records_of (entries log) (entries log)) (drop (length (records_of (entries log) (entries log))) table) d j l in
      subst Timed (sym e) (timed-at (records_of (entries log) (entries log)) (timed log s.ordered) d j l)
