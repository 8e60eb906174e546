-- A number above the highest is new, and its place is kept.
use Rattle.std.proofs.Common.{arith, sym, ◌∙◌, ◌<◌}
use Rattle.std.proofs.lemmas.Grind.{common_steps}
use Rattle.wal.proofs.Prefix.{stands_at}
use Rattle.order.proofs.Turnings.{turning-begin}
use Rattle.order.proofs.inner.turn.begin_turn.Goals as goal

pub overflow_cast-opens : goal.overflow_cast-opens
overflow_cast-opens c = let k = stands_at c.requires.stands in omega arith

pub returns : goal.returns
returns c =
    let above : c.args.highest.0 < c.args.v.txn.0 = grind (arith, common_steps) in
    let r = c.requires in
    turning-begin r.turning r.stands _ _ (sym r.v_value.0 ∙ r.v_value.2) r.v_value.1 above c.free_cell-r.ensures
