-- The page is decided by its list.
use Rattle.std.proofs.Common.{arith}
use Rattle.images.proofs.Deciding.{top-asked, top-found}
use Rattle.recovery.proofs.Spots.{top-few, stood-shifted, placed-shifted}
use Rattle.recovery.proofs.row.winning.Goals as goal

pub top_of-top-requires : goal.top_of-top-requires
top_of-top-requires c = top-asked c.requires.starts c.args.i c.requires.i_lt_n.1 (omega arith)

pub decide-requires : goal.decide-requires
decide-requires c =
    let t = top-found c.requires.starts c.args.i c.requires.i_lt_n.1 c.top_of-top.ensures in
    let l = c.requires.i_lt_n.1 in (l, t, omega (arith, t, top-few c.args.i c.requires.fitting l))

pub invariant_of-slots : goal.invariant_of-slots
invariant_of-slots c =
    let t = top-found c.requires.starts c.args.i c.requires.i_lt_n.1 c.top_of-top.ensures in
    record { ordered = c.args.changes.now.ordered; decided = record { top-is = t; fits = omega (arith, t, top-few c.args.i c.requires.fitting c.requires.i_lt_n.1); is = c.decide.ensures } }

pub returns-clause-stood : goal.returns-clause-stood
returns-clause-stood c =
    let q = c.requires.i_lt_n in
    rw c.shifted.ensures (stood-shifted _ c.requires.sound.size (omega (arith, q.0, q.1)) (rw c.page_at.ensures.bytes at c.image.ensures.stood))

pub returns-clause-result_value : goal.returns-clause-result_value
returns-clause-result_value c = rw c.shifted.ensures (placed-shifted _ _ _ (rw c.page_at.ensures.bytes at c.image.ensures.placed))
