-- A page whose top is 0 is untouched, and one with more than 4,080 slots has no room.
use Rattle.std.proofs.Common.{arith}
use Rattle.images.proofs.Deciding.{top-asked, top-found, slots-found}
use Rattle.room.proofs.Tightness.{untouched, crowded, measured, sound-lent}
use Rattle.room.proofs.inner.is_tight.Goals as goal

pub top_of-top-requires : goal.top_of-top-requires
top_of-top-requires c = top-asked c.requires.starts c.args.i (omega arith) (omega arith)

pub returns-then-top-eq0 : goal.returns-then-top-eq0
returns-then-top-eq0 c = untouched _ _ _ (omega (arith, top-found c.requires.starts c.args.i (omega arith) c.top_of-top.ensures))

pub returns-then-top-gt4080 : goal.returns-then-top-gt4080
returns-then-top-gt4080 c = crowded _ _ _ (omega (arith, top-found c.requires.starts c.args.i (omega arith) c.top_of-top.ensures))

pub decide-requires : goal.decide-requires
decide-requires c = (omega arith, top-found c.requires.starts c.args.i (omega arith) c.top_of-top.ensures, omega arith)

pub invariant_of-slots : goal.invariant_of-slots
invariant_of-slots c =
    let t = top-found c.requires.starts c.args.i (omega arith) c.top_of-top.ensures in
    record { ordered = c.args.changes.now.ordered; decided = record { top-is = t; fits = omega arith; is = c.decide.ensures } }

pub slots_for-requires : goal.slots_for-requires
slots_for-requires c =
    let t = top-found c.requires.starts c.args.i (omega arith) c.top_of-top.ensures in
    let a = top-asked c.requires.starts c.args.i (omega arith) (omega arith) in
    ((sound-lent c.args.i c.args.pages.now (c.requires.touched.at _ (omega arith) (omega arith) (omega (arith, t, c.if-top-eq0.false)))).size, a.0, a.1)

pub room-requires-clause-sound : goal.room-requires-clause-sound
room-requires-clause-sound c =
    let t = top-found c.requires.starts c.args.i (omega arith) c.top_of-top.ensures in
    sound-lent c.args.i c.args.pages.now (c.requires.touched.at _ (omega arith) (omega arith) (omega (arith, t, c.if-top-eq0.false)))

pub room-requires-clause-n_value : goal.room-requires-clause-n_value
room-requires-clause-n_value c = slots-found c.requires.starts c.args.i (omega arith) _ c.slots_for.ensures

pub returns : goal.returns
returns c =
    let t = top-found c.requires.starts c.args.i (omega arith) c.top_of-top.ensures in
    measured _ _ _ (omega (arith, t, c.if-top-eq0.false)) c.room.ensures
