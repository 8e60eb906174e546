use Rattle.std.proofs.Common.{sym, ◌∙◌}
use Rattle.index.proofs.Counting.{room_at, has-at}
use Rattle.index.proofs.Finding.{lookup-at}
use Rattle.index.proofs.inner.near.guessed.Goals as goal

pub number_of-requires : goal.number_of-requires
number_of-requires c =
    let at = c.in_ok-p.ensures.lookup.3 in
    let e = at.1 0 in
    rw e (room_at c.requires.places c.args.guess at.0)

pub returns-then-number_of-t : goal.returns-then-number_of-t
returns-then-number_of-t c =
    let at = c.in_ok-p.ensures.lookup.3 in
    let e = at.1 0 in
    let same = sym (rw e at c.number_of.ensures) ∙ c.if-number_of-t.true in
    rw e (c.requires.places.real _ (has-at c.args.a.now c.args.guess at.0), lookup-at c.args.t.0 c.args.guess c.requires.rising at.0 same)
