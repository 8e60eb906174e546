use Rattle.std.proofs.Common.{arith}
use Rattle.intake.proofs.Counting.{place_at}
use Rattle.intake.proofs.Halves.{mark-is, mark-not}
use Rattle.intake.proofs.Ranking.{firstly-past, firstly-here, firstly-none}
use Rattle.intake.proofs.pairs.first_with.Goals as goal

pub returns-then-a-i : goal.returns-then-a-i
returns-then-a-i c = firstly-past c.requires.places c.requires.sorted c.rank-i.ensures c.if-a-i.true

pub has_mark-requires : goal.has_mark-requires
has_mark-requires c = omega (arith, c.tuple_at.ensures, (place_at c.requires.places c.rank-i.result c.if-a-i.false).room)

pub returns-then-has_mark : goal.returns-then-has_mark
returns-then-has_mark c =
    firstly-here c.requires.places c.requires.sorted c.rank-i.ensures c.if-a-i.false (mark-is c.args.pages.now _ _ c.tuple_at.ensures _ _ c.has_mark.ensures c.if-has_mark.true)

pub returns : goal.returns
returns c =
    firstly-none c.requires.places c.requires.sorted c.rank-i.ensures c.if-a-i.false (mark-not c.args.pages.now _ _ c.tuple_at.ensures _ _ c.has_mark.ensures c.if-has_mark.false)
