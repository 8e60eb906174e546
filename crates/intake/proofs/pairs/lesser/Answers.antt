use Rattle.std.proofs.Common.{arith}
use borrow.Author.Tests.{le-leb, lt-leb}
use Rattle.intake.specs.Blocks.{lesser_of}
use Rattle.intake.proofs.pairs.lesser.Goals as goal

pub returns-then-second-first : goal.returns-then-second-first
unfolding lesser_of
returns-then-second-first c = rw (le-leb c.args.second c.args.first (omega arith))

pub returns-then-kept : goal.returns-then-kept
unfolding lesser_of
returns-then-kept c = rw (c.in-Some.is, lt-leb c.args.second c.args.first (omega arith), le-leb c.in-Some.p.first c.args.first (omega arith))

pub returns-else-kept : goal.returns-else-kept
unfolding lesser_of
returns-else-kept c = rw (c.in-Some.is, lt-leb c.args.second c.args.first (omega arith), lt-leb c.in-Some.p.first c.args.first (omega arith))

pub returns-in_default : goal.returns-in_default
unfolding lesser_of
returns-in_default c = rw (c.in_default.is, lt-leb c.args.second c.args.first (omega arith))
