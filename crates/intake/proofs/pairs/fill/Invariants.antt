use Rattle.intake.proofs.Filling.{Put}
use Rattle.intake.proofs.pairs.fill.Given as goal

-- what was put and what is left are all
abbrev pub invariant-loop-len : goal.invariant-loop-len
invariant-loop-len l = Put l.pages l.fn.index l.fn.slot l.fn.a l.a l.i l.k l.len
