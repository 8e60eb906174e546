use Rattle.std.proofs.Common.{arith}
use Rattle.doublewrite.proofs.Marking.{marked-bit}
use Rattle.doublewrite.proofs.marks.PageSet.insert.Goals as goal

pub returns-clause-by_index : goal.returns-clause-by_index
returns-clause-by_index c = λ j. marked-bit c.args.self.now.bits c.args.i j (omega arith)
