use native.Mathlib.Omega.{arith}
use Rattle.summary.specs.Number.{groups}
use Rattle.summary.proofs.RowBytes.{length_three}
use Rattle.summary.proofs.numbers.three_size.Goals as goal

pub returns : goal.returns
returns c = (omega (arith, length_three (groups c.args.a) (groups c.args.b) (groups c.args.c), c.size.ensures.0, c.size-2.ensures.0, c.size-3.ensures.0), omega (arith, c.size.ensures.1, c.size-2.ensures.1, c.size-3.ensures.1))
