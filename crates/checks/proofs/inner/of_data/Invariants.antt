-- The touched pages before the present one are of type 1.
use Rattle.checks.specs.Judged.{OfData}
use Rattle.checks.proofs.inner.of_data.Given as goal

abbrev pub invariant-loop-i : goal.invariant-loop-i
invariant-loop-i l = OfData l.pages l.i l.starts
