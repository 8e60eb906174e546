-- The slots passed fit, and the set holds the pages that they name.
use Rattle.std.proofs.Common.{◌≡◌, true}
use Rattle.doublewrite.specs.File.{ids_fit}
use Rattle.doublewrite.specs.Marks.{Marks}
use Rattle.doublewrite.proofs.file.File.ids_fit.Given as goal

abbrev pub invariant-loop-k : goal.invariant-loop-k
invariant-loop-k l = record { fit : ids_fit l.self.bytes.now l.pages l.k ≡ true; marks : Marks l.self.bytes.now l.k l.named.bits }
