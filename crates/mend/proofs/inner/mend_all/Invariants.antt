-- The pages passed are mended, the others as they were.
use Rattle.std.proofs.Common.{◌≡◌, length}
use Rattle.mend.proofs.Areas.{Mended}
use Rattle.mend.proofs.inner.mend_all.Given as goal

abbrev pub invariant-loop-i : goal.invariant-loop-i
invariant-loop-i l = (length l.pages ≡ length l.fn.pages) × Mended l.changes.log.now l.fn.pages l.i l.pages l.rewritten
