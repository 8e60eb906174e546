-- What is still to come, from the least on, is the whole.
use Rattle.std.proofs.Common.{◌≡◌, drop}
use Rattle.doublewrite.specs.Write.{rises}
use Rattle.doublewrite.proofs.writer.rising.Given as goal

abbrev pub invariant-loop-i : goal.invariant-loop-i
invariant-loop-i l = rises l.least l.pages (drop l.i-index l.list) ≡ rises 0 l.pages l.list
