-- The pages named by the slots passed are repaired, the others as lent.
use Rattle.std.proofs.Common.{◌≡◌}
use Rattle.page.specs.Layout.{pages_in}
use Rattle.doublewrite.specs.Repair.{repaired_by, restored_by}
use Rattle.doublewrite.proofs.restore.restore.Given as goal

abbrev pub invariant-loop-k : goal.invariant-loop-k
invariant-loop-k l =
    let n = pages_in l.initial.pages in
    let f = l.file.bytes.now in
    record { pages : l.pages ≡ repaired_by l.magic f l.k l.initial.pages n 0; restored : l.restored ≡ restored_by l.magic f l.k l.initial.pages n 0 }
