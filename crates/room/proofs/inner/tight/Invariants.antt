-- No page passed is without room.
use Rattle.std.proofs.Common.{◌≡◌, ◌-◌}
use Rattle.wal.specs.Walk.{entries}
use Rattle.rules.specs.Recover.{tight_from}
use Rattle.room.proofs.inner.tight.Given as goal

abbrev pub invariant-loop-i : goal.invariant-loop-i
invariant-loop-i l =
    tight_from (entries l.changes.log.now) l.pages l.changes.n 0 ≡ tight_from (entries l.changes.log.now) l.pages (l.changes.n - l.i) l.i
