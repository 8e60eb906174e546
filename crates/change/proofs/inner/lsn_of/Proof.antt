use native.Mathlib.Omega.{arith}
use Rattle.wal.specs.Entry.{entry_of}
use Rattle.wal.specs.Read.{view}
use Rattle.wal.proofs.Prefix.{stands_at}
use Rattle.change.proofs.inner.lsn_of.Statement.{statement}
use Rattle.change.proofs.inner.lsn_of.Tie as tie

add-u64-at : tie.Need-overflow_add-place
add-u64-at c = let k = stands_at c.before.requires in omega (arith, k.room, k.low, c.before.well_formed.0)

u64-at-requires : tie.Need-u64_at-requires
u64-at-requires c κs = let k = stands_at c.before.requires in omega (arith, k.room, k.low)

returns : tie.Need-returns
unfolding entry_of view
returns c = c.u64_at.ensures

pub lsn_of_spec : {M : Type 1} → statement M
lsn_of_spec = tie.close (tie.spec add-u64-at u64-at-requires returns)
