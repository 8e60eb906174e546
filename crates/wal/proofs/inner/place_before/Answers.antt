use Rattle.std.proofs.Common.{arith}
use Rattle.wal.proofs.Prefix.{met-back}
use Rattle.wal.proofs.inner.place_before.Goals as goal

pub u32_at-requires : goal.u32_at-requires
u32_at-requires c = let b = met-back _ c.requires.met c.requires.lt_place in omega (arith, b.room)

pub overflow_sub-result : goal.overflow_sub-result
overflow_sub-result c = let b = met-back _ c.requires.met c.requires.lt_place in omega (arith, b.is)
