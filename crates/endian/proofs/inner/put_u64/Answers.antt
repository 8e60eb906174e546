use Rattle.std.proofs.Common.{arith, ◌∙◌}
use Rattle.endian.proofs.Places.{stored-run}
use Rattle.endian.proofs.inner.put_u64.Goals as goal

pub returns : goal.returns
returns c = c.put_u32-2.ensures ∙ rw c.put_u32.ensures (stored-run 4 4 c.args.at c.args.n c.args.s.now (omega arith))
