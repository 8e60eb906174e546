use Rattle.std.proofs.Common.{arith, ◌∙◌}
use Rattle.endian.proofs.Places.{stored-run}
use Rattle.endian.proofs.inner.put_u32.Goals as goal

pub returns : goal.returns
returns c = c.put_u16-2.ensures ∙ rw c.put_u16.ensures (stored-run 2 2 c.args.at c.args.n c.args.s.now (omega arith))
