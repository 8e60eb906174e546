use Rattle.crc32c.proofs.Runs.{step-16}
use Rattle.crc32c.proofs.inner.sixteen.Goals as goal

pub returns : goal.returns
returns c = step-16 c.args.s.now c.args.c _ _ _ _ c.told-s c.follow.ensures c.follow-2.ensures c.follow-3.ensures c.lead.ensures
