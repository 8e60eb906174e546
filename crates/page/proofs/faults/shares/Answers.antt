use Rattle.page.specs.Fault.{share}
use Rattle.page.proofs.faults.shares.Goals as goal

pub returns : goal.returns
unfolding share
returns c = cc
