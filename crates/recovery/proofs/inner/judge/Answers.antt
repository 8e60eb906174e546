-- Where nothing is refused, all is known that deciding a page asks.
use Rattle.recovery.proofs.Readiness.{ready}
use Rattle.recovery.proofs.inner.judge.Goals as goal

pub returns-clause-ready : goal.returns-clause-ready
returns-clause-ready c = ready c.in_ok-judge.ensures
