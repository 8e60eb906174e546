use Rattle.index.proofs.Counting.{has-at}
use Rattle.index.proofs.inner.near.searched.Goals as goal

pub returns-in_err-i-clause-found : goal.returns-in_err-i-clause-found
returns-in_err-i-clause-found c = rw c.from_residual.ensures c.in_err-i.ensures.found

pub returns-clause-found : goal.returns-clause-found
returns-clause-found c = c.in_ok-i.ensures.found

pub returns-clause-real : goal.returns-clause-real
returns-clause-real c = c.requires.places.real _ (has-at c.args.a.now c.in_ok-i.i c.in_ok-i.ensures.within)
