-- Nothing is kept of transaction 0.
use Rattle.std.proofs.Common.{sym, ◌∙◌}
use borrow.Author.Tests.{eqb-true}
use Rattle.clash.proofs.OpenLaws.{opens-zero}
use Rattle.clash.proofs.inner.enter.Goals as goal

pub returns-then-eq : goal.returns-then-eq
returns-then-eq c = let p = c.requires in opens-zero p.met p.stands p.log_len_bound.2 p.opens (eqb-true _ _ (sym c.eq.ensures ∙ c.if-eq.true))
