use Rattle.recovery.proofs.RowLaws.{row-located}
use borrow.Author.Rules.{rules}
use Rattle.recovery.proofs.locate_row.Statement.{statement}
use Rattle.recovery.proofs.locate_row.Tie as tie

locate-requires : tie.Need-locate-requires
locate-requires c κs = (c.find-s.ensures.lies, c.find-s.ensures.whole)

returns : tie.Need-returns
returns c = row-located c.find-s.ensures c.locate.ensures.0 c.locate.ensures.1

pub locate_row_spec : {M : Type 1} → statement M
locate_row_spec = tie.close (tie.spec (λ c κs. search rules) locate-requires returns)
