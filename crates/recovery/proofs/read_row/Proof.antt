use mathlib.Core.Path.{◌∙◌}
use Rattle.recovery.proofs.RowLaws.{row-head}
use borrow.Author.Rules.{rules}
use Rattle.recovery.proofs.read_row.Statement.{statement}
use Rattle.recovery.proofs.read_row.Tie as tie

head-requires : tie.Need-head-requires
head-requires c κs = (c.find-s.ensures.lies, c.find-s.ensures.whole)

returns : tie.Need-returns
returns c = c.head.ensures ∙ row-head c.find-s.ensures

pub read_row_spec : {M : Type 1} → statement M
read_row_spec = tie.close (tie.spec (λ c κs. search rules) head-requires returns)
