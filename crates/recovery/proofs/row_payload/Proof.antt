use mathlib.Core.Path.{◌∙◌}
use Rattle.recovery.proofs.RowLaws.{row-payload}
use borrow.Author.Rules.{rules}
use Rattle.recovery.proofs.row_payload.Statement.{statement}
use Rattle.recovery.proofs.row_payload.Tie as tie

payload-requires : tie.Need-payload-requires
payload-requires c κs = (c.find-s.ensures.lies, c.find-s.ensures.whole)

returns : tie.Need-returns
returns c = c.payload.ensures ∙ row-payload c.find-s.ensures

pub row_payload_spec : {M : Type 1} → statement M
row_payload_spec = tie.close (tie.spec (λ c κs. search rules) payload-requires returns)
