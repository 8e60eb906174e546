use Rattle.recovery.proofs.RowLaws.{part_same}
use borrow.Author.Rules.{rules}
use Rattle.recovery.proofs.row.cut.Statement.{statement}
use Rattle.recovery.proofs.row.cut.Tie as tie

returns : tie.Need-returns
returns c = let a = c.args in part_same a.place a.n a.source.now

pub cut_spec : {M : Type 1} → statement M
cut_spec = tie.close (tie.spec (λ c. search rules) (λ c. search rules) (λ c. search rules) (λ c. search rules) (λ c. search rules) returns)
