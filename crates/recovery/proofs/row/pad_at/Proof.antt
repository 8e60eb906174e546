use Rattle.recovery.proofs.Heads.{pad-parts}
use borrow.Author.Rules.{rules}
use Rattle.recovery.proofs.row.pad_at.Statement.{statement}
use Rattle.recovery.proofs.row.pad_at.Tie as tie

returns : tie.Need-returns
returns c =
    let a = c.args in
    rw (c.u24_at-low.ensures, c.u32_at-high.ensures) (pad-parts a.place a.source.now)

pub pad_at_spec : {M : Type 1} → statement M
pad_at_spec =
    tie.close
    (tie.spec
    (λ c. search rules)
    (λ c κs. search rules)
    (λ c. search rules)
    (λ c κs. search rules)
    (λ c. search rules)
    (λ c. search rules)
    (λ c. search rules)
    (λ c. search rules)
    returns)
