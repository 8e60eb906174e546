use mathlib.Core.Path.{sym, ap, ◌∙◌}
use native.Mathlib.Omega.{arith}
use Rattle.rules.specs.declared.RowHead.{RowHead}
use Rattle.recovery.specs.Spot.{located_by}
use Rattle.recovery.proofs.RowLaws.{lies-small, located-head}
use borrow.Author.Rules.{rules}
use Rattle.recovery.proofs.row.locate.Statement.{statement}
use Rattle.recovery.proofs.row.locate.Tie as tie

located-requires : tie.Need-located-requires
located-requires c κs =
    let s = c in
    (s.requires.1, lies-small 18446744073709551616 s.requires.0 (omega (arith, s.well_formed.0)) (omega (arith, s.well_formed.1)))

returns : tie.Need-returns
returns c =
    let m = c.args.s.image in
    let h = located-head c.head-h.result m.source m.place m.length c.located.ensures in
    (c.located.ensures ∙ ap (λ (x : RowHead). located_by x m.source m.place m.length) (sym h), h ∙ c.head-h.ensures)

pub locate_spec : {M : Type 1} → statement M
locate_spec = tie.close (tie.spec (λ c κs. search rules) located-requires returns)
