use mathlib.Core.Path.{sym, ◌∙◌}
use Rattle.intake.proofs.Searching.{page-other, page-data}
use Rattle.intake.proofs.search.met_page.Statement.{statement}
use Rattle.intake.proofs.search.met_page.Tie as tie

returns : tie.Need-returns-then-kind-ne-DATA_TYPE
returns c = let s = c.before.before.before in page-other _ _ _ s.args.known (λ e. c.if-kind-ne-DATA_TYPE.true (c.before.kind.ensures ∙ e))

met-slots-requires : tie.Need-met_slots-requires
met-slots-requires c κs = let s = c.before.before.before in (s.requires.0, (s.requires.1.0 (sym c.before.kind.ensures ∙ c.if-kind-ne-DATA_TYPE.false), s.requires.1.1))

returns-2 : tie.Need-returns
returns-2 c = let s = c.before.before.before.before in c.met_slots.ensures ∙ page-data _ _ _ s.args.known (sym c.before.before.kind.ensures ∙ c.before.if-kind-ne-DATA_TYPE.false)

pub met_page_spec : {M : Type 1} → statement M
met_page_spec = tie.close (tie.spec (λ c κs. c.before.requires.0) returns met-slots-requires returns-2)
