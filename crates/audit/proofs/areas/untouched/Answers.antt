-- The same bytes, or a difference.
use Rattle.std.proofs.Common.{sym, ◌∙◌}
use Rattle.audit.proofs.Telling.{known_same, known-other}
use Rattle.audit.proofs.areas.untouched.Goals as goal

pub returns-then-same : goal.returns-then-same
returns-then-same c = let n = c.requires.log_value in known_same _ _ _ _ _ n.0 n.2 (sym c.same.ensures ∙ c.if-same.true) c.nothing.ensures

pub returns : goal.returns
returns c = let n = c.requires.log_value in known-other _ _ _ _ _ n.0 (sym c.same.ensures ∙ c.if-same.false) (c.is_sound.ensures.page_value, c.is_sound.ensures.fact) c.difference.ensures
