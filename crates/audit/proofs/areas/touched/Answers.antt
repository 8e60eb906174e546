-- A header that differs, or the slots.
use Rattle.std.proofs.Common.{sym, ◌∙◌}
use Rattle.audit.proofs.Telling.{known-head, known-slots, later-sound}
use Rattle.audit.proofs.areas.touched.Goals as goal

pub returns-then-not-head_agrees : goal.returns-then-not-head_agrees
returns-then-not-head_agrees c =
    known-head _ _ _ _ _ c.requires.nonzero.0 (c.is_sound.ensures.page_value c.if-not-is_sound.false) (sym c.head_agrees.ensures ∙ c.if-not-head_agrees.true) c.difference.ensures

pub slots_finding-requires-clause-sound_2 : goal.slots_finding-requires-clause-sound_2
slots_finding-requires-clause-sound_2 c =
    let n = c.requires.nonzero in
    later-sound c.args.magic c.args.slots.now.i _ _ n.1 (c.is_sound.ensures.page_value c.if-not-is_sound.false) (sym c.head_agrees.ensures ∙ c.if-not-head_agrees.false) n.2

pub returns : goal.returns
returns c =
    known-slots _ _ _ _ _ c.requires.nonzero.0 (c.is_sound.ensures.page_value c.if-not-is_sound.false) (sym c.head_agrees.ensures ∙ c.if-not-head_agrees.false) c.slots_finding.ensures
