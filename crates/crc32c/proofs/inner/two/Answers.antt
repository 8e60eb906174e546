use Rattle.std.proofs.Common.{ap, ◌∙◌}
use Rattle.crc32c.specs.Crc.{shifts}
use Rattle.crc32c.proofs.Slices.{looked-2}
use Rattle.crc32c.proofs.inner.two.Goals as goal

pub returns : goal.returns
returns c = looked-2 c.args.x _ _ (c.look.ensures ∙ ap (shifts 8) c.low.ensures) (c.look-2.ensures ∙ ap (shifts 16) c.low-2.ensures)
