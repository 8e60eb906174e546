use Rattle.std.proofs.Common.{ap, ◌∙◌}
use Rattle.crc32c.specs.Crc.{shifts}
use Rattle.crc32c.proofs.Slices.{looked-1}
use Rattle.crc32c.proofs.inner.one.Goals as goal

pub returns : goal.returns
returns c = looked-1 c.args.x _ (c.look.ensures ∙ ap (shifts 8) c.low.ensures)
