use Rattle.std.proofs.Common.{◌∙◌, ap}
use Rattle.crc32c.specs.Crc.{crc32c}
use Rattle.page.proofs.FaultCases.{body-part}
use Rattle.page.proofs.inner.checksum.Goals as goal

pub returns : goal.returns
returns c = c.crc32c.ensures ∙ ap crc32c (body-part c.args.page.now)
