use mathlib.Core.Path.{sym}
use Rattle.endian.proofs.Places.{number-byte}
use Rattle.page.proofs.inner.kind.Goals as goal

pub returns : goal.returns
returns c = sym (number-byte 8 _)
