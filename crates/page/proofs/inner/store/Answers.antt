use mathlib.Core.Path.{ap, ◌∙◌}
use Prim.Native.Nat.{◌*◌}
use lib.Seq.{paste}
use Rattle.page.proofs.inner.store.Goals as goal

pub returns : goal.returns
returns c = c.copy_in.ensures ∙ ap (paste c.args.pages.now (c.args.index * 16384) c.args.work.now) c.requires.1
