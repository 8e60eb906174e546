use Rattle.page.proofs.GranuleLaws.{granules-sound}
use Rattle.page.proofs.granules.by_granules.Goals as goal

pub returns : goal.returns
returns c = λ e. let f = c.placed.ensures c.if-not-placed.false in granules-sound _ _ _ f.0 f.1 (c.lined.ensures e)
