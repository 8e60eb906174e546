use Rattle.std.proofs.Common.{◌≤◌}
use Rattle.page.specs.Layout.{body_of}
use Rattle.page.proofs.GranuleLaws.{Line}
use Rattle.page.proofs.granules.lined.Given as goal

abbrev pub invariant-loop-g : goal.invariant-loop-g
invariant-loop-g l = (l.last ≤ 131072) × Line (body_of l.page) l.count l.g l.last
