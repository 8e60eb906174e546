use Rattle.doublewrite.proofs.Slots.{copy-part}
use Rattle.doublewrite.proofs.file.File.copy.Goals as goal

pub returns-clause-value : goal.returns-clause-value
returns-clause-value c = copy-part c.args.self.now.bytes.now c.args.k c.slot_place-at.result c.slot_place-at.ensures
