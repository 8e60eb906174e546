use Rattle.capi.proofs.Given.{as_given}
use Rattle.capi.proofs.give.Goals as goal

pub returns : goal.returns
returns c = rw c.copy_from_slice.ensures.after (as_given c.args.numbers.now c.args.out.now c.min-count.result c.min-count.ensures)
