use Rattle.summary.specs.Summary.{head_of}
use Rattle.summary.proofs.writer.head_size.Goals as goal

pub returns : goal.returns
unfolding head_of
returns c = c.three_size.ensures
