use Rattle.std.proofs.Common.{arith}
use Rattle.std.proofs.lemmas.Grind.{common_steps}
use Rattle.change.proofs.Shapes.{image-short, image-long, image-is}
use Rattle.change.proofs.shape.image.Goals as goal

pub returns-then-n-le-LONGEST_TUPLE_BYTES : goal.returns-then-n-le-LONGEST_TUPLE_BYTES
returns-then-n-le-LONGEST_TUPLE_BYTES c = grind (arith, common_steps, image-is)

pub returns-else-n-le-LONGEST_TUPLE_BYTES : goal.returns-else-n-le-LONGEST_TUPLE_BYTES
returns-else-n-le-LONGEST_TUPLE_BYTES c = grind (arith, common_steps, image-short, image-long)
