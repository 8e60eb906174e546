use mathlib.Core.Path.{sym, ap}
use Prim.Native.Nat.{◌/◌}
use native.Mathlib.Omega.{arith}
use lib.ListN.{length}
use Rattle.summary.proofs.Grouping.{groups-last, groups-more}
use Rattle.summary.proofs.numbers.small_size.Goals as goal

pub returns-then-n-lt128 : goal.returns-then-n-lt128
returns-then-n-lt128 c = sym (ap length (groups-last c.args.n c.if-n-lt128.true))

pub returns-else-n-lt128 : goal.returns-else-n-lt128
returns-else-n-lt128 c = let n = c.args.n in omega (arith, ap length (groups-more n c.if-n-lt128.false), ap length (groups-last (n / 128) (omega arith)))
