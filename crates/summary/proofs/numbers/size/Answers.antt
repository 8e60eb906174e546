use native.Mathlib.Omega.{arith}
use Rattle.summary.proofs.Grouping.{groups-ten, groups-bits}
use Rattle.summary.proofs.numbers.size.Goals as goal

pub returns-then-n-lt16384 : goal.returns-then-n-lt16384
returns-then-n-lt16384 c = (c.small_size.ensures, omega (arith, c.small_size.ensures, groups-ten c.args.n c.ranges.n.fits))

pub returns : goal.returns
returns c =
    let b = groups-bits c.args.n c.ilog2.result c.ilog2.ensures.power_le c.ilog2.ensures.next_power_gt in
    (b, omega (arith, b, groups-ten c.args.n c.ranges.n.fits))
