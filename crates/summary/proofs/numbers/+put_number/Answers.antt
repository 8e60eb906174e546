use mathlib.Core.Path.{◌≡◌, ap, ◌∙◌}
use Prim.Native.Nat.{◌+◌, ◌/◌}
use native.Mathlib.Omega.{arith}
use lib.ListN.{length, length-set}
use Rattle.summary.specs.Number.{groups}
use Rattle.summary.proofs.Grouping.{groups-more, put_in, put_last, put-more}
use Rattle.summary.proofs.numbers.+put_number.Goals as goal

pub bounds-area-at : goal.bounds-area-at
bounds-area-at t c = put_in c.args.area.now c.args.at c.args.n c.requires

pub returns-then-n-lt128 : goal.returns-then-n-lt128
returns-then-n-lt128 t c = let p = put_last c.args.area.now c.args.at c.args.n c.requires c.if-n-lt128.true in record { value = p.0; area_after = p.1 }

pub bounds-area-at-2 : goal.bounds-area-at-2
bounds-area-at-2 t c = put_in c.args.area.now c.args.at c.args.n c.requires

pub put_number-requires : goal.put_number-requires
put_number-requires t c =
    let longer : length (groups c.args.n) ≡ 1 + length (groups (c.args.n / 128)) = omega (arith, ap length (groups-more c.args.n c.if-n-lt128.false)) in
    (omega arith, simp length-set (omega (arith, longer, c.requires)))

pub returns : goal.returns
returns t c =
    let p = c.put_number.ensures in
    record {
      value = omega (arith, p.value, ap length (groups-more c.args.n c.if-n-lt128.false));
      area_after = p.area_after ∙ put-more c.args.area.now c.args.at c.args.n c.requires c.if-n-lt128.false;
    }
