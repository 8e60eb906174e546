use Rattle.std.proofs.Common.{arith, sym, leb-false, ◌∙◌}
use Rattle.endian.proofs.Places.{number-over}
use Rattle.endian.proofs.u64_at.Goals as goal

pub returns : goal.returns
returns c =
    let l = leb-false _ _ (sym c.within.ensures ∙ c.if-within.false) in
    c.short_at.ensures ∙ sym (number-over 8 c.args.at c.args.s.now (omega (arith, l)))
