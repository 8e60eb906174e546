use Rattle.std.proofs.Common.{arith, sym, leb-false, ◌∙◌}
use Rattle.endian.specs.Numbers.{Bytes}
use Rattle.endian.proofs.Bytes.{number-range}
use Rattle.endian.proofs.Places.{number-over}
use Rattle.endian.proofs.u16_at.Goals as goal

pub overflow_cast-result : goal.overflow_cast-result
overflow_cast-result c =
    let s = c.args.s.now in
    let b : Bytes s = record { at = λ k. (c.type_inv.s k).fits } in
    let l = leb-false _ _ (sym c.within.ensures ∙ c.if-within.false) in
    omega (arith, c.short_at.ensures ∙ sym (number-over 2 c.args.at s (omega (arith, l))), number-range 2 c.args.at b)

pub returns : goal.returns
returns c =
    let l = leb-false _ _ (sym c.within.ensures ∙ c.if-within.false) in
    c.short_at.ensures ∙ sym (number-over 2 c.args.at c.args.s.now (omega (arith, l)))
