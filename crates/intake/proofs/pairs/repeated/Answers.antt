use Rattle.std.proofs.Common.{Some, None, ◌∙◌, arith}
use Rattle.endian.specs.Numbers.{Bytes}
use Rattle.intake.proofs.Pairing.{answer, pair-places}
use Rattle.intake.proofs.pairs.repeated.Goals as goal

pub returns-in_err-p : goal.returns-in_err-p
returns-in_err-p c = c.from_residual.ensures ∙ answer c.args.pages.now c.requires.pages_len_bound.0 c.requires.listable None c.in_err-p.ensures

pub order_of-requires : goal.order_of-requires
order_of-requires c =
    let bytes : Bytes c.args.pages.now = record { at = λ i. omega (arith, c.type_inv.pages i) } in
    (pair-places c.args.pages.now c.requires.pages_len_bound.0 c.requires.listable c.in_ok-p.p c.in_ok-p.ensures bytes).0

pub order_of-requires-2 : goal.order_of-requires-2
order_of-requires-2 c =
    let bytes : Bytes c.args.pages.now = record { at = λ i. omega (arith, c.type_inv.pages i) } in
    (pair-places c.args.pages.now c.requires.pages_len_bound.0 c.requires.listable c.in_ok-p.p c.in_ok-p.ensures bytes).1

pub returns : goal.returns
returns c =
    let is = answer c.args.pages.now c.requires.pages_len_bound.0 c.requires.listable (Some c.in_ok-p.p) c.in_ok-p.ensures in
    rw (c.order_of.ensures, c.order_of-2.ensures) is
