-- A fault by rule 8 that comes first, or what the first walk found.
use Rattle.std.proofs.Common.{arith, sym, refl, ◌∙◌, ◌≡◌, true, Option, None, Some}
use Rattle.std.specs.Option.{is_some}
use Rattle.endian.specs.declared.TxnNumber.{TxnNumber}
use Rattle.rules.proofs.Tests.{false-true}
use Rattle.order.proofs.Joining.{walked-wrong, walked-others}
use Rattle.order.proofs.inner.walk.Goals as goal

some-of : {P : Type 0} (t : Option TxnNumber) → is_some t ≡ true → ((h : TxnNumber) → t ≡ Some h → P) → P
some-of (Some h) e f = f h refl
some-of None e f = false-true e

pub returns-then-is_some : goal.returns-then-is_some
returns-then-is_some c =
    let s = c.scan-s in
    some-of s.result.turns (sym c.is_some.ensures ∙ c.if-is_some.true) (λ h e. walked-others _ c.args.log.now s.ensures.scanned (s.ensures.first_wrong h e) (omega arith))

pub returns-then-earlier : goal.returns-then-earlier
returns-then-earlier c = walked-wrong _ c.args.log.now c.scan-s.ensures.scanned c.by_blocks-place.ensures c.at.result c.at.ensures.why c.at.ensures.place (omega arith)

pub returns : goal.returns
returns c = walked-others _ c.args.log.now c.scan-s.ensures.scanned c.by_blocks-place.ensures (omega arith)
