use borrow.Author.Rules.{rules}
use Rattle.change.proofs.Bits.{bit-stays, bit-room, bit-written}
use Rattle.change.proofs.inner.set_bit.Statement.{statement}
use Rattle.change.proofs.inner.set_bit.Tie as tie

returns : tie.Need-returns-then-bit_at
returns c = bit-stays _ _ c.before.bit_at.ensures c.if-bit_at.true

add-bits : tie.Need-overflow_add-bits
add-bits c = record { fits = bit-room _ _ c.before.number_for-n.ensures c.before.before.before.bit_at.ensures c.before.before.if-bit_at.false (c.slice_known-2-1.given _).fits }

returns-2 : tie.Need-returns
returns-2 c = bit-written _ _ c.before.number_for-n.ensures c.before.before.before.bit_at.ensures c.before.before.if-bit_at.false

pub set_bit_spec : {M : Type 1} → statement M
set_bit_spec =
    tie.close
    (tie.spec
    (λ c κs. search rules)
    (λ c. search rules)
    returns
    (λ c κs. search rules)
    (λ c. search rules)
    (λ c. search rules)
    (λ c. search rules)
    add-bits
    (λ c. search rules)
    (λ c. search rules)
    returns-2)
