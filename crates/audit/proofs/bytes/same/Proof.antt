-- `same` meets its contract: what was passed is the same.
-- Assumes nothing.
use Prim.Native.Nat.{◌-◌, ◌≤◌}
use mathlib.Core.Path.{◌≡◌, refl, sym, ap₂, ◌∙◌}
use native.Mathlib.Omega.{arith}
use lib.ListN.{length, drop}
use lib.Dec.{eqb}
use Rattle.endian.specs.Numbers.{Bytes}
use Rattle.rules.specs.Shape.{same}
use Rattle.audit.proofs.Sameness.{same-lengths, same-past, same_not, same_rest}
use Rattle.audit.proofs.bytes.same.Statement.{statement}
use Rattle.audit.proofs.bytes.same.Tie as tie

abbrev invariant-loop : tie.invariant-loop-i
invariant-loop a b i₀ i = Bytes a × Bytes b × (length a ≡ length b) × (i ≤ length a) × (same a b ≡ same (drop i a) (drop i b))

abbrev decreases-loop : tie.decreases-loop-i
decreases-loop a b i₀ i = length a - i

returns : tie.Need-returns-then-a-b invariant-loop decreases-loop
returns c = same-lengths _ _ c.if-a-b.true

loop-holds : tie.Need-loop-i-init invariant-loop decreases-loop
loop-holds c = (record { at = λ k. omega (arith, c.shared_slice_known-1.given k) }, record { at = λ k. omega (arith, c.shared_slice_known-2-1.given k) }, c.if-a-b.false, omega arith, refl)

returns-2 : tie.Need-returns-then-u64_at invariant-loop decreases-loop
returns-2 c =
    let l = c.loop-i in
    sym (l.invariant.4 ∙ same_not l.invariant.0 l.invariant.1 l.invariant.2 l.i (λ e. c.if-u64_at.true (c.u64_at.ensures ∙ e ∙ sym c.u64_at-in-loop-i.ensures)))

loop-again : tie.Need-loop-i-preserved invariant-loop decreases-loop
loop-again c =
    let l = c.loop-i in
    let e = sym c.u64_at.ensures ∙ c.if-u64_at.false ∙ c.u64_at-in-loop-i.ensures in
    (l.invariant.0, l.invariant.1, l.invariant.2, omega arith, l.invariant.4 ∙ same-past l.invariant.0 l.invariant.1 l.invariant.2 l.i (omega arith) e)

returns-3 : tie.Need-returns invariant-loop decreases-loop
returns-3 c =
    let l = c.loop-i in
    ap₂ eqb c.short_at.ensures c.short_at-2.ensures ∙ same_rest l.invariant.0 l.invariant.1 l.invariant.2 l.i ∙ sym l.invariant.4

pub same_spec : {M : Type 1} → statement M
same_spec =
    tie.close
    (tie.spec
    invariant-loop
    decreases-loop
    returns
    loop-holds
    (λ c. omega arith)
    (λ c κs. omega arith)
    (λ c κs. omega arith)
    returns-2
    (λ c. omega arith)
    (λ c. omega arith)
    loop-again
    (λ c κs. omega arith)
    (λ c κs. omega arith)
    returns-3)
