use Prim.Native.Nat.{◌-◌, ◌≤◌}
use mathlib.Core.Path.{◌≡◌}
use Rattle.endian.specs.Numbers.{Bytes}
use Rattle.cells.proofs.Pages.{top-le}
use Rattle.cells.proofs.Sums.{starts-steps}
use Rattle.clash.specs.First.{FirstIn}
use Rattle.clash.proofs.VerdictLaws.{first-none, first_more, none-beyond, ground}
use borrow.Author.Rules.{rules}
use native.Mathlib.Omega.{arith}
use Rattle.clash.proofs.inner.clash.Statement.{statement}
use Rattle.clash.proofs.inner.clash.Tie as tie

abbrev invariant-loop : tie.invariant-loop-lo
invariant-loop log stop n beyond starts space₀ limit₀ lo₀ space limit lo = (lo ≤ n) × FirstIn 0 lo log stop limit

abbrev decreases-loop : tie.decreases-loop-lo
decreases-loop log stop n beyond starts space₀ limit₀ lo₀ space limit lo = n - lo

bytes : (c : tie.After-shared_slice_known-1 invariant-loop decreases-loop) → Bytes c.before.args.log.now
bytes c = record { at = λ i. omega (arith, c.shared_slice_known-1.given i) }

loop-holds : tie.Need-loop-lo-init invariant-loop decreases-loop
loop-holds c = (omega arith, first-none _ _ c.before.requires.1.0)

group-end-requires : tie.Need-group_end-hi-requires invariant-loop decreases-loop
group-end-requires c κs =
    let p = c.before.before.before.requires in
    ((c.loop-lo-test.true, p.0.0), starts-steps _ _ _ (top-le (bytes c.before.before) p.1.0) p.1.1.1.0)

clash-in-requires : tie.Need-clash_in-limit-requires invariant-loop decreases-loop
clash-in-requires c κs =
    let l = c.before.before.before.before.before.loop-lo in
    let p = c.before.before.before.before.before.before.before.requires in
    let g = c.before.before.before.group_end-hi.ensures in
    let f = l.invariant.1 in (
      (p.0.1, c.clash_in-arg-1.given.0.1),
      (f.met, (ground p.1.0 p.1.1.0 p.1.1.1.0 f.low g.0 g.1 p.0.0 g.2, c.before.clear.ensures)),
    )

loop-less : tie.Need-loop-lo-smaller invariant-loop decreases-loop
loop-less c = let g = c.before.before.before.before.group_end-hi.ensures in omega (arith, g.0, g.1)

loop-again : tie.Need-loop-lo-preserved invariant-loop decreases-loop
loop-again c =
    let l = c.before.before.before.before.before.before.loop-lo in
    let g = c.before.before.before.before.group_end-hi.ensures in
    (g.1, first_more (omega arith) (omega (arith, g.0)) l.invariant.1 c.clash_in-limit.ensures)

clash-beyond-requires : tie.Need-clash_beyond-requires invariant-loop decreases-loop
clash-beyond-requires c κs =
    let p = c.before.before.before.before.requires in
    let f = c.before.before.loop-lo.invariant.1 in
    (p.0.1, (f.met, record { at = λ q m h. p.1.1.0.shaped m (omega (arith, f.low)) }))

returns : tie.Need-returns-then-beyond-limit invariant-loop decreases-loop
returns c =
    let l = c.before.before.before.loop-lo in
    let z : l.lo ≡ c.before.before.before.before.before.args.n = omega (arith, l.invariant.0) in
    first_more (omega arith) (omega (arith, c.before.before.before.before.before.requires.0.0)) (rw z at l.invariant.1) c.clash_beyond.ensures

returns-2 : tie.Need-returns invariant-loop decreases-loop
returns-2 c =
    let l = c.before.before.loop-lo in
    let p = c.before.before.before.before.requires in
    let z : l.lo ≡ c.before.before.before.before.args.n = omega (arith, l.invariant.0) in
    first_more (omega arith) (omega (arith, p.0.0)) (rw z at l.invariant.1) (none-beyond p.1.1.1.1 l.invariant.1.met (omega arith))

pub clash_spec : {M : Type 1} → statement M
clash_spec =
    tie.close
    (tie.spec invariant-loop decreases-loop loop-holds group-end-requires (λ c κs. search rules) clash-in-requires loop-less loop-again clash-beyond-requires returns returns-2)
