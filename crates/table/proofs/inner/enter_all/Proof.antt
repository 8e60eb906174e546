-- The invariant: the rows are those of the start, told by the entries before the present place.
-- Assumes nothing.
use mathlib.Core.Path.{◌≡◌, refl, sym, ◌∙◌}
use mathlib.Core.List.{map}
use Prim.Native.Nat.{◌≤◌, ◌-◌}
use lib.ListN.{length}
use native.Mathlib.Omega.{arith}
use borrow.Author.Rules.{rules}
use Rattle.wal.specs.Prefix.{Met, before}
use Rattle.wal.proofs.Prefix.{met-small}
use Rattle.wal.proofs.Known.{Ahead, met-to, still, ahead-found, known-stops}
use Rattle.table.specs.Rows.{rows}
use Rattle.table.specs.Telling.{tell}
use Rattle.table.proofs.Walking.{walk-rising, walk-small, walk-next, walk_end}
use Rattle.table.proofs.inner.enter_all.Statement.{statement}
use Rattle.table.proofs.inner.enter_all.Tie as tie

abbrev invariant-loop : tie.invariant-loop-e
invariant-loop log from end a₀ guesses₀ seen₀ at₀ a guesses seen at = Met log at × (seen ≤ at) × (length a ≡ length a₀) × (length guesses ≡ length guesses₀) × (rows a ≡ map (tell (before log at)) (rows a₀))

abbrev decreases-loop : tie.decreases-loop-e
decreases-loop log from end a₀ guesses₀ seen₀ at₀ a guesses seen at = end - at

-- the entry that was read, and the place behind it
here : (c : tie.After-t-1 invariant-loop decreases-loop) → Ahead c.before.before.before.before.before.before.before.args.log.now c.before.before.before.loop-e.at c.before.before.before.before.before.before.before.args.end c.before.in-Whole.e
here c =
    let read = c.before.before in
    let start = read.before.before.before.before.before in
    ahead-found read.before.loop-e.invariant.0 (met-to start.requires.1.1.0.0) read.known_at.ensures c.before.in-Whole.is

loop-holds : tie.Need-loop-e-init invariant-loop decreases-loop
loop-holds c = let pre = c.before.before.before.requires in (pre.1.0, omega arith, refl, refl, sym pre.1.1.1.0.same)

known-at-requires : tie.Need-known_at-requires invariant-loop decreases-loop
known-at-requires c κs = still c.loop-e.invariant.0 (met-to c.before.before.before.before.requires.1.1.0.0)

returns : tie.Need-returns-in_default invariant-loop decreases-loop
returns c =
    let inv = c.before.before.loop-e.invariant in
    let start = c.before.before.before.before.before.before in
    walk_end start.requires.1.1.1.0 inv.0 _ inv.4 start.requires.1.1.0.0 (known-stops _ _ _ _ c.before.known_at.ensures c.in_default.in_default-own.keys2)

enter-requires : tie.Need-enter-seen-requires invariant-loop decreases-loop
enter-requires c κs =
    let turn = c.before.before.before in
    let at-loop = turn.before.before.before in
    let start = at-loop.before.before.before.before in
    let inv = at-loop.loop-e.invariant in
    (walk-rising start.requires.1.1.1.0 inv.0 _ inv.4, (λ i h. omega (arith, walk-small start.requires.1.1.1.0 inv.0 _ inv.4 4294967296 (omega (arith, met-small _ inv.0)) i h), (omega arith, omega arith, omega arith, omega (arith, met-small _ inv.0))))

add_at : tie.Need-overflow_add-at invariant-loop decreases-loop
add_at c = let k = here c.before.before.before.before.before.before.before.before.before in omega (arith, k.next)

loop-less : tie.Need-loop-e-smaller invariant-loop decreases-loop
loop-less c = let k = here c.before.before.before.before.before.before.before.before.before in omega (arith, k.next, k.low)

loop-again : tie.Need-loop-e-preserved invariant-loop decreases-loop
loop-again c =
    let enter = c.before.before.before.before.before in
    let turn = enter.before.before.before.before in
    let k = here turn in
    let at-loop = turn.before.before.before in
    let start = at-loop.before.before.before.before in
    let inv = at-loop.loop-e.invariant in (
      k.met,
      omega (arith, enter.enter-seen.ensures.1, k.low),
      enter.enter-seen.auto.a ∙ inv.2,
      enter.enter-seen.auto.guesses ∙ inv.3,
      walk-next start.requires.1.1.1.0 inv.0 _ inv.4 start.requires.0 k enter.enter-seen.ensures.0,
    )

pub enter_all_spec : {M : Type 1} → statement M
enter_all_spec =
    tie.close
    (tie.spec invariant-loop decreases-loop loop-holds known-at-requires (λ c. search rules) (λ c. c.before.before.loop-e.invariant.2) (λ c. c.before.before.loop-e.invariant.3) returns enter-requires add_at loop-less loop-again)
