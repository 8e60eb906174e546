-- The invariant: the Begins before the present place have their rows, told by the entries before it, and their numbers rise.
-- Assumes nothing.
use mathlib.Core.Path.{◌≡◌, refl, ◌∙◌}
use Prim.Native.Nat.{◌-◌, ◌<◌}
use lib.ListN.{length}
use native.Mathlib.Omega.{arith}
use borrow.Author.Rules.{rules}
use Rattle.wal.proofs.Prefix.{met-small}
use Rattle.wal.proofs.Known.{Ahead, met-to, still, ahead-found, known-stops}
use Rattle.rules.proofs.Tests.{false-true}
use Rattle.table.specs.Rows.{rows}
use Rattle.table.proofs.Rising.{Risen, risen-none, risen-rest, risen-all, risen-rising, risen-small, risen-few, risen-fits, risen-other, risen-room, risen-begin}
use Rattle.table.proofs.inner.rising.Statement.{statement}
use Rattle.table.proofs.inner.rising.Tie as tie

abbrev invariant-loop : tie.invariant-loop-e
invariant-loop log end a₀ guesses₀ n₀ last₀ at₀ a guesses n last at = (length a ≡ length a₀) × (length guesses ≡ length guesses₀) × Risen log a₀ (rows a) n last at

abbrev decreases-loop : tie.decreases-loop-e
decreases-loop log end a₀ guesses₀ n₀ last₀ at₀ a guesses n last at = end - at

-- the entry that was read, and the place behind it
here : (c : tie.After-t-1 invariant-loop decreases-loop) → Ahead c.before.before.before.before.before.before.before.args.log.now c.before.before.before.loop-e.at c.before.before.before.before.before.before.before.args.end c.before.in-Whole.e
here c =
    let read = c.before.before in
    let start = read.before.before.before.before.before in
    ahead-found read.before.loop-e.invariant.2.met (met-to start.requires.1.0.0) read.known_at.ensures c.before.in-Whole.is

end-small : (c : tie.After-t-1 invariant-loop decreases-loop) → c.before.before.before.before.before.before.before.args.end < 4294967296
end-small c =
    let start = c.before.before.before.before.before.before.before in
    omega (arith, start.requires.1.0.1, met-small _ (met-to start.requires.1.0.0))

loop-holds : tie.Need-loop-e-init invariant-loop decreases-loop
loop-holds c = (refl, refl, risen-none _ _)

known-at-requires : tie.Need-known_at-requires invariant-loop decreases-loop
known-at-requires c κs = still c.loop-e.invariant.2.met (met-to c.before.before.before.before.requires.1.0.0)

returns : tie.Need-returns-in_default invariant-loop decreases-loop
returns c =
    let inv = c.before.before.loop-e.invariant in
    let start = c.before.before.before.before.before.before in
    ((λ _. risen-all inv.2 start.requires.1.0.0 (known-stops _ _ _ _ c.before.known_at.ensures c.in_default.in_default-own.keys2)), risen-rest inv.2)

enter-front-requires : tie.Need-enter_front-requires invariant-loop decreases-loop
enter-front-requires c κs =
    let at-loop = c.before.before.before.before.before.before.before.before in
    let start = at-loop.before.before.before.before in
    let inv = at-loop.loop-e.invariant in
    (risen-rising inv.2, (λ i h. omega (arith, risen-small inv.2 4294967296 (omega (arith, met-small _ inv.2.met)) i h), (omega (arith, inv.0, risen-fits inv.2 start.requires.1.0.2), omega (arith, inv.1, start.requires.1.1.1), omega (arith, risen-few inv.2, met-small _ inv.2.met))))

add_at : tie.Need-overflow_add-at invariant-loop decreases-loop
add_at c =
    let turn = c.before.before.before.before.before.before.before.before.before.before.before in
    omega (arith, (here turn).next, end-small turn)

loop-less : tie.Need-loop-e-smaller-then-e-ne-BEGIN invariant-loop decreases-loop
loop-less c = let k = here c.before.before.before.before.before.before.before.before.before.before.before in omega (arith, k.next, k.low)

loop-again : tie.Need-loop-e-preserved-then-e-ne-BEGIN invariant-loop decreases-loop
loop-again c =
    let enter = c.before.before.before.before.before in
    let turn = enter.before.before.before.before.before.before in
    let at-loop = turn.before.before.before in
    let start = at-loop.before.before.before.before in
    let inv = at-loop.loop-e.invariant in
    (enter.enter_front.auto.a ∙ inv.0, enter.enter_front.auto.guesses ∙ inv.1, risen-other inv.2 start.requires.0 (here turn) enter.before.before.before.if-e-ne-BEGIN.true enter.enter_front.ensures.0 enter.enter_front.ensures.1)

falls : tie.Need-returns-then-t-last invariant-loop decreases-loop
falls c = (λ z. false-true z, risen-rest c.before.before.before.before.before.before.before.before.loop-e.invariant.2)

begin-row-requires : tie.Need-begin_row-requires invariant-loop decreases-loop
begin-row-requires c κs =
    let turn = c.before.before.before.before.before.before.before in
    let at-loop = turn.before.before.before in
    let start = at-loop.before.before.before.before in
    let inv = at-loop.loop-e.invariant in (
      omega (arith, inv.0, start.requires.1.1.0),
      omega (arith, inv.1, start.requires.1.1.1),
      omega (arith, inv.0, risen-room inv.2 start.requires.0 (here turn) c.before.before.before.before.if-e-ne-BEGIN.false start.requires.1.0.2),
      omega (arith, risen-few inv.2, met-small _ inv.2.met),
    )

add-n : tie.Need-overflow_add-n invariant-loop decreases-loop
add-n c =
    let turn = c.before.before.before.before.before.before.before.before.before.before.before.before in
    omega (arith, risen-few turn.before.before.before.loop-e.invariant.2, (here turn).low, (here turn).next, end-small turn)

add-at-2 : tie.Need-overflow_add-at-in-loop-e invariant-loop decreases-loop
add-at-2 c =
    let turn = c.before.before.before.before.before.before.before.before.before.before.before.before.before in
    omega (arith, (here turn).next, end-small turn)

loop-less-2 : tie.Need-loop-e-smaller invariant-loop decreases-loop
loop-less-2 c = let k = here c.before.before.before.before.before.before.before.before.before.before.before.before.before in omega (arith, k.next, k.low)

loop-again-2 : tie.Need-loop-e-preserved invariant-loop decreases-loop
loop-again-2 c =
    let row = c.before.before.before.before.before in
    let turn = row.before.before.before.before.before.before.before.before in
    let at-loop = turn.before.before.before in
    let start = at-loop.before.before.before.before in
    let inv = at-loop.loop-e.invariant in
    let begins = row.before.before.before.before.before.if-e-ne-BEGIN.false in
    (row.begin_row.auto.a ∙ inv.0, row.begin_row.auto.guesses ∙ inv.1, risen-begin inv.2 start.requires.0 (here turn) begins (risen-room inv.2 start.requires.0 (here turn) begins start.requires.1.0.2) row.before.before.before.if-t-last.false row.begin_row.ensures)

pub rising_spec : {M : Type 1} → statement M
rising_spec =
    tie.close
    (tie.spec invariant-loop decreases-loop loop-holds known-at-requires (λ c. search rules) (λ c. c.before.before.loop-e.invariant.0) (λ c. c.before.before.loop-e.invariant.1) returns enter-front-requires add_at loop-less loop-again
    (λ c. c.before.before.before.before.before.before.before.before.loop-e.invariant.0) (λ c. c.before.before.before.before.before.before.before.before.loop-e.invariant.1) falls begin-row-requires add-n add-at-2 loop-less-2 loop-again-2)
