use native.Mathlib.Omega.{arith}
use Rattle.page.proofs.Visibility.{header-in, seen-deleted, seen-xmax}
use Rattle.intake.proofs.search.is_visible.Statement.{statement}
use Rattle.intake.proofs.search.is_visible.Tie as tie

add-if1 : tie.Need-overflow_add-o
add-if1 c = omega (arith, (header-in _ c.before.requires.0 c.before.requires.1.0 _ c.before.requires.1.1.0 c.before.requires.1.1.1 _ c.before.requires.1.1.2).0)

read-if1 : tie.Need-bounds-page-o
read-if1 c = omega (arith, (header-in _ c.before.before.requires.0 c.before.before.requires.1.0 _ c.before.before.requires.1.1.0 c.before.before.requires.1.1.1 _ c.before.before.requires.1.1.2).0)

returns : tie.Need-returns-then-page-o-ne0
returns c = let s = c.before.before.before in seen-deleted _ s.requires.0 s.requires.1.0 _ s.requires.1.1.0 s.requires.1.1.1 _ s.requires.1.1.2 c.if-page-o-ne0.true

u64-at-requires : tie.Need-u64_at-requires
u64-at-requires c κs = omega (arith, (header-in _ c.before.before.before.requires.0 c.before.before.before.requires.1.0 _ c.before.before.before.requires.1.1.0 c.before.before.before.requires.1.1.1 _ c.before.before.before.requires.1.1.2).1)

returns-2 : tie.Need-returns
returns-2 c = let s = c.before.before.before.before in rw c.u64_at.ensures (seen-xmax _ s.requires.0 s.requires.1.0 _ s.requires.1.1.0 s.requires.1.1.1 _ s.requires.1.1.2 c.before.if-page-o-ne0.false)

pub is_visible_spec : {M : Type 1} → statement M
is_visible_spec =
    tie.close
    (tie.spec add-if1 read-if1 returns (λ c. omega (arith, (header-in _ c.before.before.before.requires.0 c.before.before.before.requires.1.0 _ c.before.before.before.requires.1.1.0 c.before.before.before.requires.1.1.1 _ c.before.before.before.requires.1.1.2).1)) u64-at-requires returns-2)
