use mathlib.Core.Path.{sym, ◌∙◌}
use native.Mathlib.Omega.{arith}
use Rattle.intake.proofs.Searching.{slot-low, short-long, short-empty, short-is}
use Rattle.intake.proofs.search.is_short.Statement.{statement}
use Rattle.intake.proofs.search.is_short.Tie as tie

returns : tie.Need-returns-then-n-ge-TUPLE_BYTES
returns c = let s = c.before.before.before in short-long _ s.requires.0 s.requires.1.0 s.args.k s.requires.1.1 _ c.before.slot_len-n.ensures.0 c.if-n-ge-TUPLE_BYTES.true

returns-2 : tie.Need-returns-then-n-eq0
returns-2 c = let s = c.before.before.before.before in short-empty _ s.requires.0 s.requires.1.0 s.args.k s.requires.1.1 (sym c.if-n-eq0.true ∙ c.before.before.slot_len-n.ensures.0)

is-visible-requires : tie.Need-is_visible-requires
is-visible-requires c κs =
    let s = c.before.before.before.before.before in
    (s.requires.0, (s.requires.1.0, (s.requires.1.1, omega (arith, c.before.if-n-eq0.false, c.before.before.before.slot_len-n.ensures.0), c.slot_off.ensures.0)))

returns-3 : tie.Need-returns
returns-3 c =
    let s = c.before.before.before.before.before.before in
    short-is _ s.requires.0 s.requires.1.0 s.args.k s.requires.1.1 _ c.before.before.before.before.slot_len-n.ensures.0 c.before.before.before.if-n-ge-TUPLE_BYTES.false _ c.is_visible.ensures

pub is_short_spec : {M : Type 1} → statement M
is_short_spec =
    tie.close
    (tie.spec
    (λ c κs. (c.before.requires.0, slot-low _ c.before.requires.1.0 _ c.before.requires.1.1))
    returns
    returns-2
    (λ c κs. (c.before.before.before.before.requires.0, slot-low _ c.before.before.before.before.requires.1.0 _ c.before.before.before.before.requires.1.1))
    is-visible-requires
    returns-3)
