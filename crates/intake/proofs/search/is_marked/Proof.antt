use native.Mathlib.Omega.{arith}
use Rattle.intake.proofs.Searching.{slot-low, order-in, marked-short, marked_other, marked-is}
use Rattle.intake.proofs.search.is_marked.Statement.{statement}
use Rattle.intake.proofs.search.is_marked.Tie as tie

returns : tie.Need-returns-then-n-lt-TUPLE_BYTES
returns c = let s = c.before.before.before in marked-short _ s.requires.0 s.requires.1.0 s.args.k s.requires.1.1 _ c.before.slot_len-n.ensures.0 c.if-n-lt-TUPLE_BYTES.true _

has-mark-requires : tie.Need-has_mark-requires
has-mark-requires c κs = let s = c.before.before.before.before in order-in _ s.requires.0 s.requires.1.0 s.args.k s.requires.1.1 _ c.before.before.slot_len-n.ensures.0 c.before.if-n-lt-TUPLE_BYTES.false _ c.slot_off-o.ensures.0

is-visible-requires : tie.Need-is_visible-requires
is-visible-requires c κs =
    let s = c.before.before.before.before.before.before in
    (s.requires.0, (s.requires.1.0, (s.requires.1.1, omega (arith, c.before.before.before.if-n-lt-TUPLE_BYTES.false, c.before.before.before.before.slot_len-n.ensures.0), c.before.before.slot_off-o.ensures.0)))

returns-2 : tie.Need-returns-then-has_mark
returns-2 c =
    let s = c.before.before.before.before.before.before.before in
    marked-is _ s.requires.0 s.requires.1.0 s.args.k s.requires.1.1 _ c.before.before.before.before.before.slot_len-n.ensures.0 c.before.before.before.before.if-n-lt-TUPLE_BYTES.false _ c.before.before.before.slot_off-o.ensures.0 _ _ c.before.before.has_mark.ensures c.before.if-has_mark.true _
    c.is_visible.ensures

returns-3 : tie.Need-returns
returns-3 c =
    let s = c.before.before.before.before.before.before in
    marked_other _ s.requires.0 s.requires.1.0 s.args.k s.requires.1.1 _ c.before.before.before.before.slot_len-n.ensures.0 c.before.before.before.if-n-lt-TUPLE_BYTES.false _ c.before.before.slot_off-o.ensures.0 _ _ c.before.has_mark.ensures c.if-has_mark.false

pub is_marked_spec : {M : Type 1} → statement M
is_marked_spec =
    tie.close
    (tie.spec
    (λ c κs. (c.before.requires.0, slot-low _ c.before.requires.1.0 _ c.before.requires.1.1))
    returns
    (λ c κs. (c.before.before.before.requires.0, slot-low _ c.before.before.before.requires.1.0 _ c.before.before.before.requires.1.1))
    (λ c. omega (arith, c.slot_off-o.ensures.1))
    has-mark-requires
    is-visible-requires
    returns-2
    returns-3)
