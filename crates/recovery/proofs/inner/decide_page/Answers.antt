-- A page that is accepted has few slots.
use Rattle.std.proofs.Common.{arith}
use Rattle.images.proofs.Deciding.{top-asked, top-found}
use Rattle.recovery.proofs.Spots.{top-few}
use Rattle.recovery.proofs.inner.decide_page.Goals as goal

pub top_of-top-requires : goal.top_of-top-requires
top_of-top-requires c = let r = c.requires in top-asked r.ready.begin c.args.i r.i_bound r.ready.few

pub invariant_of-changes : goal.invariant_of-changes
invariant_of-changes c =
    let r = c.requires.ready in
    record { small = (omega (arith, r.few), r.small); ordered = r.ordered; measured = r.next; listed = r.listed }

pub decide-requires : goal.decide-requires
decide-requires c =
    let r = c.requires in
    let t = top-found r.ready.begin c.args.i r.i_bound c.top_of-top.ensures in
    (r.i_bound, t, omega (arith, t, top-few c.args.i r.ready.fitting r.i_bound))

pub returns-clause-value : goal.returns-clause-value
returns-clause-value c = let r = c.requires in top-found r.ready.begin c.args.i r.i_bound c.top_of-top.ensures

pub returns-clause-page_cells : goal.returns-clause-page_cells
returns-clause-page_cells c =
    let r = c.requires in
    let t = top-found r.ready.begin c.args.i r.i_bound c.top_of-top.ensures in
    record { top-is = t; fits = omega (arith, t, top-few c.args.i r.ready.fitting r.i_bound); is = c.decide.ensures }
