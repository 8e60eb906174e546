-- A page whose top is 0 stays as it is, and another one is repacked: it has room, so its slots are few.
use Rattle.std.proofs.Common.{◌≡◌, arith}
use Rattle.wal.specs.Walk.{entries}
use Rattle.page.specs.Layout.{page_at}
use Rattle.rules.specs.Mend.{top_of}
use Rattle.images.proofs.Deciding.{top-asked, top-found, slots-found, top-fits}
use Rattle.mend.proofs.Pages.{last-known, one-untouched, paste-untouched, paste-touched}
use Rattle.mend.proofs.inner.mend_page.Goals as goal

pub top_of-top-requires : goal.top_of-top-requires
top_of-top-requires c = top-asked c.requires.starts c.args.i (omega arith) (omega arith)

pub returns-then-top-eq0-clause-pages_after : goal.returns-then-top-eq0-clause-pages_after
returns-then-top-eq0-clause-pages_after c =
    let es = entries c.args.changes.now.log.now in
    let z : top_of c.args.i es ≡ 0 = omega (arith, top-found c.requires.starts c.args.i (omega arith) c.top_of-top.ensures) in
    paste-untouched es c.args.i z c.args.pages.now

pub returns-then-top-eq0-clause-value : goal.returns-then-top-eq0-clause-value
returns-then-top-eq0-clause-value c =
    one-untouched (entries c.args.changes.now.log.now) c.args.i (omega (arith, top-found c.requires.starts c.args.i (omega arith) c.top_of-top.ensures))

pub decide-requires : goal.decide-requires
decide-requires c =
    let t = top-found c.requires.starts c.args.i (omega arith) c.top_of-top.ensures in
    let f = top-fits _ _ _ (page_at c.args.i c.args.pages.now) (c.requires.fitting.at c.args.i (omega arith) (omega arith) (omega (arith, t, c.if-top-eq0.false))) in
    (omega arith, t, omega (arith, t, f))

pub invariant_of-slots : goal.invariant_of-slots
invariant_of-slots c =
    let t = top-found c.requires.starts c.args.i (omega arith) c.top_of-top.ensures in
    let f = top-fits _ _ _ (page_at c.args.i c.args.pages.now) (c.requires.fitting.at c.args.i (omega arith) (omega arith) (omega (arith, t, c.if-top-eq0.false))) in
    record { ordered = c.args.changes.now.ordered; decided = record { top-is = t; fits = omega (arith, t, f); is = c.decide.ensures } }

pub slots_for-n-requires : goal.slots_for-n-requires
slots_for-n-requires c =
    let a = top-asked c.requires.starts c.args.i (omega arith) (omega arith) in
    (c.page_at-page.ensures.page_len, a.0, a.1)

pub repack-requires-clause-n_value : goal.repack-requires-clause-n_value
repack-requires-clause-n_value c = slots-found c.requires.starts c.args.i (omega arith) _ c.slots_for-n.ensures

pub repack-requires-clause-last_at : goal.repack-requires-clause-last_at
repack-requires-clause-last_at c = last-known c.requires.lasts (omega arith) (omega (arith, top-found c.requires.starts c.args.i (omega arith) c.top_of-top.ensures, c.if-top-eq0.false))

pub returns-clause-pages_after : goal.returns-clause-pages_after
returns-clause-pages_after c =
    let es = entries c.args.changes.now.log.now in
    paste-touched es c.args.i (omega (arith, top-found c.requires.starts c.args.i (omega arith) c.top_of-top.ensures, c.if-top-eq0.false)) c.args.pages.now c.store.ensures c.repack.ensures c.page_at-page.ensures.bytes
