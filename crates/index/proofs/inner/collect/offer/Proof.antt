-- A place out of the range is passed over, another is put, where there is no room after a cut.
-- Assumes nothing.
use native.Mathlib.Omega.{arith}
use borrow.Author.Rules.{rules}
use Rattle.index.proofs.Collecting.{stock-skip, stock-put, stock-whole, offer-cut}
use Rattle.index.proofs.inner.collect.offer.Statement.{statement}
use Rattle.index.proofs.inner.collect.offer.Tie as tie

returns : tie.Need-returns-then-hi-t
returns c =
    let start = c.before.before.before.before.before.before.before.before in
    let t = c.before.before.before.before.before.number_of-t.ensures in
    (start.requires.1.0.0, stock-skip _ start.requires.1.1 (λ a b. omega (arith, t, c.if-hi-t.true)))

returns-2 : tie.Need-returns-then-len-a
returns-2 c =
    let start = c.before.before.before.before.before.before.before.before.before.before.before.before.before in
    let t = c.before.before.before.before.before.before.before.before.before.before.number_of-t.ensures in
    stock-put start.args.held.len start.args.p start.requires.1.1 c.before.before.before.before.if-len-a.true start.requires.0.0 start.requires.0.1 t (omega (arith, t)) c.before.before.put-n.ensures

cut-requires : tie.Need-cut-c-requires
cut-requires c κs =
    let start = c.before.before.before.before.before.before.before.before.before.before in
    (stock-whole start.args.a.now start.args.held.len c.before.if-len-a.false start.requires.1.1, start.requires.1.0.1)

returns-3 : tie.Need-returns
returns-3 c =
    let start = c.before.before.before.before.before.before.before.before.before.before.before.before.before.before.before.before.before.before in
    let t = c.before.before.before.before.before.before.before.before.before.before.before.before.before.before.before.number_of-t.ensures in
    let cut = c.before.before.before.before.before.before.before.cut-c in
    offer-cut start.args.held.len cut.result.len start.args.p c.before.before.before.before.before.before.before.before.before.if-len-a.false start.requires.0.0 start.requires.0.1 t (omega (arith, t)) cut.ensures c.before.before.put-n-2.ensures

pub offer_spec : {M : Type 1} → statement M
offer_spec =
    tie.close
    (tie.spec
    (λ c κs. search rules)
    -- no answer is named after the test of the lower bound, and none cites it
    (λ c. (c.requires.1.0.0, stock-skip _ c.requires.1.1 (λ a b. omega (arith, c.number_of-t.ensures))))
    returns
    (λ c κs. search rules)
    (λ c. search rules)
    returns-2
    cut-requires
    (λ c κs. search rules)
    (λ c. search rules)
    returns-3)
