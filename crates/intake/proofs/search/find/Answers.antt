use Rattle.std.proofs.Common.{refl, ◌∙◌}
use Rattle.refusals.proofs.Told.{handed-on}
use Rattle.intake.specs.Places.{wide}
use Rattle.intake.proofs.Searching.{gone-none, page-good, gone-refused, gone-more, gone-all}
use Rattle.intake.proofs.search.find.Goals as goal

pub loop-i-init : goal.loop-i-init
loop-i-init c = gone-none c.args.magic c.args.pages.now (wide c.args.low c.args.high) c.requires _ refl

pub returns-in_err-verify_from : goal.returns-in_err-verify_from
returns-in_err-verify_from c =
    let l = c.loop-i in
    handed-on _ _ c.from_residual.ensures.1
    ∙ gone-refused c.args.magic c.args.pages.now (wide c.args.low c.args.high) c.requires l.i c.loop-i-test.true l.known l.invariant c.verify_from.ensures c.in_err-verify_from.was

pub met_page-known-requires-clause-data_good : goal.met_page-known-requires-clause-data_good
met_page-known-requires-clause-data_good c =
    let l = c.loop-i in
    rw c.page_at.ensures.bytes
    (page-good c.args.magic c.args.pages.now (wide c.args.low c.args.high) c.requires l.i c.loop-i-test.true l.known l.invariant c.verify_from.ensures c.in_ok-verify_from.was).data_good

pub loop-i-preserved : goal.loop-i-preserved
loop-i-preserved c =
    let l = c.loop-i in
    gone-more c.args.magic c.args.pages.now (wide c.args.low c.args.high) c.requires l.i c.loop-i-test.true l.known l.invariant c.verify_from.ensures c.in_ok-verify_from.was c.met_page-known.result
    (rw c.page_at.ensures.bytes at c.met_page-known.ensures)

pub returns : goal.returns
returns c =
    let l = c.loop-i in
    gone-all c.args.magic c.args.pages.now (wide c.args.low c.args.high) c.requires l.i l.known c.loop-i-test.false l.invariant
