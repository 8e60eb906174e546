use mathlib.Core.Path.{◌∙◌}
use Rattle.refusals.proofs.Told.{handed-on, ok-accepted}
use Rattle.page.proofs.Listing.{listable}
use Rattle.page.proofs.RowLists.{list-err, list-taken}
use Rattle.page.proofs.list_rows.Goals as goal

pub returns-in_err-verify_noting-clause-value : goal.returns-in_err-verify_noting-clause-value
returns-in_err-verify_noting-clause-value c =
    handed-on _ _ c.from_residual.ensures.1 ∙ (list-err _ _ _ _ _ c.args.out.now c.verify_noting.ensures.value c.in_err-verify_noting.was).0

pub returns-in_err-verify_noting-clause-out_after : goal.returns-in_err-verify_noting-clause-out_after
returns-in_err-verify_noting-clause-out_after c = (list-err _ _ _ _ _ c.args.out.now c.verify_noting.ensures.value c.in_err-verify_noting.was).1

pub fill-requires-clause-listable : goal.fill-requires-clause-listable
fill-requires-clause-listable c = listable c.args.magic c.args.pages.now (ok-accepted c.verify_noting.ensures.value c.in_ok-verify_noting.was)

pub returns-clause-value : goal.returns-clause-value
returns-clause-value c = (list-taken _ _ _ _ _ c.args.out.now c.verify_noting.ensures.value c.in_ok-verify_noting.was _ _ c.fill.ensures.value c.fill.ensures.out_after).0

pub returns-clause-out_after : goal.returns-clause-out_after
returns-clause-out_after c = (list-taken _ _ _ _ _ c.args.out.now c.verify_noting.ensures.value c.in_ok-verify_noting.was _ _ c.fill.ensures.value c.fill.ensures.out_after).1
