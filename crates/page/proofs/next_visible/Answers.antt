use mathlib.Core.Path.{ap, ◌∙◌}
use Rattle.std.proofs.Common.{Ok}
use Rattle.refusals.proofs.Told.{handed-on, ok-accepted}
use Rattle.page.proofs.Listing.{listable, listing-err, listing-ok}
use Rattle.page.proofs.next_visible.Goals as goal

pub returns-in_err-verify : goal.returns-in_err-verify
returns-in_err-verify c = handed-on _ _ c.from_residual.ensures.1 ∙ listing-err _ _ _ _ c.verify.ensures c.in_err-verify.was

pub next_row-requires : goal.next_row-requires
next_row-requires c = listable c.args.magic c.args.pages.now (ok-accepted c.verify.ensures c.in_ok-verify.was)

pub returns : goal.returns
returns c = ap Ok c.next_row.ensures ∙ listing-ok _ _ _ _ c.verify.ensures c.in_ok-verify.was
