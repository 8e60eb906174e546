use Rattle.std.proofs.Common.{◌<◌, ℕ, ◌≡◌, length, replicate, ◌∙◌, arith}
use lib.ListN.{length-replicate}
use Rattle.page.proofs.Listing.{listable}
use Rattle.page.specs.Rows.{visible_rows}
use Rattle.intake.specs.Orders.{repeated_in, orders_repeated}
use Rattle.refusals.proofs.Told.{handed-on, err-answered, ok-accepted, ok-answered}
use Rattle.intake.proofs.Pairing.{area-few}
use Rattle.intake.proofs.repeated.Goals as goal

-- the block as it was made
block-long : length {A = ℕ} (replicate 114688 0) ≡ 114688
block-long = length-replicate {0} {A = ℕ} 114688 0

block-some : 0 < length {A = ℕ} (replicate 114688 0)
block-some = omega (arith, block-long)

pub returns-in_err-verify : goal.returns-in_err-verify
unfolding orders_repeated
returns-in_err-verify c = handed-on _ _ c.from_residual.ensures.1 ∙ err-answered c.verify.ensures c.in_err-verify.was (repeated_in c.args.pages.now (visible_rows c.args.pages.now))

pub repeated-requires-clause-listable : goal.repeated-requires-clause-listable
repeated-requires-clause-listable c = listable c.args.magic c.args.pages.now (ok-accepted c.verify.ensures c.in_ok-verify.was)

pub repeated-requires-clause-pages_len_bound : goal.repeated-requires-clause-pages_len_bound
repeated-requires-clause-pages_len_bound c = (area-few c.args.magic c.args.pages.now (ok-accepted c.verify.ensures c.in_ok-verify.was), block-some)

pub returns : goal.returns
unfolding orders_repeated
returns c = rw c.repeated.ensures (ok-answered c.verify.ensures c.in_ok-verify.was (repeated_in c.args.pages.now (visible_rows c.args.pages.now)))
