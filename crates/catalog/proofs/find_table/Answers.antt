use Rattle.std.proofs.Common.{sym, ap}
use Rattle.page.proofs.Listing.{listable}
use Rattle.page.proofs.Verdicts.{number_of}
use Rattle.catalog.proofs.find_table.Goals as goal

pub find-requires : goal.find-requires
find-requires c = listable c.args.magic c.args.pages.now (ap number_of (sym c.in_ok-verify.ensures))
