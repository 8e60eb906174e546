-- A touched page is a good Data page, and has the slots that its start and the next one say.
use Rattle.images.proofs.Deciding.{top-asked, slots-found}
use Rattle.audit.proofs.areas.page_judged.Goals as goal

pub slots_for-n-requires : goal.slots_for-n-requires
slots_for-n-requires c =
    let r = c.requires in
    let a = top-asked r.ready.begin c.args.i r.before_len.1 r.ready.few in
    (c.page_at-page.ensures.page_len, a.0, a.1)

pub touched-requires-clause-n_value : goal.touched-requires-clause-n_value
touched-requires-clause-n_value c = let r = c.requires in slots-found r.ready.begin c.args.i r.before_len.1 _ c.slots_for-n.ensures
