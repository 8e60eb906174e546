-- Of another length, as it stands, or stamped.
use Rattle.std.proofs.Common.{◌∙◌}
use Rattle.audit.proofs.Cutting.{tuple-other, tuple-plain, tuple-stamped, cut-long, cut-lengths}
use Rattle.audit.proofs.pages.same_tuple.Goals as goal

pub returns-then-m-n : goal.returns-then-m-n
returns-then-m-n c = tuple-other c.requires.lies _ _ _ c.requires.n_in_bounds c.if-m-n.true

pub returns-in_default : goal.returns-in_default
returns-in_default c = c.same.ensures ∙ tuple-plain c.requires.lies c.args.q.now c.args.at c.args.n c.bytes.ensures c.in_default.is

pub same_stamped-requires : goal.same_stamped-requires
same_stamped-requires c =
    let l = c.requires.lies in
    let b = c.bytes-2.ensures in
    (cut-long l c.args.q.now c.args.at c.args.n b c.in-Some.x c.in-Some.is, cut-lengths l c.args.q.now c.args.at c.args.n b c.requires.n_in_bounds c.if-m-n.false)

pub returns : goal.returns
returns c = c.same_stamped.ensures ∙ tuple-stamped c.requires.lies c.args.q.now c.args.at c.args.n c.bytes-2.ensures c.in-Some.x c.in-Some.is
