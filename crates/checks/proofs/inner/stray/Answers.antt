-- Where nothing goes beyond and every touched page is of type 1 nothing is refused.
use Rattle.std.proofs.Common.{arith, sym}
use Rattle.checks.proofs.StrayLaws.{stray-nowhere}
use Rattle.checks.proofs.inner.stray.Goals as goal

pub returns-then-of_data : goal.returns-then-of_data
returns-then-of_data c =
    let r = c.requires in
    sym (stray-nowhere _ _ _ _ _ _ r.log_value.1 r.log_value.0 r.first_beyond (omega arith) r.starts (c.of_data.ensures c.if-of_data.true))
