-- Where the log is not asked, no other transaction that the cell may keep is open.
use Rattle.std.proofs.Common.{sym}
use Rattle.clash.proofs.OpenLaws.{quiet-slot, quiet-both}
use Rattle.clash.proofs.inner.clashes_by_cell.Goals as goal

pub returns-then-x-eq0 : goal.returns-then-x-eq0
returns-then-x-eq0 c = let p = c.requires in sym (quiet-slot p.opens p.t_value.1 p.newest c.if-x-eq0.true)

pub returns : goal.returns
returns c =
    let p = c.requires in
    sym (quiet-both p.opens p.t_value.1 p.newest c.if-x-eq0.false p.t_value.0 (c.may_clash.ensures c.if-may_clash.false) (c.may_clash-2.ensures c.if-may_clash-2.false))
