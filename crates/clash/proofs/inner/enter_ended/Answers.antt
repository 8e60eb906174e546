-- A place of the entry's transaction becomes free.
use Rattle.std.proofs.Common.{arith, sym, ◌∙◌}
use Rattle.clash.proofs.OpenLaws.{open-ended, open-ended2, open-absent, opens-same, opens-set, opens-set2}
use Rattle.clash.proofs.inner.enter_ended.Goals as goal

pub returns-then-is_of : goal.returns-then-is_of
returns-then-is_of c =
    let p = c.requires in
    opens-set p.met p.stands p.t_value.0 p.opens 0 (open-ended p.met p.stands p.t_value.0 (p.opens.tell _ (omega arith)) p.t_value.1 (sym c.is_of.ensures ∙ c.if-is_of.true))

pub returns-then-not-is_of : goal.returns-then-not-is_of
returns-then-not-is_of c =
    let p = c.requires in
    opens-same p.met p.stands p.t_value.0 p.opens
    (open-absent p.met p.stands p.t_value.0 (p.opens.tell _ (omega arith)) p.t_value.1 (sym c.is_of.ensures ∙ c.if-is_of.false) (sym c.is_of-2.ensures ∙ c.if-not-is_of.true))

pub returns : goal.returns
returns c =
    let p = c.requires in
    opens-set2 p.met p.stands p.t_value.0 p.opens 0
    (open-ended2 p.met p.stands p.t_value.0 (p.opens.tell _ (omega arith)) p.t_value.1 (sym c.is_of.ensures ∙ c.if-is_of.false) (sym c.is_of-2.ensures ∙ c.if-not-is_of.false))
