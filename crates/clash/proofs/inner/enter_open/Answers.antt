-- The entry's transaction has a place, takes a free one, or there is none.
use Rattle.std.proofs.Common.{arith, sym, ◌∙◌}
use Rattle.wal.proofs.Prefix.{stands_at}
use Rattle.clash.proofs.OpenLaws.{open_stays, open-stays2, open-new, open-new2, open-many, opens-same, opens-set, opens-set2}
use Rattle.clash.proofs.inner.enter_open.Goals as goal

pub returns-then-is_of : goal.returns-then-is_of
returns-then-is_of c =
    let p = c.requires in
    let t = p.log_len_bound in
    opens-same p.met p.stands t.1 p.opens (open_stays p.met p.stands t.1 (p.opens.tell _ (omega arith)) t.2 (sym c.is_of.ensures ∙ c.if-is_of.true))

pub returns-then-is_of-2 : goal.returns-then-is_of-2
returns-then-is_of-2 c =
    let p = c.requires in
    let t = p.log_len_bound in
    opens-same p.met p.stands t.1 p.opens
    (open-stays2 p.met p.stands t.1 (p.opens.tell _ (omega arith)) t.2 (sym c.is_of.ensures ∙ c.if-is_of.false) (sym c.is_of-2.ensures ∙ c.if-is_of-2.true))

pub overflow_cast-opens : goal.overflow_cast-opens
overflow_cast-opens c = omega (arith, (stands_at c.requires.stands).room, c.requires.log_len_bound.0)

pub returns-then-v-eq0 : goal.returns-then-v-eq0
returns-then-v-eq0 c =
    let p = c.requires in
    let t = p.log_len_bound in
    opens-set p.met p.stands t.1 p.opens _
    (open-new p.met p.stands t.1 (p.opens.tell _ (omega arith)) t.2 (sym c.is_of.ensures ∙ c.if-is_of.false) (sym c.is_of-2.ensures ∙ c.if-is_of-2.false) c.if-v-eq0.true)

pub overflow_cast-opens-then-w-eq0 : goal.overflow_cast-opens-then-w-eq0
overflow_cast-opens-then-w-eq0 c = omega (arith, (stands_at c.requires.stands).room, c.requires.log_len_bound.0)

pub returns-then-w-eq0 : goal.returns-then-w-eq0
returns-then-w-eq0 c =
    let p = c.requires in
    let t = p.log_len_bound in
    opens-set2 p.met p.stands t.1 p.opens _
    (open-new2 p.met p.stands t.1 (p.opens.tell _ (omega arith)) t.2 (sym c.is_of.ensures ∙ c.if-is_of.false) (sym c.is_of-2.ensures ∙ c.if-is_of-2.false) c.if-w-eq0.true)

pub returns : goal.returns
returns c =
    let p = c.requires in
    opens-set p.met p.stands p.log_len_bound.1 p.opens 1 (open-many p.met p.stands (p.opens.tell _ (omega arith)))
