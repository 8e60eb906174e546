use mathlib.Core.Path.{sym}
use borrow.Author.Tests.{le-leb, lt-leb}
use Rattle.page.specs.Fault.{is_tuple}
use Rattle.page.proofs.SlotLaws.{tuple-last}
use Rattle.page.proofs.faults.tuple_fits.Goals as goal

pub returns-then-n-lt-ROW_HEAD_BYTES : goal.returns-then-n-lt-ROW_HEAD_BYTES
unfolding is_tuple
returns-then-n-lt-ROW_HEAD_BYTES c = simp (lt-leb _ _ c.if-n-lt-ROW_HEAD_BYTES.true)

pub returns-then-o-end : goal.returns-then-o-end
unfolding is_tuple
returns-then-o-end c = simp (le-leb _ _ c.if-n-lt-ROW_HEAD_BYTES.false, lt-leb _ _ c.if-o-end.true)

pub returns-then-top-o : goal.returns-then-top-o
unfolding is_tuple
returns-then-top-o c = simp (le-leb _ _ c.if-n-lt-ROW_HEAD_BYTES.false, le-leb _ _ c.if-o-end.false, lt-leb _ _ c.if-top-o.true)

pub returns : goal.returns
returns c = sym (tuple-last c.args.page.now _ _ _ _ c.if-n-lt-ROW_HEAD_BYTES.false c.if-o-end.false c.if-top-o.false)
