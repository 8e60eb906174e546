use Rattle.std.proofs.Common.{◌∙◌, arith}
use Rattle.page.proofs.FaultCases.{data-count, data-start, data-low, data-high, data-slots}
use Rattle.page.proofs.inner.data_fault.Goals as goal

pub returns-then-n-gt-SLOT_LIMIT : goal.returns-then-n-gt-SLOT_LIMIT
returns-then-n-gt-SLOT_LIMIT c = data-count _ (omega arith)

pub returns-then-start-n : goal.returns-then-start-n
returns-then-start-n c = data-start _ (omega arith) (omega arith)

pub returns-then-end-start : goal.returns-then-end-start
returns-then-end-start c = data-low _ (omega arith) (omega arith) (omega arith)

pub returns-then-behind : goal.returns-then-behind
returns-then-behind c = data-high _ (omega arith) (omega arith) (omega arith) (omega arith)

pub returns : goal.returns
returns c = c.slots_fault.ensures ∙ data-slots _ (omega arith) (omega arith) (omega arith) _ _ c.u16_at-end.ensures c.count-n.ensures.0 (omega arith)
