use Rattle.std.proofs.Common.{arith, sym, ◌∙◌}
use Rattle.wal.proofs.ReadLaws.{too-high, torn-body, whole}
use Rattle.wal.proofs.inner.entry_at.Goals as goal

pub returns-then-n-gt-LONGEST : goal.returns-then-n-gt-LONGEST
returns-then-n-gt-LONGEST c = too-high _ _ (omega arith) (omega arith) (omega arith)

pub returns-then-left-n : goal.returns-then-left-n
returns-then-left-n c = torn-body _ _ (omega arith) (omega arith) (omega arith) (omega arith) (omega arith)

pub returns : goal.returns
returns c = sym (whole _ _ (omega arith) (omega arith) (omega arith) (omega arith) (omega arith) ∙ cc)
