use Rattle.std.proofs.Common.{◌∙◌, ap, arith}
use Rattle.page.specs.Fault.{data_fault}
use Rattle.page.proofs.FaultCases.{case-magic, case-type, case-id, case-crc, case-other, case-data}
use Rattle.page.proofs.inner.fault.Goals as goal

pub returns-then-u64_at-magic : goal.returns-then-u64_at-magic
returns-then-u64_at-magic c = case-magic _ _ _ (omega arith)

pub returns-then-k-gt-LAST_TYPE : goal.returns-then-k-gt-LAST_TYPE
returns-then-k-gt-LAST_TYPE c = case-type _ _ _ (omega arith) (omega arith)

pub returns-then-u64_at-index : goal.returns-then-u64_at-index
returns-then-u64_at-index c = case-id _ _ _ (omega arith) (omega arith) (omega arith)

pub returns-then-u32_at-checksum : goal.returns-then-u32_at-checksum
returns-then-u32_at-checksum c = case-crc _ _ _ (omega arith) (omega arith) (omega arith) (omega arith)

pub returns-then-k-ne-DATA_TYPE : goal.returns-then-k-ne-DATA_TYPE
returns-then-k-ne-DATA_TYPE c = case-other _ _ _ (omega arith) (omega arith) (omega arith) (omega arith) (omega arith)

pub returns : goal.returns
returns c = c.data_fault.ensures ∙ ap data_fault c.whole.ensures ∙ case-data _ _ _ (omega arith) (omega arith) (omega arith) (omega arith) (omega arith)
