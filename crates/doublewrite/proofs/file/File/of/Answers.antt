use Rattle.std.proofs.Common.{sym, ◌∙◌, arith, ne_eqb, eq-eqb}
use Rattle.doublewrite.proofs.FileLaws.{head-short, head-name, head-version, head-size}
use Rattle.doublewrite.proofs.file.File.of.Goals as goal

pub returns-then-bytes-clause-headed : goal.returns-then-bytes-clause-headed
returns-then-bytes-clause-headed c = head-short _ (omega arith)

pub returns-then-u64_at-ne-NAME-clause-headed : goal.returns-then-u64_at-ne-NAME-clause-headed
returns-then-u64_at-ne-NAME-clause-headed c = head-name _ (omega arith)

pub returns-then-u32_at-ne-VERSION-clause-headed : goal.returns-then-u32_at-ne-VERSION-clause-headed
returns-then-u32_at-ne-VERSION-clause-headed c = head-version _ (omega arith) (omega arith)

pub returns-then-bytes-file_bytes-clause-headed : goal.returns-then-bytes-file_bytes-clause-headed
returns-then-bytes-file_bytes-clause-headed c = sym (ne_eqb _ _ (λ e. omega arith)) ∙ head-size _ (omega arith) (omega arith)

pub returns-clause-headed : goal.returns-clause-headed
returns-clause-headed c = sym (eq-eqb _ _ (omega arith)) ∙ head-size _ (omega arith) (omega arith)
