use mathlib.Core.Path.{ap, ◌∙◌}
use Prim.Native.Nat.{ℕ}
use mathlib.Core.List.{List, []}
use lib.ListN.{length, get_or}
use Rattle.std.proofs.Common.{arith}
use Rattle.page.proofs.Verdicts.{chunk-at, page-length}
use Rattle.page.proofs.inner.page_at.Goals as goal

pub returns-clause-bytes : goal.returns-clause-bytes
returns-clause-bytes c = ap (λ (l : List (List ℕ)). get_or l c.args.i []) c.as_chunks.ensures.front ∙ chunk-at _ c.args.i c.args.pages.now (omega arith)

pub returns-clause-page_len : goal.returns-clause-page_len
returns-clause-page_len c =
    ap (λ (l : List (List ℕ)). length (get_or l c.args.i [])) c.as_chunks.ensures.front ∙ ap length (chunk-at _ c.args.i c.args.pages.now (omega arith)) ∙ page-length c.args.pages.now c.args.i (omega arith)
