use mathlib.Core.Path.{ap, ◌∙◌}
use Prim.Native.Nat.{ℕ}
use mathlib.Core.List.{List, []}
use lib.ListN.{get_or}
use Rattle.std.proofs.Common.{arith}
use Rattle.page.proofs.Verdicts.{chunk-at, one_page}
use Rattle.page.proofs.inner.whole.Goals as goal

pub returns : goal.returns
returns c = ap (λ (l : List (List ℕ)). get_or l 0 []) c.as_chunks.ensures.front ∙ chunk-at _ 0 c.args.page.now (omega arith) ∙ one_page c.args.page.now c.requires
