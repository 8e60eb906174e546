use Rattle.std.proofs.Common.{◌∙◌, ℕ, List, sym, ap, ap₂, arith}
use Rattle.page.specs.Layout.{pages_in}
use Rattle.page.proofs.Verdicts.{number_of, right-size}
use Rattle.doublewrite.specs.File.{ids_fit}
use Rattle.doublewrite.proofs.FileLaws.{accepted-file}
use Rattle.doublewrite.proofs.repair.Goals as goal

pub read-requires : goal.read-requires
read-requires c = (right-size c.args.pages.now (sym c.size_wrong.ensures ∙ c.if-size_wrong.false)).1

pub restore-requires-clause-fit : goal.restore-requires-clause-fit
restore-requires-clause-fit c =
    let n = pages_in c.args.pages.now in
    let file = c.in_ok-file in
    let e = file.ensures.value in
    let z = accepted-file c.args.file.now n (ap number_of (sym file.ensures.verdict)) in
    ap₂ (λ (f : List ℕ) (k : ℕ). ids_fit f n k) e.0 e.1 ∙ z.4

pub restore-requires-clause-pages_bound : goal.restore-requires-clause-pages_bound
restore-requires-clause-pages_bound c =
    let z = right-size c.args.pages.now (sym c.size_wrong.ensures ∙ c.if-size_wrong.false) in
    (z.1, omega arith)
