use Rattle.std.proofs.Common.{sym, ◌∙◌, ltb, arith, rules, tests}
use Rattle.std.specs.Prelude.{Some, None}
use Rattle.std.proofs.lemmas.Iterator.{YieldsList-from_slice}
use Rattle.std.proofs.lemmas.Iterator.Search.{position_from_yields_List}
use Rattle.summary.proofs.Places.{end-none, end-within}
use Rattle.summary.proofs.numbers.last_group.Goals as goal

pub returns-in_err-groups : goal.returns-in_err-groups
returns-in_err-groups c = c.from_residual.ensures ∙ sym (end-none c.args.file.now c.args.at (omega (arith, c.in_err-groups.ensures.lookup.0)))

pub returns-in_err-before : goal.returns-in_err-before
returns-in_err-before c =
    let r = position_from_yields_List (λ b. ltb b 128) _ _ c.position.result c.position.ensures.ran (YieldsList-from_slice c.in_ok-groups.groups.now cc) (λ x b q k. search (rules, tests)) in
    c.from_residual-in_err-before.ensures ∙ end-within c.args.file.now c.args.at c.in_ok-groups.groups.now c.in_ok-groups.ensures.lookup.0.2 None (sym c.in_err-before.was ∙ r)

pub returns : goal.returns
returns c =
    let r = position_from_yields_List (λ b. ltb b 128) _ _ c.position.result c.position.ensures.ran (YieldsList-from_slice c.in_ok-groups.groups.now cc) (λ x b q k. search (rules, tests)) in
    end-within c.args.file.now c.args.at c.in_ok-groups.groups.now c.in_ok-groups.ensures.lookup.0.2 (Some c.in_ok-before.before) (sym c.in_ok-before.was ∙ r)
