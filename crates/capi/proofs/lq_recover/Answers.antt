-- The numbers are those of the answer.
use mathlib.Core.Path.{ap, ◌∙◌}
use Rattle.std.proofs.Common.{ℕ, List}
use Rattle.capi.specs.Answers.{given, answer_numbers}
use Rattle.capi.proofs.lq_recover.Goals as goal

pub returns-clause-out_after : goal.returns-clause-out_after
returns-clause-out_after c =
    c.give.ensures ∙ ap (λ (ns : List ℕ). given ns c.args.out.now) (c.answer_numbers.ensures ∙ ap answer_numbers c.recover_flat-a.ensures.value)
