use mathlib.Core.Path.{◌∙◌}
use Rattle.summary.specs.Summary.{no_row, row_step, step_verdict, step_of}
use Rattle.summary.proofs.Answered.{or-else}
use Rattle.summary.proofs.reader.step.Goals as goal

pub returns : goal.returns
unfolding step_of
returns c = c.unwrap_or.ensures ∙ or-else c.unjudged_row.result (step_verdict c.args.file.now c.args.at) (row_step c.args.file.now c.args.at) (record { row = no_row; after = c.args.at }) c.unjudged_row.ensures
