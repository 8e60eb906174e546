-- Recovery with records is recovery without them, and the table filled as its answer tells.
-- Assumes nothing.
use mathlib.Core.Path.{◌∙◌}
use Rattle.recovery.proofs.Whole.{whole-answer, whole-pages, whole-ordered, whole-due, whole-table}
use Rattle.recovery.proofs.recover.Goals as goal

pub fill-requires-clause-orderly : goal.fill-requires-clause-orderly
fill-requires-clause-orderly c =
    let a = c.args in
    whole-ordered a.magic a.floor.0 a.pages.now a.log.now a.table.now c.recover-a.result c.recover-a.ensures.value

pub fill-requires-clause-log_value : goal.fill-requires-clause-log_value
fill-requires-clause-log_value c =
    let a = c.args in
    whole-due a.magic a.floor.0 a.pages.now a.log.now a.table.now c.recover-a.result c.recover-a.ensures.value

pub returns-clause-value : goal.returns-clause-value
returns-clause-value c =
    let a = c.args in
    c.recover-a.ensures.value ∙ whole-answer a.magic a.floor.0 a.pages.now a.log.now a.table.now

pub returns-clause-pages_after : goal.returns-clause-pages_after
returns-clause-pages_after c =
    let a = c.args in
    c.recover-a.ensures.pages_after ∙ whole-pages a.magic a.floor.0 a.pages.now a.log.now a.table.now

pub returns-clause-table_after : goal.returns-clause-table_after
returns-clause-table_after c =
    let a = c.args in
    c.fill.ensures ∙ whole-table a.magic a.floor.0 a.pages.now a.log.now a.table.now c.recover-a.result c.recover-a.ensures.value
