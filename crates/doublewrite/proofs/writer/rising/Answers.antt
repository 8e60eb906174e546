use Rattle.std.proofs.Common.{◌∙◌, arith}
use Rattle.doublewrite.proofs.Listed.{rise-low, rise-high, rise-more, rise-end}
use Rattle.doublewrite.proofs.writer.rising.Goals as goal

pub returns-then-i-least : goal.returns-then-i-least
returns-then-i-least c = rise-low c.loop-i.least c.args.pages c.args.list.now c.loop-i.i-index (omega arith) (omega arith) ∙ c.loop-i.invariant

pub returns-then-pages-i : goal.returns-then-pages-i
returns-then-pages-i c = rise-high c.loop-i.least c.args.pages c.args.list.now c.loop-i.i-index (omega arith) (omega arith) (omega arith) ∙ c.loop-i.invariant

pub loop-i-preserved : goal.loop-i-preserved
loop-i-preserved c = rise-more c.loop-i.least c.args.pages c.args.list.now c.loop-i.i-index (omega arith) (omega arith) (omega arith) ∙ c.loop-i.invariant

pub returns : goal.returns
returns c = rise-end c.loop-i.least c.args.pages c.args.list.now c.loop-i.i-index (omega arith) ∙ c.loop-i.invariant
