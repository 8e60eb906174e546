use Rattle.std.proofs.Common.{sym, ◌∙◌, arith}
use Rattle.table.proofs.Storing.{rows-length}
use Rattle.table.proofs.Finding.{key-number}
use Rattle.table.proofs.inner.find.Goals as goal

pub returns-then-key_at-t : goal.returns-then-key_at-t
returns-then-key_at-t c = (omega (arith, rows-length c.args.a.now, c.if-g-a.true), sym (key-number _) ∙ sym c.key_at.ensures ∙ c.if-key_at-t.true)

pub keep-requires : goal.keep-requires
keep-requires c = (c.requires.guessed_in_bounds.0, omega (arith, c.in_ok-r.ensures.0, rows-length c.args.a.now, c.requires.guessed_in_bounds.1))
