use Rattle.std.proofs.Common.{arith}
use Rattle.wal.proofs.Endings.{exact-end, torn-end, unused-end, body_end}
use Rattle.wal.proofs.inner.ending_at.Goals as goal

pub returns-then-log-place : goal.returns-then-log-place
returns-then-log-place c = exact-end _ c.requires.place c.requires.undamaged (omega arith)

pub returns-then-log-place-lt4 : goal.returns-then-log-place-lt4
returns-then-log-place-lt4 c = torn-end _ c.requires.place c.requires.undamaged (omega arith) (omega arith)

pub returns-then-u32_at-eq0 : goal.returns-then-u32_at-eq0
returns-then-u32_at-eq0 c = unused-end _ c.requires.place c.requires.undamaged (omega arith) (omega arith)

pub returns : goal.returns
returns c = body_end _ c.requires.place c.requires.undamaged (omega arith) (λ e. c.if-u32_at-eq0.false (omega arith))
