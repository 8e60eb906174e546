use Rattle.std.proofs.Common.{◌+◌, ◌/◌, ◌∙◌, arith}
use Rattle.endian.proofs.Places.{set-byte, stored-run}
use Rattle.endian.proofs.inner.put_u24.Goals as goal

pub returns : goal.returns
returns c =
    let a = c.args in
    let p = c.put_u16 in
    set-byte p.new.s (a.at + 2) (a.n / 65536) (omega (arith, p.auto.s)) (omega arith) ∙ rw p.ensures (stored-run 2 1 a.at a.n a.s.now (omega arith))
