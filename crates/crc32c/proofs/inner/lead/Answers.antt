use Rattle.std.proofs.Common.{ℕ, ◌+◌, ◌*◌, ap, bit_xor, ◌∙◌}
use Rattle.endian.specs.Numbers.{Bytes}
use Rattle.crc32c.specs.Crc.{shifts}
use Rattle.crc32c.proofs.Runs.{run_at}
use Rattle.crc32c.proofs.inner.lead.Goals as goal

pub returns : goal.returns
returns c =
    let a = c.args in
    let b : Bytes a.s.now = record { at = λ i. (c.type_inv.s i).fits } in
    c.four.ensures ∙ ap (λ (x : ℕ). shifts (8 * (a.k + 4)) (bit_xor a.c x)) c.u32_at.ensures ∙ run_at a.s.now a.i 4 a.k a.c b c.requires.1
