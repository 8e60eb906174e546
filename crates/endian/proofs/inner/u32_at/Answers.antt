use Rattle.std.proofs.Common.{◌≡◌, ◌+◌, ℕ, arith, ap, ◌∙◌, slice_index_or}
use Rattle.endian.proofs.Numbers.{number-split}
use Rattle.endian.proofs.Places.{number-byte}
use Rattle.endian.proofs.inner.u32_at.Goals as goal

pub returns : goal.returns
returns c =
    let at = c.args.at in
    let s = c.args.s.now in
    let e3 : at + 2 + 1 ≡ at + 3 = omega arith in
    omega (arith, number-split 2 2 (at) s, number-split 1 1 (at) s, number-byte (at) s, number-byte (at + 1) s, number-split 1 1 (at + 2) s, number-byte (at + 2) s, number-byte (at + 2 + 1) s ∙ ap (λ (k : ℕ). slice_index_or s k 0) e3)
