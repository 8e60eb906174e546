use Rattle.std.proofs.Common.{◌≡◌, ◌+◌, ℕ, arith, ap, ◌∙◌, slice_index_or}
use Rattle.endian.proofs.Numbers.{number-split}
use Rattle.endian.proofs.Places.{number-byte}
use Rattle.endian.proofs.inner.u64_at.Goals as goal

pub returns : goal.returns
returns c =
    let at = c.args.at in
    let s = c.args.s.now in
    let e3 : at + 2 + 1 ≡ at + 3 = omega arith in
    let e5 : at + 4 + 1 ≡ at + 5 = omega arith in
    let e6 : at + 4 + 2 ≡ at + 6 = omega arith in
    let e7 : at + 4 + 2 + 1 ≡ at + 7 = omega arith in
    omega (arith, number-split 4 4 (at) s, number-split 2 2 (at) s, number-split 1 1 (at) s, number-byte (at) s, number-byte (at + 1) s, number-split 1 1 (at + 2) s, number-byte (at + 2) s, number-byte (at + 2 + 1) s ∙ ap (λ (k : ℕ). slice_index_or s k 0) e3, number-split 2 2 (at + 4) s, number-split 1 1 (at + 4) s, number-byte (at + 4) s, number-byte (at + 4 + 1) s ∙ ap (λ (k : ℕ). slice_index_or s k 0) e5, number-split 1 1 (at + 4 + 2) s, number-byte (at + 4 + 2) s ∙ ap (λ (k : ℕ). slice_index_or s k 0) e6, number-byte (at + 4 + 2 + 1) s ∙ ap (λ (k : ℕ). slice_index_or s k 0) e7)
