use mathlib.Core.Path.{◌≡◌, sym, ap, ◌∙◌}
use Prim.Native.Nat.{ℕ, ◌+◌, ◌*◌, ◌-◌, ◌%◌, ◌<◌}
use native.Mathlib.Omega.{arith}
use lib.ListN.{get_or}
use Rattle.endian.specs.Numbers.{part}
use Rattle.summary.specs.Number.{value_of}
use Rattle.summary.proofs.Places.{upto_all, upto-none, upto-more, upto_le}
use Rattle.summary.proofs.numbers.value.Goals as goal
use Rattle.summary.proofs.numbers.value.Goals.{In-loop-p}

-- one group more, and the number that it gives is no larger than the whole
more : (c : In-loop-p) → let q = c.loop-p.p - 1 in let n = 128 * c.loop-p.n + get_or c.args.file.now q 0 % 128 in
    (value_of (part q (c.args.end + 1 - q) c.args.file.now) ≡ n) × (n < 18446744073709551616)
more c =
    let f = c.args.file.now in
    let e = c.requires.ends in
    let m = upto-more f c.args.at c.args.end e c.loop-p.p (omega arith) (omega arith) in
    let k = upto_le f c.args.at c.args.end e (c.loop-p.p - 1) (omega arith) (omega arith) in
    (omega (arith, m, c.loop-p.invariant.so-far), omega (arith, m, k, c.loop-p.invariant.so-far, c.requires.at_bound))

pub bounds-file-p : goal.bounds-file-p
bounds-file-p c = omega (arith, c.requires.ends.within)

pub overflow_mul-n : goal.overflow_mul-n
overflow_mul-n c = record { fits = omega (arith, (more c).1) }

pub overflow_add-n : goal.overflow_add-n
overflow_add-n c = record { fits = omega (arith, (more (goal.at.overflow_add-n c).In-loop-p).1) }

pub loop-p-init : goal.loop-p-init
loop-p-init c = record { below = omega (arith, c.requires.ends.at); above = omega arith; so-far = sym (upto-none c.args.file.now c.args.at c.args.end c.requires.ends) }

pub loop-p-preserved : goal.loop-p-preserved
loop-p-preserved c = record { below = omega arith; above = omega arith; so-far = rw c.from.ensures (sym (more (goal.at.loop-p-preserved c).In-loop-p).0) }

pub returns : goal.returns
returns c =
    let z : c.loop-p.p ≡ c.args.at = omega (arith, c.loop-p.invariant.below, c.loop-p-test.false) in
    c.loop-p.invariant.so-far ∙ ap (λ (q : ℕ). value_of (part q (c.args.end + 1 - q) c.args.file.now)) z ∙ upto_all c.args.file.now c.args.at c.args.end c.requires.ends
