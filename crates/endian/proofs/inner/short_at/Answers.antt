use Rattle.std.proofs.Common.{◌≡◌, ◌+◌, ◌-◌, ◌<◌, ◌≤◌, ◌^◌, ℕ, List, suc, arith, ap, ◌∙◌, length, drop, length-drop}
use Rattle.std.proofs.Math.Seq.{drop-length}
use Rattle.endian.specs.Numbers.{number_of, Bytes}
use Rattle.endian.proofs.Places.{number-front, number-rest}
use Rattle.endian.proofs.Bytes.{bytes_drop, number-below}
use Rattle.endian.proofs.inner.short_at.Goals as goal

pub loop-i-init : goal.loop-i-init
unfolding number_of
loop-i-init c = (omega arith, omega arith, rw (drop-length c.args.s.now))

-- at most six bytes have been read so far
small : (i n : ℕ) (s : List ℕ) → Bytes s → length s ≤ i + 6 → n ≡ number_of (drop i s) → n < 256 ^ 6
small i n s b h e = rw e (number-below 6 (bytes_drop i b) (simp length-drop (omega arith)))

pub overflow_mul-n : goal.overflow_mul-n
overflow_mul-n c =
    let l = c.loop-i in
    omega (arith, small l.i l.n c.args.s.now (record { at = λ k. (c.type_inv.s k).fits }) (omega arith) l.invariant.2)

pub overflow_add-n : goal.overflow_add-n
overflow_add-n c =
    let l = c.loop-i in
    omega (arith, small l.i l.n c.args.s.now (record { at = λ k. (c.type_inv.s k).fits }) (omega arith) l.invariant.2, c.type_inv.s (l.i - 1))

pub loop-i-preserved : goal.loop-i-preserved
loop-i-preserved c =
    let l = c.loop-i in
    let s = c.args.s.now in
    let e : suc (l.i - 1) ≡ l.i = omega arith in
    (omega arith, omega arith, omega (arith, number-front (l.i - 1) s (omega arith), ap (λ (k : ℕ). number_of (drop k s)) e))

pub returns : goal.returns
returns c = c.loop-i.invariant.2 ∙ number-rest c.loop-i.i c.args.at c.args.s.now (omega arith)
