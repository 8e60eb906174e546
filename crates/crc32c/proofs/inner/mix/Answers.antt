use Rattle.std.proofs.Common.{◌≡◌, ◌+◌, ◌-◌, ◌∙◌, ℕ, arith, refl, ap₂, length, slice_index_or, take, drop, replicate}
use Rattle.std.proofs.Math.Seq.{paste}
use Rattle.crc32c.specs.Sparse.{buffer_bytes, ending_bytes, history_bytes, pull, Room}
use Rattle.crc32c.proofs.Runs.{part_length}
use Rattle.crc32c.proofs.Sparse.{mixed}
use Rattle.crc32c.proofs.Stores.{below_more, room-set, byte-xor, pull-lt, room-paste, history_at, zeros_behind}
use Rattle.crc32c.proofs.inner.mix.Goals as goal

pub loop-j-init : goal.loop-j-init
loop-j-init c =
    let p = c.args.p.now in
    let n = c.args.n in
    let s : n + history_bytes - n ≡ history_bytes = omega arith in
    let l : length (take (n + history_bytes - n) (drop n p)) ≡ history_bytes = part_length p n (n + history_bytes - n) (omega (arith, c.told-p)) ∙ s in
    let e : c.copy_in.new.dst ≡ paste (replicate 736 0) 0 (take history_bytes (drop n p)) history_bytes =
    c.copy_in.ensures ∙ ap₂ (λ (a b : ℕ). paste (replicate 736 0) 0 (take a (drop n p)) b) s l in
    let k : Room buffer_bytes p = record { size = c.told-p; bytes = record { at = c.fits-p } } in (
      record { size = c.told-o; bytes = record { at = c.fits-o } },
      room-paste n k e,
      history_at p _ n c.requires.0 c.told-p e,
      zeros_behind p _ n c.requires.0 c.told-p e,
      λ m b. absurd (omega arith),
    )

pub loop-j-preserved : goal.loop-j-preserved
unfolding pull
loop-j-preserved c =
    let l = c.loop-j in
    let r = l.invariant.0 in
    let z : length l.o ≡ ending_bytes = r.size in (
      room-set l.j _ (byte-xor (c.type_inv.s l.j).fits (pull-lt 2 (λ i. slice_index_or _ i 0) l.j (λ i. l.invariant.1.at i))) r,
      l.invariant.1,
      l.invariant.2,
      l.invariant.3,
      below_more l.o _ l.j _ (omega arith) refl l.invariant.4,
    )

pub returns-clause-o_after : goal.returns-clause-o_after
returns-clause-o_after c =
    let l = c.loop-j in
    mixed _ _ _ l.o c.args.n (record { size = c.told-p; bytes = record { at = c.fits-p } }) c.requires.0 c.requires.1 l.invariant.0.size l.invariant.2 l.invariant.3 (λ m b. l.invariant.4 m (omega arith))
