use Rattle.std.proofs.Common.{◌≡◌, ℕ, List, [], ◌∷◌, ◌++◌, ◌+◌, ◌*◌, arith, refl, sym, ap, ap₂, ◌∙◌, length, take, drop, length-append}
use Rattle.std.proofs.Math.Seq.{take-append_seam, drop-append_seam, drop-drop}
use Rattle.std.proofs.Math.Nat.{div-zero, zero-mul}
use native.Mathlib.Numerals.{add-one}
use lib.Bits.{bit_xor}
use Rattle.std.specs.Slice.Iter.{chunks_exact_rest, chunks_exact_size}
use Rattle.crc32c.specs.Crc.{crc32c}
use Rattle.timed.specs.Pieces.{mixed}
use Rattle.timed.proofs.timed_crc32c.Goals as goal

-- a turn takes the piece p, which stands before r, and leaves r
module _ (k n : ℕ) (s p r : List ℕ) (e : p ++ r ≡ drop (k * n) s) (l : length p ≡ n) where
  left : r ≡ drop ((k + 1) * n) s
  left =
      let c : k * n + n ≡ (k + 1) * n = grind arith in
      sym (drop-append_seam p r) ∙ ap₂ (λ (m : ℕ) (t : List ℕ). drop m t) l e ∙ drop-drop n (k * n) s ∙ ap (λ (m : ℕ). drop m s) c

  more : (x y : ℕ) → x ≡ mixed k n s → y ≡ crc32c p → bit_xor x y ≡ mixed (k + 1) n s
  unfolding mixed
  more x y ex ey =
      let c : p ≡ take n (drop (k * n) s) = sym (take-append_seam p r) ∙ ap₂ (λ (m : ℕ) (t : List ℕ). take m t) l e in
      ap₂ bit_xor ex (ey ∙ ap crc32c c) ∙ ap (λ (m : ℕ). mixed m n s) (sym (add-one k))

pub returns-then-n-eq0 : goal.returns-then-n-eq0
unfolding mixed
returns-then-n-eq0 c = rw (c.if-n-eq0.true, div-zero)

pub loop-piece-init : goal.loop-piece-init
unfolding mixed
loop-piece-init c =
    let e = c.into_iter-piece-iterator.ensures.into_iter_gives in
    let i = c.chunks_exact-piece-items.ensures in (
      ap chunks_exact_size e ∙ i.size,
      ap chunks_exact_rest e ∙ i.rest ∙ ap (λ (m : ℕ). drop m c.args.s.now) (sym (zero-mul c.args.n)),
      refl,
    )

pub loop-piece-preserved : goal.loop-piece-preserved
loop-piece-preserved c =
    let l = c.loop-piece in
    let k = length l.yielded in
    let g = c.in-Some.ensures.steps in
    let e : c.in-Some.piece.now ++ _ ≡ drop (k * c.args.n) c.args.s.now = sym g.1.0 ∙ l.invariant.1 in
    let z : length (l.yielded ++ c.in-Some.piece ∷ []) ≡ k + 1 = length-append l.yielded (c.in-Some.piece ∷ []) in (
      g.0 ∙ l.invariant.0,
      left k c.args.n c.args.s.now c.in-Some.piece.now _ e (g.1.1 ∙ l.invariant.0) ∙ ap (λ (m : ℕ). drop (m * c.args.n) c.args.s.now) (sym z),
      more k c.args.n c.args.s.now c.in-Some.piece.now _ e (g.1.1 ∙ l.invariant.0) l.x _ l.invariant.2 c.crc32c-x.ensures ∙ ap (λ (m : ℕ). mixed m c.args.n c.args.s.now) (sym z),
    )
