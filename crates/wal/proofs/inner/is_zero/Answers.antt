use Rattle.std.proofs.Common.{◌≡◌, arith, sym, ap, ◌∙◌, IsTrue, EachIndex, slice_index, ◌↔◌, rules, length, ◌/◌}
use Rattle.wal.specs.Read.{all_zero}
use Rattle.wal.proofs.Zeros.{eight-on, eight-other, tested}
use Rattle.wal.proofs.inner.is_zero.Goals as goal

pub loop-eight-preserved : goal.loop-eight-preserved
loop-eight-preserved c =
    eight-on _ c.by_eights.ensures.front c.loop-eight.eight-index (omega (arith, c.by_eights.ensures.len)) c.u64_at.ensures c.if-u64_at-ne0.false ∙ c.loop-eight.invariant

pub returns-then-u64_at-ne0 : goal.returns-then-u64_at-ne0
returns-then-u64_at-ne0 c =
    sym (eight-other _ c.by_eights.ensures.front c.loop-eight.eight-index (omega (arith, c.by_eights.ensures.len)) c.u64_at.ensures c.if-u64_at-ne0.true) ∙ c.loop-eight.invariant

pub returns : goal.returns
returns c =
    let each : IsTrue c.all.result ↔ EachIndex c.by_eights.result.1.now (λ k. slice_index c.by_eights.result.1.now k ≡ 0) = search rules in
    let at : c.loop-eight.eight-index ≡ length c.args.s.now / 8 = omega (arith, c.by_eights.ensures.len) in
    tested _ _ each ∙ ap all_zero c.by_eights.ensures.back ∙ rw at at c.loop-eight.invariant
