-- The verdict on the order rules by first places: 5, 6, 7 and 10 by a fold; 8 by Begins, then by endings; 9 by the newest change on each slot. Each search goes no further
-- than the best fault so far.
-- Assumes nothing.
use mathlib.Core.Path.{◌≡◌}
use mathlib.Core.Bool.{Bool, false}
use Prim.Native.Nat.{ℕ, ◌+◌}
use native.Mathlib.Omega.{arith}
use mathlib.Core.List.{List, []}
use Rattle.wal.specs.Entry.{Entry, sizes_of}
use Rattle.refusals.specs.declared.Verdict.{Verdict}
use Rattle.rules.specs.Order.{order_from}
use Rattle.firsts.specs.First.{FirstOf}
use Rattle.firsts.specs.Judge.{verdict_from, stop_for, narrowed, own, plain_fault}
use Rattle.firsts.specs.Tests.{begin_right, end_right}
use Rattle.firsts.specs.Clash.{slots_on, ClashIn, everywhere}
use Rattle.firsts.proofs.OrderVerdict.{plain-judged, order-next, clash-next}
use Rattle.firsts.proofs.Orders.{order-first}
use Rattle.firsts.proofs.Clashes.{clash-first}

pub order-by-firsts : (full : ℕ → Bool) (es : List Entry) (at : ℕ) (v : Verdict) → v ≡ verdict_from (plain_fault full) [] es at
    → (b r c : ℕ) → FirstOf (λ xs e. begin_right xs e ≡ false) es at (stop_for own (at + sizes_of es) 8 v) b
    → FirstOf (λ xs e. end_right xs e ≡ false) es at b r
    → FirstOf (ClashIn slots_on everywhere) es at (stop_for own (at + sizes_of es) 9 (narrowed own (at + sizes_of es) 8 r v)) c
    → order_from full [] es at ≡ narrowed own (at + sizes_of es) 9 c (narrowed own (at + sizes_of es) 8 r v)
order-by-firsts full es at v z b r c begins ends clashes =
    clash-next full (order-next full (rw z (plain-judged full es at)) (omega arith) (order-first begins ends)) (omega arith) (clash-first clashes)
