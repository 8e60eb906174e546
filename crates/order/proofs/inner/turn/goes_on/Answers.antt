-- A transaction that is kept is open; after its ending it is kept no longer.
use Rattle.std.proofs.Common.{arith, sym, ap, ◌∙◌, ℕ, eqb, refl}
use Rattle.wal.specs.Entry.{commit, rollback}
use Rattle.rules.specs.Shape.{either}
use Rattle.order.proofs.Turnings.{turning-on, turning-end}
use Rattle.order.proofs.inner.turn.goes_on.Goals as goal

pub offset_bounds-opens-r : goal.offset_bounds-opens-r
offset_bounds-opens-r c = omega (arith, (c.in-Some.ensures c.in-Some.r refl).0)

pub bounds-opens-r : goal.bounds-opens-r
bounds-opens-r c = (c.in-Some.ensures c.in-Some.r refl).0

pub returns-then-is_end : goal.returns-then-is_end
returns-then-is_end c =
    let p = c.requires in
    let e = p.v_value in
    let o = c.in-Some.ensures c.in-Some.r refl in
    let k = e.0 in
    λ z. turning-end p.turning p.stands _ _ e.1 e.4 (λ q. e.3 (k ∙ q)) (λ q. e.2 (k ∙ q)) o.1 o.2 o.0

pub returns-else-is_end : goal.returns-else-is_end
returns-else-is_end c =
    let p = c.requires in
    let e = p.v_value in
    let o = c.in-Some.ensures c.in-Some.r refl in
    let k = e.0 in
    λ z. turning-on p.turning p.stands _ _ e.1 e.4 (λ q. e.3 (k ∙ q)) (λ q. e.2 (k ∙ q)) o.1 o.2
    (ap (λ (x : ℕ). either (eqb x commit) (eqb x rollback)) (sym k) ∙ sym c.is_end.ensures ∙ c.if-is_end.false)
