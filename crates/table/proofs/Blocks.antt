-- The rows of a block in front of a slice: what is lent of it, and what comes back.
-- Assumes nothing.
use mathlib.Core.Path.{◌≡◌, refl, sym, ap, ap₂, ◌∙◌}
use mathlib.Core.Bool.{Bool, true, false}
use Prim.Native.Nat.{ℕ, ◌+◌, ◌*◌, ◌/◌, ◌≤◌}
use native.Mathlib.Omega.{arith}
use mathlib.Core.List.{List, ◌++◌, map}
use lib.ListN.{length, take, drop, length-append}
use lib.Seq.{length-take-le, take_all, take_at, drop_at}
use lib.Dec.{ltb}
use borrow.Author.Tests.{ltb-true, ltb-false}
use Rattle.wal.specs.Walk.{entries}
use Rattle.wal.specs.Prefix.{Met, before, onward}
use Rattle.wal.proofs.Prefix.{met-split, met-end, before-end, met-small}
use Rattle.rules.specs.Order.{count, is_begin}
use Rattle.table.specs.Flat.{stride, flat_after}
use Rattle.table.specs.Rows.{rows}
use Rattle.table.specs.Telling.{begun_rows, Span, tell}
use Rattle.table.specs.declared.Row.{Row}
use Rattle.table.proofs.Storing.{rows_append, rows_take, rows_drop}
use Rattle.table.proofs.Walking.{entries-few}
use Rattle.table.proofs.Flattening.{begun-length, begun-le, flat-filled}

-- there are no more Begins than bytes
pub begun-few : {s : List ℕ} {p : ℕ} → Met s p → length (begun_rows (onward s p)) ≤ 32 + length s
begun-few {s} {p} m =
    omega (arith, begun-le (onward s p), ap length (met-split s m), length-append (before s p) (onward s p), ap length (before-end s), entries-few (met-end s), met-small s (met-end s))

-- n of the rows l, in front of those of r
module _ (l r : List Row) (d : List ℕ) (n : ℕ) (many : n ≤ length l) (room : n ≤ length d / stride) (q : rows d ≡ take n l ++ drop n r) where
  n-long : length (take n l) ≡ n
  n-long = length-take-le n l many

  pub lent-count : length (take (stride * n) d) ≡ stride * n
  lent-count = length-take-le (stride * n) d (omega arith)

  lent_is : rows (take (stride * n) d) ≡ take n l
  lent_is = rows_take d n room ∙ ap (take n) q ∙ take_at (take n l) (drop n r) n n-long

  pub lent_rows : rows (take (stride * n) d) ≡ take (length (take (stride * n) d) / stride) l
  lent_rows = let e : length (take (stride * n) d) / stride ≡ n = omega (arith, lent-count) in lent_is ∙ ap (λ (k : ℕ). take k l) (sym e)

  pub came-back : (g : Row → Row) (y : List ℕ) → length y ≡ length (take (stride * n) d) → rows y ≡ map g (rows (take (stride * n) d)) → rows (y ++ drop (stride * n) d) ≡ map g (take n l) ++ drop n r
  came-back g y h e =
      rows_append y (drop (stride * n) d) (omega (arith, lent-count))
      ∙ ap₂ (λ (a b : List Row). a ++ b) (e ∙ ap (map g) lent_is) (rows_drop d n room ∙ ap (drop n) q ∙ drop_at (take n l) (drop n r) n n-long)

-- all Begins are taken where they fit
pub span-all : {s : List ℕ} {from limit n next : ℕ} → Span s from limit n next → length (begun_rows (onward s from)) ≤ limit → n ≡ length (begun_rows (onward s from))
span-all {s} {from} {limit} {n} p h = go (ltb n limit) refl
  where
    go : (b : Bool) → ltb n limit ≡ b → n ≡ length (begun_rows (onward s from))
    go true e = p.all (ltb-true n limit e)
    go false e = omega (arith, p.many, ltb-false n limit e)

-- the whole table, of which the full rows were lent
pub flat-table : (s table b : List ℕ) → count is_begin (entries s) ≤ length table / stride → length b ≡ length (take (stride * (length table / stride)) table)
    → rows b ≡ map (tell (entries s)) (begun_rows (entries s)) ++ drop (length (begun_rows (entries s))) (rows (take (stride * (length table / stride)) table))
    → b ++ drop (stride * (length table / stride)) table ≡ flat_after (entries s) table
flat-table s table b h l q =
    let all = begun_rows (entries s) in
    let k = length-take-le (stride * (length table / stride)) table (omega arith) in
    let c = begun-length (entries s) in
    flat-filled (entries s) table b (length all) l refl (omega arith)
    (q ∙ ap (λ (x : List Row). map (tell (entries s)) x ++ drop (length all) (rows (take (stride * (length table / stride)) table))) (sym (take_all (length all) all (omega arith))))
