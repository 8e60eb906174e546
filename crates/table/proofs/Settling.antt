-- The rows of Begins, sorted, told by all entries and sorted back.
-- Assumes nothing.
use mathlib.Core.Path.{◌≡◌, refl, sym, ap, ◌∙◌, subst}
use mathlib.Core.Bool.{true}
use Prim.Native.Nat.{ℕ, ◌≤◌, ◌<◌}
use native.Mathlib.Omega.{arith}
use mathlib.Core.List.{List, [], ◌∷◌, map}
use lib.ListN.{length, get_or, take, length-take}
use lib.Seq.{get_or-take}
use lib.Dec.{eqb}
use Rattle.wal.specs.Walk.{entries}
use Rattle.wal.specs.Prefix.{Met, before, onward}
use Rattle.wal.proofs.Prefix.{met-split}
use Rattle.rules.specs.Order.{never_full}
use Rattle.rules.proofs.OrderLaws.{InTurn}
use Rattle.table.specs.Rows.{blank, passing, Same, key, Sorted, Rising, Arranged}
use Rattle.table.specs.Telling.{Orderly, begun_rows, tell, Untold}
use Rattle.table.specs.declared.Row.{Row}
use Rattle.table.proofs.Orders.{same-trans}
use Rattle.table.proofs.Permuting.{passing-take, all_same, same_map, sorted-rising, rising-take, rising-same}
use Rattle.table.proofs.Telling.{map_same, kept-lsn, told-rising}
use Rattle.table.proofs.Walking.{turn-all, turn_at, front-turn}
use Rattle.table.proofs.Begins.{once, lsns-rise, plain, plain-begun, plain-told}

map-id : (l : List Row) → map (λ (r : Row). r) l ≡ l
map-id [] = refl
map-id (r ∷ l) = ap (◌∷◌ r) (map-id l)

-- rows that are in order stay
pub arranged-self : {c : ℕ} {l : List Row} → Sorted c l → Arranged c l l
arranged-self h = record { same = record { at = λ f. refl }; sorted = h }

module _ {s : List ℕ} {from : ℕ} (o : Orderly s) (m : Met s from) (n : ℕ) (l : List Row) (q : l ≡ take n (begun_rows (onward s from))) where
  by-lsn : Rising 1 l
  by-lsn = rw q (rising-take n (lsns-rise never_full (before s from) (onward s from) (turn_at o m)))

  number-once : (t : ℕ) → passing (λ r. eqb (key 0 r) t) l ≤ 1
  number-once t =
      rw q (omega (arith, passing-take (λ r. eqb (key 0 r) t) n (begun_rows (onward s from)), once never_full (before s from) (onward s from) (turn_at o m) t))

  all_plain : (i : ℕ) → i < length l → plain never_full (before s from) (get_or l i blank) ≡ true
  all_plain = subst (λ (x : List Row). (i : ℕ) → i < length x → plain never_full (before s from) (get_or x i blank) ≡ true) (sym q) go
    where
      go : (i : ℕ) → i < length (take n (begun_rows (onward s from))) → plain never_full (before s from) (get_or (take n (begun_rows (onward s from))) i blank) ≡ true
      go i h =
          let a : (i < n) × (i < length (begun_rows (onward s from))) = omega (arith, length-take n (begun_rows (onward s from))) in
          ap (plain never_full (before s from)) (get_or-take n (begun_rows (onward s from)) i blank a.0) ∙ plain-begun never_full (before s from) (onward s from) (turn_at o m) i a.1

  module _ {k : List Row} (a : Arranged 0 l k) where
    told : (i : ℕ) → i < length k → (tell (before s from) (get_or k i blank) ≡ get_or k i blank) × ((get_or k i blank).number.0 ≡ 0 → ⊥)
    told i h =
        plain-told never_full (before s from) (front-turn [] (before s from) (onward s from) (subst (InTurn never_full []) (met-split s m) (turn-all s o))) (get_or k i blank)
        (all_same a.same (plain never_full (before s from)) all_plain i h)

    -- the rows by number can be told
    pub untold : Untold s from k
    untold = record {
      rising = sorted-rising a.sorted (λ t. omega (arith, a.same.at (λ r. eqb (key 0 r) t), number-once t));
      real = λ i h. (told i h).1;
      same = map_same (tell (before s from)) (λ r. r) k (λ i h. (told i h).0) ∙ map-id k;
    }

    -- and sorted by LSN they stand as they stood
    pub settled : {d e : List Row} → d ≡ map (tell (entries s)) k → Arranged 1 d e → e ≡ map (tell (entries s)) l
    settled {d} {e} p b =
        sym (rising-same (told-rising (entries s) 1 (kept-lsn (entries s)) by-lsn) b.sorted (same-trans (same_map (tell (entries s)) a.same) (subst (λ (x : List Row). Same x e) p b.same)))
