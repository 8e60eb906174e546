-- The walk that puts a row for each Begin.
-- Assumes nothing.
use mathlib.Core.Path.{◌≡◌, refl, sym, ap, ◌∙◌}
use mathlib.Core.Bool.{Bool, true, false}
use Prim.Native.Nat.{ℕ, suc, ◌+◌, ◌/◌, ◌≤◌, ◌<◌}
use native.Mathlib.Numerals.{add-one}
use native.Mathlib.Omega.{arith}
use mathlib.Core.List.{List, [], ◌∷◌, ◌++◌}
use lib.ListN.{length, get_or, set, take, drop, length-drop}
use lib.Seq.{length-take-le, take-suc, drop-cons, append_snoc, set_at}
use lib.Dec.{ltb}
use borrow.Author.Tests.{eq-eqb, ne_eqb, ltb-true, ltb-false}
use Rattle.wal.specs.Entry.{begin, entry_of}
use Rattle.wal.specs.Walk.{end_of}
use Rattle.wal.specs.Prefix.{entry_in, said, Met, onward}
use Rattle.wal.specs.declared.EntryView.{EntryView}
use Rattle.wal.proofs.Prefix.{view-kind, onward-next, onward-end}
use Rattle.wal.proofs.Known.{Ahead}
use Rattle.rules.specs.Order.{is_begin}
use Rattle.table.specs.Flat.{stride}
use Rattle.table.specs.Rows.{blank, rows}
use Rattle.table.specs.Telling.{fresh, begun_rows, Span}
use Rattle.table.specs.declared.Row.{Row}
use Rattle.table.proofs.Storing.{rows-length}
use Rattle.table.proofs.Walking.{arrived}

-- the rows r are those of a, behind n rows for the Begins from `from` up to `at`
pub record Filled (s : List ℕ) (from : ℕ) (a : List ℕ) (r : List Row) (n at : ℕ) : Type 0 where
  pub met : Met s at
  pub low : from ≤ at
  pub started : at ≡ from → n ≡ 0
  pub room : n ≤ length a / stride
  pub many : n ≤ length (begun_rows (onward s from))
  pub rest : begun_rows (onward s at) ≡ drop n (begun_rows (onward s from))
  pub front : r ≡ take n (begun_rows (onward s from)) ++ drop n (rows a)

pub filled_none : {s : List ℕ} {from : ℕ} (a : List ℕ) → Met s from → Filled s from a (rows a) 0 from
filled_none a m = record { met = m; low = omega arith; started = λ e. refl; room = omega arith; many = omega arith; rest = refl; front = refl }

-- the entry that was read, as it was read
row_read : (s : List ℕ) (p : ℕ) {v : EntryView} → v ≡ entry_in s p → ◌≡◌ {A = Row} (record { number = v.txn; first = v.lsn; outcome = 0; changes = 0; ending = record { 0 = 0 }; last = record { 0 = 0 } }) (fresh (said s p))
unfolding entry_of
row_read s p e = ap (λ (u : EntryView). record { number = u.txn; first = u.lsn; outcome = 0; changes = 0; ending = record { 0 = 0 }; last = record { 0 = 0 } }) e

-- n of the rows l, and the next one
next_row : (l : List Row) (n : ℕ) (r : Row) (rs : List Row) → r ∷ rs ≡ drop n l → (n < length l) × (get_or l n blank ≡ r) × (drop (suc n) l ≡ rs)
next_row l n r rs e =
    let h : n < length l = omega (arith, ap length e, length-drop n l) in
    let q = e ∙ drop-cons l n blank h in
    (h, sym (ap (λ (x : List Row). get_or x 0 blank) q), sym (ap (λ (x : List Row). drop 1 x) q))

put_next : (l k : List Row) (n : ℕ) (r : Row) (rs : List Row) → r ∷ rs ≡ drop n l → n < length k → set (take n l ++ drop n k) n r ≡ take (n + 1) l ++ drop (n + 1) k
put_next l k n r rs e h =
    let w = next_row l n r rs e in
    rw (add-one n, drop-cons k n blank h, take-suc l n blank w.0, w.1)
    (set_at (take n l) (get_or k n blank) (drop (suc n) k) r n (length-take-le n l (omega (arith, w.0))) ∙ sym (append_snoc (take n l) r (drop (suc n) k)))

module _ {s : List ℕ} {from : ℕ} {a : List ℕ} {r : List Row} {n at : ℕ} (f : Filled s from a r n at) where
  -- the walk is at its end
  pub filled-end : {end : ℕ} → end_of s ≡ end → end ≤ at → Span s from (length a / stride) n at
  unfolding begun_rows
  filled-end q h =
      let p = arrived f.met q h in
      let z : [] ≡ drop n (begun_rows (onward s from)) = rw (p, onward-end s) at f.rest in
      record {
        room = f.room;
        many = f.many;
        rest = f.rest;
        met = f.met;
        all = λ l. omega (arith, ap length z, length-drop n (begun_rows (onward s from)), f.many);
        on = λ l m. omega arith;
      }

  module _ {end : ℕ} {v : EntryView} (k : Ahead s at end v) where
    behind : onward s at ≡ said s at ∷ onward s (at + v.length)
    behind = onward-next s k.stands ∙ ap (λ (m : ℕ). said s at ∷ onward s (at + m)) (sym k.long)

    pub filled-other : (v.kind ≡ begin → ⊥) → Filled s from a r n (at + v.length)
    unfolding begun_rows
    filled-other b =
        let w : is_begin (said s at) ≡ false = ne_eqb _ _ (λ z. b (view-kind s at k.is ∙ z)) in
        let e : begun_rows (onward s at) ≡ begun_rows (onward s (at + v.length)) = rw (behind, w) in
        record { met = k.met; low = omega (arith, f.low); started = λ z. absurd (omega (arith, f.low, k.low)); room = f.room; many = f.many; rest = sym e ∙ f.rest; front = f.front }

    module _ (b : v.kind ≡ begin) where
      first-row : fresh (said s at) ∷ begun_rows (onward s (at + v.length)) ≡ drop n (begun_rows (onward s from))
      unfolding begun_rows
      first-row =
          let w : is_begin (said s at) ≡ true = eq-eqb _ _ (sym (view-kind s at k.is) ∙ b) in
          let e : begun_rows (onward s at) ≡ fresh (said s at) ∷ begun_rows (onward s (at + v.length)) = rw (behind, w) in
          sym e ∙ f.rest

      -- there is no more room
      pub filled-full : n ≡ length a / stride → Span s from (length a / stride) n at
      filled-full full =
          let w = next_row (begun_rows (onward s from)) n (fresh (said s at)) (begun_rows (onward s (at + v.length))) first-row in
          record {
            room = f.room;
            many = f.many;
            rest = f.rest;
            met = f.met;
            all = λ l. absurd (omega arith);
            on = λ l m. later (ltb from at) refl m;
          }
        where
          later : (t : Bool) → ltb from at ≡ t → 0 < length a / stride → from < at
          later true q m = ltb-true from at q
          later false q m = absurd (omega (arith, f.started (omega (arith, f.low, ltb-false from at q))))

      -- a row more
      pub filled-begin : n < length a / stride → {t : List Row} → t ≡ set r n (record { number = v.txn; first = v.lsn; outcome = 0; changes = 0; ending = record { 0 = 0 }; last = record { 0 = 0 } }) → Filled s from a t (n + 1) (at + v.length)
      filled-begin h {t} e =
          let w = next_row (begun_rows (onward s from)) n (fresh (said s at)) (begun_rows (onward s (at + v.length))) first-row in
          record {
            met = k.met;
            low = omega (arith, f.low);
            started = λ z. absurd (omega (arith, f.low, k.low));
            room = omega arith;
            many = omega (arith, w.0);
            rest = rw (add-one n) (sym w.2);
            front = e ∙ ap (set r n) (row_read s at k.is) ∙ ap (λ (x : List Row). set x n (fresh (said s at))) f.front
                ∙ put_next (begun_rows (onward s from)) (rows a) n (fresh (said s at)) (begun_rows (onward s (at + v.length))) first-row (omega (arith, rows-length a));
          }
