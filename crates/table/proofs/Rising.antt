-- The one walk that puts and tells rows while the numbers of Begins rise.
-- Assumes nothing.
use mathlib.Core.Path.{◌≡◌, refl, sym, ap, ap₂, ◌∙◌, subst}
use mathlib.Core.Bool.{Bool, true, false}
use Prim.Native.Nat.{ℕ, zero, suc, ◌+◌, ◌*◌, ◌/◌, ◌≤◌, ◌<◌}
use native.Mathlib.Numerals.{add-one}
use native.Mathlib.Omega.{arith}
use mathlib.Core.List.{List, [], ◌∷◌, ◌++◌, append_assoc, append-nil, map}
use lib.ListN.{length, get_or, set, take, drop, length-append, length-map, take-append-drop}
use lib.Seq.{length-take-le, take_all, take_at, drop_at, drop-drop, set_at, drop-cons}
use lib.Dec.{ltb}
use borrow.Author.Tests.{eqb-true, eq-eqb, ne_eqb, ltb-true, ltb-false}
use Rattle.endian.specs.Pick.{cons_if}
use Rattle.endian.specs.declared.Lsn.{Lsn}
use Rattle.wal.specs.Entry.{Entry, begin, entry_of}
use Rattle.wal.specs.Read.{length_at}
use Rattle.wal.specs.Walk.{entries, end_of}
use Rattle.wal.specs.Prefix.{said, Met, before, onward}
use Rattle.wal.specs.declared.EntryView.{EntryView}
use Rattle.wal.proofs.Prefix.{view-kind, view-txn, before-first, before-next, before-end, onward-first, onward-next, met-first, met-split}
use Rattle.wal.proofs.Known.{Ahead}
use Rattle.rules.specs.Order.{is_begin, never_full}
use Rattle.rules.proofs.OrderLaws.{Passes, InTurn}
use Rattle.table.specs.Flat.{stride}
use Rattle.table.specs.Rows.{blank, rows, key, Rising}
use Rattle.table.specs.Telling.{Orderly, new_row, fresh, begun_rows, Span, tell, Entered, begins}
use Rattle.table.specs.declared.Row.{Row}
use Rattle.table.proofs.Storing.{rows-length, rows_append, rows_take, rows_drop}
use Rattle.table.proofs.Telling.{told-rising, kept-number, told-changes, tell-begin, entered}
use Rattle.table.proofs.Walking.{lsn-read, front-turn, turn-all, passes_at, entries-few, arrived}
use Rattle.table.proofs.Begins.{plain-begun, plain-told, fresh-plain}
use Rattle.table.proofs.Flattening.{begun-le}
use Rattle.table.proofs.Blocks.{span-all}

-- ---- lists of rows

begun-append : (es fs : List Entry) → begun_rows (es ++ fs) ≡ begun_rows es ++ begun_rows fs
unfolding begun_rows
begun-append [] fs = refl
begun-append (e ∷ es) fs = go (is_begin e) (begun-append es fs)
  where
    go : (b : Bool) → begun_rows (es ++ fs) ≡ begun_rows es ++ begun_rows fs → cons_if b (fresh e) (begun_rows (es ++ fs)) ≡ cons_if b (fresh e) (begun_rows es) ++ begun_rows fs
    go true h = ap (◌∷◌ (fresh e)) h
    go false h = h

map-append : (g : Row → Row) (l m : List Row) → map g (l ++ m) ≡ map g l ++ map g m
map-append g [] m = refl
map-append g (r ∷ l) m = ap (◌∷◌ (g r)) (map-append g l m)

-- a row behind rows
get_d_front : (l : List Row) (r : Row) (i : ℕ) → i < length l → get_or (l ++ (r ∷ [])) i blank ≡ get_or l i blank
get_d_front [] r i h = absurd (omega arith)
get_d_front (x ∷ l) r zero h = refl
get_d_front (x ∷ l) r (suc i) h = get_d_front l r i (omega arith)

get_d-last : (l : List Row) (r : Row) → get_or (l ++ (r ∷ [])) (length l) blank ≡ r
get_d-last [] r = refl
get_d-last (x ∷ l) r = get_d-last l r

snoc-length : (l : List Row) (r : Row) → length (l ++ (r ∷ [])) ≡ suc (length l)
snoc-length [] r = refl
snoc-length (x ∷ l) r = ap suc (snoc-length l r)

module _ (l : List Row) (r : Row) (last : ℕ) (up : Rising 0 l) (tops : (i : ℕ) → i < length l → key 0 (get_or l i blank) ≤ last) (less : last < key 0 r) where
  rising_snoc : Rising 0 (l ++ (r ∷ []))
  rising_snoc = record { at = λ i j p q. go i j p q (ltb j (length l)) refl }
    where
      go : (i j : ℕ) → i < j → j < length (l ++ (r ∷ [])) → (b : Bool) → ltb j (length l) ≡ b → key 0 (get_or (l ++ (r ∷ [])) i blank) < key 0 (get_or (l ++ (r ∷ [])) j blank)
      go i j p q true e =
          let k = ltb-true j (length l) e in
          rw (get_d_front l r i (omega arith), get_d_front l r j k) (up.at i j p k)
      go i j p q false e =
          let z : j ≡ length l = omega (arith, ltb-false j (length l) e, snoc-length l r) in
          let h : i < length l = omega arith in
          rw (z, get_d_front l r i h, get_d-last l r) (omega (arith, tops i h))

  tops-snoc : (i : ℕ) → i < length (l ++ (r ∷ [])) → key 0 (get_or (l ++ (r ∷ [])) i blank) ≤ key 0 r
  tops-snoc i h = go (ltb i (length l)) refl
    where
      go : (b : Bool) → ltb i (length l) ≡ b → key 0 (get_or (l ++ (r ∷ [])) i blank) ≤ key 0 r
      go true e = let k = ltb-true i (length l) e in rw (get_d_front l r i k) (omega (arith, tops i k))
      go false e =
          let z : i ≡ length l = omega (arith, ltb-false i (length l) e, snoc-length l r) in
          rw (z, get_d-last l r) (omega arith)

-- a row put behind n rows of a list
put-behind : (x k : List Row) (n : ℕ) (r : Row) → length x ≡ n → n < length k → set (x ++ drop n k) n r ≡ (x ++ (r ∷ [])) ++ drop (n + 1) k
put-behind x k n r l h = rw (add-one n, drop-cons k n blank h) (set_at x (get_or k n blank) (drop (suc n) k) r n l ∙ sym (append_assoc x (r ∷ []) (drop (suc n) k)))

-- ---- the first n rows of d, which became those of y

module _ (d y : List ℕ) (n : ℕ) (h : n ≤ length d / stride) (l : length y ≡ length (take (stride * n) d)) where
  lent-long : length (take (stride * n) d) ≡ stride * n
  lent-long = length-take-le (stride * n) d (omega arith)

  y-rows : length (rows y) ≡ n
  y-rows = omega (arith, rows-length y, l, lent-long)

  front-back : rows (y ++ drop (stride * n) d) ≡ rows y ++ drop n (rows d)
  front-back = rows_append y (drop (stride * n) d) (omega (arith, l, lent-long)) ∙ ap (λ (x : List Row). rows y ++ x) (rows_drop d n h)

  pub front-entered : {kind t : ℕ} {lsn : Lsn} → Entered (rows (take (stride * n) d)) kind t lsn (rows y) → Entered (take n (rows d)) kind t lsn (take n (rows (y ++ drop (stride * n) d)))
  front-entered {kind} {t} {lsn} e =
      let q : take n (rows (y ++ drop (stride * n) d)) ≡ rows y = ap (take n) front-back ∙ take_at (rows y) (drop n (rows d)) n y-rows in
      subst (λ (x : List Row). Entered x kind t lsn (take n (rows (y ++ drop (stride * n) d)))) (rows_take d n h) (subst (λ (x : List Row). Entered (rows (take (stride * n) d)) kind t lsn x) (sym q) e)

  pub front-left : drop n (rows (y ++ drop (stride * n) d)) ≡ drop n (rows d)
  front-left = ap (drop n) front-back ∙ drop_at (rows y) (drop n (rows d)) n y-rows

-- ---- the walk

-- at a place, the rows r are those of the Begins before it, told by the entries before it, in front of the rows of a
pub record Risen (s a : List ℕ) (r : List Row) (n last at : ℕ) : Type 0 where
  pub met : Met s at
  pub many : length (begun_rows (before s at)) ≡ n
  pub front : r ≡ map (tell (before s at)) (begun_rows (before s at)) ++ drop n (rows a)
  pub up : Rising 0 (begun_rows (before s at))
  pub tops : (i : ℕ) → i < length (begun_rows (before s at)) → key 0 (get_or (begun_rows (before s at)) i blank) ≤ last

pub risen-none : (s a : List ℕ) → Risen s a (rows a) 0 0 32
unfolding begun_rows
risen-none s a = record {
  met = met-first s;
  many = rw (before-first s);
  front = rw (before-first s);
  up = rw (before-first s) (record { at = λ i j p q. absurd (omega arith) });
  tops = rw (before-first s) (λ i h. absurd (omega arith));
}

module _ {s a : List ℕ} {r : List Row} {n last at : ℕ} (f : Risen s a r n last at) where
  abbrev es : List Entry
  es = before s at

  told-long : length (map (tell (before s at)) (begun_rows (before s at))) ≡ n
  told-long = length-map (begun_rows (before s at)) (tell (before s at)) ∙ f.many

  told-front : take n r ≡ map (tell (before s at)) (begun_rows (before s at))
  told-front = ap (take n) f.front ∙ take_at (map (tell (before s at)) (begun_rows (before s at))) (drop n (rows a)) n told-long

  told-behind : drop n r ≡ drop n (rows a)
  told-behind = ap (drop n) f.front ∙ drop_at (map (tell (before s at)) (begun_rows (before s at))) (drop n (rows a)) n told-long

  all-begun : length (begun_rows (entries s)) ≡ n + length (begun_rows (onward s at))
  all-begun = ap (λ x. length (begun_rows x)) (met-split s f.met) ∙ ap length (begun-append (before s at) (onward s at)) ∙ length-append (begun_rows (before s at)) (begun_rows (onward s at)) ∙ ap (λ (m : ℕ). m + length (begun_rows (onward s at))) f.many

  pub risen-fits : {m : ℕ} → length (begun_rows (entries s)) ≤ m → n ≤ m
  risen-fits h = omega (arith, all-begun)

  -- what the rest of the rows are
  pub risen-rest : drop (length (begun_rows (entries s))) r ≡ drop (length (begun_rows (entries s))) (rows a)
  risen-rest =
      let m = length (begun_rows (onward s at)) in
      rw all-begun (sym (drop-drop m n r) ∙ ap (drop m) told-behind ∙ drop-drop m n (rows a))

  -- and at the end all
  pub risen-all : {end : ℕ} → end_of s ≡ end → end ≤ at → r ≡ map (tell (entries s)) (begun_rows (entries s)) ++ drop (length (begun_rows (entries s))) (rows a)
  risen-all e h =
      let z : before s at ≡ entries s = ap (before s) (arrived f.met e h) ∙ before-end s in
      f.front ∙ ap₂ (λ (x : List Entry) (m : ℕ). map (tell x) (begun_rows x) ++ drop m (rows a)) z (sym f.many ∙ ap (λ (x : List Entry). length (begun_rows x)) z)

  -- what entering asks
  pub risen-rising : Rising 0 (take n r)
  risen-rising = rw told-front (told-rising (before s at) 0 (kept-number (before s at)) f.up)

  pub risen-small : (m : ℕ) → at ≤ m → (i : ℕ) → i < length (take n r) → (get_or (take n r) i blank).changes ≤ m
  risen-small m b = subst (λ (x : List Row). (i : ℕ) → i < length x → (get_or x i blank).changes ≤ m) (sym told-front) (λ i h. omega (arith, told-changes (before s at) (begun_rows (before s at)) i h, entries-few f.met))

  pub risen-few : n ≤ at
  risen-few = omega (arith, f.many, begun-le (before s at), entries-few f.met)

  module _ (o : Orderly s) {end : ℕ} {v : EntryView} (k : Ahead s at end v) where
    next : before s (at + v.length) ≡ before s at ++ (said s at ∷ [])
    next = ap (λ (m : ℕ). before s (at + m)) k.long ∙ before-next s f.met k.stands

    turn : InTurn never_full [] (before s at)
    turn = front-turn [] (before s at) (onward s at) (subst (InTurn never_full []) (met-split s f.met) (turn-all s o))

    pass : Passes never_full (before s at) (said s at)
    pass = passes_at o f.met k.stands

    real : (i : ℕ) → i < length (begun_rows (before s at)) → (get_or (begun_rows (before s at)) i blank).number.0 ≡ 0 → ⊥
    real i h = (plain-told never_full [] tt (get_or (begun_rows (before s at)) i blank) (plain-begun never_full [] (before s at) turn i h)).1

    -- the Begins before and after the entry
    begun-next : (b : Bool) → is_begin (said s at) ≡ b → begun_rows (before s (at + v.length)) ≡ begun_rows (before s at) ++ cons_if b (fresh (said s at)) []
    unfolding begun_rows
    begun-next b q = ap begun_rows next ∙ begun-append (before s at) (said s at ∷ []) ∙ ap (λ (w : Bool). begun_rows (before s at) ++ cons_if w (fresh (said s at)) []) q

    pub risen-other : (v.kind ≡ begin → ⊥) → {d : List Row} → Entered (take n r) v.kind v.txn.0 v.lsn (take n d) → drop n d ≡ drop n r → Risen s a d n last (at + v.length)
    risen-other b {d} e q =
        let w : is_begin (said s at) ≡ false = ne_eqb _ _ (λ z. b (view-kind s at k.is ∙ z)) in
        let z : begun_rows (before s (at + v.length)) ≡ begun_rows (before s at) = begun-next false w ∙ append-nil (begun_rows (before s at)) in
        let t : Entered (map (tell (before s at)) (begun_rows (before s at))) (said s at).kind (said s at).txn (record { 0 = (said s at).lsn }) (take n d) = rw (told-front, view-kind s at k.is, view-txn s at k.is, lsn-read s at k.is) at e in
        let g = entered (before s at) (said s at) pass (begun_rows (before s at)) f.up real t in
        record {
          met = k.met;
          many = ap length z ∙ f.many;
          front = sym (take-append-drop n d) ∙ ap₂ (λ (x y : List Row). x ++ y) (g ∙ ap (λ (x : List Entry). map (tell x) (begun_rows (before s at))) (sym next) ∙ ap (map (tell (before s (at + v.length)))) (sym z)) (q ∙ told-behind);
          up = subst (Rising 0) (sym z) f.up;
          tops = subst (λ (l : List Row). (i : ℕ) → i < length l → key 0 (get_or l i blank) ≤ last) (sym z) f.tops;
        }

    module _ (b : v.kind ≡ begin) where
      is-begin : is_begin (said s at) ≡ true
      is-begin = eq-eqb _ _ (sym (view-kind s at k.is) ∙ b)

      grown : begun_rows (before s (at + v.length)) ≡ begun_rows (before s at) ++ (fresh (said s at) ∷ [])
      grown = begun-next true is-begin

      -- there is room for it
      pub risen-room : length (begun_rows (entries s)) ≤ length a / stride → n < length a / stride
      unfolding begun_rows
      risen-room m =
          let l = onward s (at + length_at s at) in
          let e : begun_rows (onward s at) ≡ fresh (said s at) ∷ begun_rows l = ap begun_rows (onward-next s k.stands) ∙ ap (λ (w : Bool). cons_if w (fresh (said s at)) (begun_rows l)) is-begin in
          omega (arith, all-begun, ap length e)

      row_read : new_row v.txn v.lsn ≡ fresh (said s at)
      unfolding entry_of
      row_read = ap (λ (u : EntryView). new_row u.txn u.lsn) k.is

      pub risen-begin : n < length a / stride → last < v.txn.0 → {d : List Row} → d ≡ set r n (new_row v.txn v.lsn) → Risen s a d (n + 1) v.txn.0 (at + v.length)
      unfolding key
      risen-begin m up {d} e =
          let x = map (tell (before s at)) (begun_rows (before s at)) in
          let y = fresh (said s at) in
          let t : last < key 0 y = subst (λ (j : ℕ). last < j) (view-txn s at k.is) up in
          let told : map (tell (before s (at + v.length))) (begun_rows (before s (at + v.length))) ≡ x ++ (y ∷ []) =
          ap₂ (λ (q : List Entry) (l : List Row). map (tell q) l) next grown ∙ map-append (tell (before s at ++ (said s at ∷ []))) (begun_rows (before s at)) (y ∷ [])
          ∙ ap₂ (λ (l : List Row) (j : Row). l ++ (j ∷ [])) (sym (entered (before s at) (said s at) pass (begun_rows (before s at)) f.up real (begins (eqb-true _ _ is-begin) refl)))
          (tell-begin (before s at) (said s at) y (eqb-true _ _ is-begin) ∙ (plain-told never_full (before s at) turn y (fresh-plain never_full (before s at) (said s at) pass (eqb-true _ _ is-begin))).0)
          in
          record {
            met = k.met;
            many = ap length grown ∙ snoc-length (begun_rows (before s at)) y ∙ omega (arith, f.many);
            front = e ∙ ap (set r n) row_read ∙ ap (λ (l : List Row). set l n y) f.front ∙ put-behind x (rows a) n y told-long (omega (arith, rows-length a)) ∙ ap (λ (l : List Row). l ++ drop (n + 1) (rows a)) (sym told);
            up = rw grown (rising_snoc (begun_rows (before s at)) y last f.up f.tops t);
            tops = rw grown (λ i h. rw (view-txn s at k.is) (tops-snoc (begun_rows (before s at)) y last f.up f.tops t i h));
          }

-- ---- all rows by blocks, where they did not rise

pub rows_all : {s : List ℕ} {n next limit : ℕ} (d e : List Row) {b : List Row} → Span s 32 limit n next → length (begun_rows (entries s)) ≤ limit
    → drop (length (begun_rows (entries s))) d ≡ drop (length (begun_rows (entries s))) e → b ≡ map (tell (entries s)) (take n (begun_rows (onward s 32))) ++ drop n d
    → b ≡ map (tell (entries s)) (begun_rows (entries s)) ++ drop (length (begun_rows (entries s))) e
rows_all {s} {n} d e p h q w =
    let z : begun_rows (onward s 32) ≡ begun_rows (entries s) = ap begun_rows (onward-first s) in
    let m : n ≡ length (begun_rows (entries s)) = span-all p (omega (arith, ap length z)) ∙ ap length z in
    w ∙ ap₂ (λ (l : List Row) (k : ℕ). map (tell (entries s)) (take n l) ++ drop k d) z m
    ∙ ap₂ (λ (l k : List Row). map (tell (entries s)) l ++ k) (take_all n (begun_rows (entries s)) (omega arith)) q
