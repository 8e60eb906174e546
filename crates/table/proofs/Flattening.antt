-- Rows as the numbers of a table: those of Begins, told by all entries, are the records of the entries.
-- Assumes nothing.
use mathlib.Core.Path.{◌≡◌, refl, sym, ap, ap₂, ◌∙◌}
use mathlib.Core.Bool.{Bool, true, false}
use Prim.Native.Nat.{ℕ, zero, suc, ◌+◌, ◌*◌, ◌/◌, ◌≤◌}
use native.Mathlib.Omega.{arith}
use mathlib.Core.List.{List, [], ◌∷◌, ◌++◌, append_assoc, map}
use lib.ListN.{length, take, drop, length-append, length-drop, length-map, take-append-drop}
use lib.Seq.{length-take-le, take_all, drop-append-le, ext_get_or}
use Rattle.endian.specs.Pick.{cons_if}
use Rattle.wal.specs.Entry.{Entry}
use Rattle.rules.specs.Order.{one, count, is_begin}
use Rattle.rules.specs.Recover.{record_of, records_of}
use Rattle.rules.specs.declared.Record.{Record}
use Rattle.table.specs.Flat.{stride, six, flat, flat_after}
use Rattle.table.specs.Rows.{cells, row_of, row_for, rows_in, rows, Full, key}
use Rattle.table.specs.Telling.{fresh, begun_rows, tell}
use Rattle.table.specs.declared.Row.{Row}
use Rattle.table.proofs.Storing.{key_of, rows_drop}

-- ---- the numbers of rows

joined : List Row → List ℕ
joined [] = []
joined (r ∷ l) = cells r ++ joined l

joined-append : (l m : List Row) → joined (l ++ m) ≡ joined l ++ joined m
unfolding joined
joined-append [] m = refl
joined-append (r ∷ l) m = rw (joined-append l m) (sym (append_assoc (cells r) (joined l) (joined m)))

cells_of : (l : List ℕ) → length l ≡ stride → cells (row_of l) ≡ l
unfolding key
cells_of l h = ext_get_or 0 (cells (row_of l)) l (sym h) (λ c b. key_of l c b)

joined_in : (n : ℕ) (d : List ℕ) → length d ≡ stride * n → joined (rows_in n d) ≡ d
unfolding rows_in joined
joined_in zero [] h = refl
joined_in zero (x ∷ d) h = absurd (omega arith)
joined_in (suc n) d h =
    ap₂ (λ (x y : List ℕ). x ++ y) (cells_of (take stride d) (length-take-le stride d (omega arith))) (joined_in n (drop stride d) (omega (arith, length-drop stride d))) ∙ take-append-drop stride d

joined-rows : (d : List ℕ) → Full d → joined (rows d) ≡ d
unfolding rows
joined-rows d h = joined_in (length d / stride) d h

joined-behind : (d : List ℕ) (n : ℕ) → Full d → n ≤ length d / stride → joined (drop n (rows d)) ≡ drop (stride * n) d
joined-behind d n f h = ap joined (sym (rows_drop d n h)) ∙ joined-rows (drop (stride * n) d) (omega (arith, length-drop (stride * n) d))

-- ---- rows of Begins

pub begun-length : (es : List Entry) → length (begun_rows es) ≡ count is_begin es
unfolding begun_rows
begun-length [] = refl
begun-length (e ∷ es) = go (is_begin e) (begun-length es)
  where
    go : (b : Bool) → length (begun_rows es) ≡ count is_begin es → length (cons_if b (fresh e) (begun_rows es)) ≡ one b + count is_begin es
    go true h = omega arith
    go false h = omega arith

pub begun-le : (es : List Entry) → length (begun_rows es) ≤ length es
unfolding begun_rows
begun-le [] = omega arith
begun-le (e ∷ es) = go (is_begin e) (begun-le es)
  where
    go : (b : Bool) → length (begun_rows es) ≤ length es → length (cons_if b (fresh e) (begun_rows es)) ≤ suc (length es)
    go true h = omega arith
    go false h = omega arith

-- told by all entries they are the rows of the records
pub told-records : (all es : List Entry) → map (tell all) (begun_rows es) ≡ map row_for (records_of all es)
unfolding begun_rows records_of record_of tell
told-records all [] = refl
told-records all (e ∷ es) = go (is_begin e) (told-records all es)
  where
    go : (b : Bool) → map (tell all) (begun_rows es) ≡ map row_for (records_of all es) → map (tell all) (cons_if b (fresh e) (begun_rows es)) ≡ map row_for (cons_if b (record_of all e) (records_of all es))
    go true h = rw h
    go false h = h

pub records-many : (all es : List Entry) → length (records_of all es) ≡ length (begun_rows es)
records-many all es = sym (length-map (records_of all es) row_for) ∙ ap length (sym (told-records all es)) ∙ length-map (begun_rows es) (tell all)

pub length-records : (all es : List Entry) → length (records_of all es) ≡ count is_begin es
length-records all es = records-many all es ∙ begun-length es

joined-records : (rs : List Record) → joined (map row_for rs) ≡ flat rs
unfolding joined flat
joined-records [] = refl
joined-records (r ∷ rs) = rw (joined-records rs)

pub flat_append : (rs qs : List Record) → flat (rs ++ qs) ≡ flat rs ++ flat qs
unfolding flat
flat_append [] qs = refl
flat_append (r ∷ rs) qs = rw (flat_append rs qs)

pub length-flat : (rs : List Record) → length (flat rs) ≡ stride * length rs
unfolding flat
length-flat [] = refl
length-flat (r ∷ rs) = omega (arith, length-append (six r) (flat rs), length-flat rs)

-- the table b, of which the rows in front are those of all entries and the others stayed
filled : (es : List Entry) (a b : List ℕ) (n : ℕ) → Full a → length b ≡ length a → n ≡ length (begun_rows es) → n ≤ length a / stride
    → rows b ≡ map (tell es) (take n (begun_rows es)) ++ drop n (rows a) → b ≡ flat (records_of es es) ++ drop (stride * n) a
filled es a b n f l e h q =
    sym (joined-rows b (omega arith))
    ∙ ap joined q
    ∙ joined-append (map (tell es) (take n (begun_rows es))) (drop n (rows a))
    ∙ ap₂ (λ (x y : List ℕ). x ++ y)
    (ap (λ (x : List Row). joined (map (tell es) x)) (take_all n (begun_rows es) (omega arith)) ∙ ap joined (told-records es es) ∙ joined-records (records_of es es))
    (joined-behind a n f h)

-- the same in the front of a table
pub flat-filled : (es : List Entry) (table b : List ℕ) (n : ℕ) → length b ≡ length (take (stride * (length table / stride)) table) → n ≡ length (begun_rows es) → n ≤ length (take (stride * (length table / stride)) table) / stride
    → rows b ≡ map (tell es) (take n (begun_rows es)) ++ drop n (rows (take (stride * (length table / stride)) table))
    → b ++ drop (stride * (length table / stride)) table ≡ flat_after es table
unfolding flat_after
flat-filled es table b n l e h q =
    let cut = stride * (length table / stride) in
    let k : length (take cut table) ≡ cut = length-take-le cut table (omega arith) in
    let w = filled es (take cut table) b n (omega arith) l e h q in
    let z : length (flat (records_of es es)) ≡ stride * n = length-flat (records_of es es) ∙ omega (arith, records-many es es) in
    rw (w, z)
    (append_assoc (flat (records_of es es)) (drop (stride * n) (take cut table)) (drop cut table)
    ∙ ap (λ (x : List ℕ). flat (records_of es es) ++ x) (sym (drop-append-le (stride * n) (take cut table) (drop cut table) (omega arith)) ∙ ap (drop (stride * n)) (take-append-drop cut table)))
