-- The bytes of a head and of rows as they are put one behind the other, and how many there are.
-- Assumes nothing.
use mathlib.Core.Path.{◌≡◌, sym, ap, ◌∙◌}
use mathlib.Core.Bool.{true}
use Prim.Native.Nat.{ℕ, ◌+◌, ◌*◌, ◌≤◌}
use native.Mathlib.Nat.{zero-add}
use native.Mathlib.Omega.{arith}
use mathlib.Core.List.{List, [], ◌∷◌, ◌++◌, map, append_assoc}
use lib.ListN.{length, drop, length-append, length-map}
use lib.Seq.{take-length}
use Rattle.std.specs.Prelude.{Some}
use Rattle.page.specs.Layout.{slot_limit, page_limit, pages_in}
use Rattle.page.specs.Rows.{visible, visible_rows, rows_at, first_at, Listable}
use Rattle.page.specs.declared.Row.{Row}
use Rattle.page.proofs.RowLists.{row_next, rows_all}
use Rattle.page.proofs.ListedRows.{Each, Standing, rows-stand}
use Rattle.page.proofs.RowBounds.{rows_few}
use Rattle.page.proofs.Visibility.{empty}
use Rattle.summary.specs.Number.{groups}
use Rattle.summary.specs.Summary.{head_of, row_bytes, rows_bytes, file_of, shortened, summary_rows, summary_file}
use Rattle.summary.specs.Inner.{put}
use Rattle.summary.proofs.Grouping.{groups-ten, length-put, put_two}

-- ---- three numbers, one behind the other

pub length_three : (x y z : List ℕ) → length (x ++ (y ++ z)) ≡ length x + length y + length z
length_three x y z = omega (arith, length-append x (y ++ z), length-append y z)

module _ (d : List ℕ) (at : ℕ) (x y z : List ℕ) (room : at + length (x ++ (y ++ z)) ≤ length d) where
  pub first-room : at + length x ≤ length d
  first-room = omega (arith, length_three x y z)

  module _ (u : List ℕ) (p : ℕ) (is-u : u ≡ put d at x) (is-p : p ≡ at + length x) where
    pub second-room : p + length y ≤ length u
    second-room = omega (arith, length_three x y z, ap length is-u, length-put d x at first-room)

    module _ (v : List ℕ) (q : ℕ) (is-v : v ≡ put u p y) (is-q : q ≡ p + length y) where
      pub third-room : q + length z ≤ length v
      third-room = omega (arith, length_three x y z, ap length is-u, length-put d x at first-room, ap length is-v, length-put u y p second-room)

      pub three-put : (w : List ℕ) (r : ℕ) → w ≡ put v q z → r ≡ q + length z → (r ≡ at + length (x ++ (y ++ z))) × (w ≡ put d at (x ++ (y ++ z)))
      three-put w r is-w is-r =
          let two : v ≡ put d at (x ++ y) = is-v ∙ rw (is-u, is-p) (put_two d x y at first-room) in
          let place : q ≡ at + length (x ++ y) = omega (arith, length-append x y) in (
            omega (arith, length_three x y z),
            is-w ∙ rw (two, place) (put_two d (x ++ y) z at (omega (arith, length_three x y z, length-append x y))) ∙ ap (put d at) (append_assoc x y z),
          )

-- ---- a row

pub length-row : (r : Row) → length (row_bytes (shortened r)) ≡ length (groups r.page.0) + length (groups r.slot) + length (groups r.length)
unfolding row_bytes
length-row r = length_three (groups r.page.0) (groups r.slot) (groups r.length)

-- ---- the rows from a place on

abbrev pub rest_bytes : List ℕ → ℕ → ℕ → List ℕ
rest_bytes s i k = rows_bytes (map shortened (rows_at i k (visible_rows s)))

module _ (s : List ℕ) where
  pub rest_all : rest_bytes s 0 0 ≡ rows_bytes (summary_rows s)
  rest_all = ap (λ (rs : List Row). rows_bytes (map shortened rs)) (rows_all visible s)

  pub rest-none : (i k : ℕ) → rows_at i k (visible_rows s) ≡ [] → rest_bytes s i k ≡ []
  unfolding rows_bytes
  rest-none i k e = rw e

  pub rest-next : (i k : ℕ) (r : Row) → first_at i k (visible_rows s) ≡ Some r → rest_bytes s i k ≡ row_bytes (shortened r) ++ rest_bytes s r.page.0 (r.slot + 1)
  unfolding rows_bytes
  rest-next i k r e = ap (λ (rs : List Row). rows_bytes (map shortened rs)) (row_next visible s i k r e)

  -- a row more is counted
  module _ (i k rows bytes : ℕ) (r : Row) (e : first_at i k (visible_rows s) ≡ Some r) where
    pub counted : rows + length (rows_at i k (visible_rows s)) ≡ length (visible_rows s) → rows + 1 + length (rows_at r.page.0 (r.slot + 1) (visible_rows s)) ≡ length (visible_rows s)
    counted h = omega (arith, ap length (row_next visible s i k r e))

    pub measured : bytes + length (rest_bytes s i k) ≡ length (rows_bytes (summary_rows s))
        → bytes + length (row_bytes (shortened r)) + length (rest_bytes s r.page.0 (r.slot + 1)) ≡ length (rows_bytes (summary_rows s))
    measured h = omega (arith, ap length (rest-next i k r e), length-append (row_bytes (shortened r)) (rest_bytes s r.page.0 (r.slot + 1)))

  -- a row more is put
  module _ (i k at : ℕ) (area : List ℕ) (r : Row) (e : first_at i k (visible_rows s) ≡ Some r) (room : at + length (rest_bytes s i k) ≤ length area) where
    long : length (rest_bytes s i k) ≡ length (row_bytes (shortened r)) + length (rest_bytes s r.page.0 (r.slot + 1))
    long = ap length (rest-next i k r e) ∙ length-append (row_bytes (shortened r)) (rest_bytes s r.page.0 (r.slot + 1))

    pub row_room : at + length (row_bytes (shortened r)) ≤ length area
    row_room = omega (arith, long)

    module _ (new : List ℕ) (next : ℕ) (is-new : new ≡ put area at (row_bytes (shortened r))) (is-next : next ≡ at + length (row_bytes (shortened r))) where
      pub put-length : length new ≡ length area
      put-length = ap length is-new ∙ length-put area (row_bytes (shortened r)) at row_room

      pub put-room : next + length (rest_bytes s r.page.0 (r.slot + 1)) ≤ length new
      put-room = omega (arith, long, put-length)

      pub put_rest : put new next (rest_bytes s r.page.0 (r.slot + 1)) ≡ put area at (rest_bytes s i k)
      put_rest = rw (is-new, is-next, rest-next i k r e) (put_two area (row_bytes (shortened r)) (rest_bytes s r.page.0 (r.slot + 1)) at row_room)

-- ---- how many

few_bytes : (s : List ℕ) → pages_in s ≤ page_limit → (rs : List Row) → Each (Standing s) rs → length (rows_bytes (map shortened rs)) ≤ 30 * length rs
unfolding rows_bytes
few_bytes s l [] u = omega arith
few_bytes s l (r ∷ rs) u =
    let t = u.0 in
    omega (arith, length-append (row_bytes (shortened r)) (rows_bytes (map shortened rs)), few_bytes s l rs u.1, length-row r, groups-ten r.page.0 (omega (arith, t.lent)), groups-ten r.slot (omega (arith, t.low)), groups-ten r.length (omega (arith, t.short)))

module _ (s : List ℕ) (d : Listable s) (l : pages_in s ≤ page_limit) where
  pub few-rows : length (visible_rows s) ≤ slot_limit * page_limit
  few-rows = omega (arith, rows_few visible s d)

  pub few-row-bytes : length (rows_bytes (summary_rows s)) ≤ 30 * (slot_limit * page_limit)
  few-row-bytes = omega (arith, few_bytes s l (visible_rows s) (rows-stand visible (empty true) s d), few-rows)

-- ---- the whole file

pub length-file : (s : List ℕ) (lsn : ℕ) → length (summary_file s lsn) ≡ length (head_of lsn (length (visible_rows s))) + length (rows_bytes (summary_rows s))
unfolding file_of
length-file s lsn =
    let e : length (summary_rows s) ≡ length (visible_rows s) = length-map (visible_rows s) shortened in
    rw e (length-append (head_of lsn (length (visible_rows s))) (rows_bytes (summary_rows s)))

pub file-put : (s area u w : List ℕ) (lsn n first : ℕ) → n ≡ length (visible_rows s) → length (head_of lsn n) + length (rows_bytes (summary_rows s)) ≤ length area
    → u ≡ put area 0 (head_of lsn n) → first ≡ length (head_of lsn n) → w ≡ put u first (rows_bytes (summary_rows s)) → w ≡ put area 0 (summary_file s lsn)
unfolding file_of
file-put s area u w lsn n first is-n room is-u is-first is-w =
    let e : length (summary_rows s) ≡ n = length-map (visible_rows s) shortened ∙ sym is-n in
    let z : first ≡ 0 + length (head_of lsn n) = omega arith in
    rw e (is-w ∙ rw (is-u, z) (put_two area (head_of lsn n) (rows_bytes (summary_rows s)) 0 (omega arith)))

-- put at the front, with the later bytes as they were
pub put_front : (area x : List ℕ) → put area 0 x ≡ x ++ drop (length x) area
put_front area x = rw (take-length x, zero-add (length x))
