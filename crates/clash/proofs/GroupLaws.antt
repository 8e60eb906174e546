-- The cells of a group after one entry more. Assumes nothing.
use Prim.Native.Nat.{ℕ, suc, ◌+◌, ◌*◌, ◌-◌, ◌≤◌, ◌<◌, min}
use mathlib.Core.Path.{◌≡◌, refl, sym, ap, ap₂, ◌∙◌}
use mathlib.Core.Bool.{Bool, true, false}
use mathlib.Core.List.{List}
use native.Mathlib.Omega.{arith}
use native.Mathlib.Decide.{dec_lt, ℕ_discrete}
use lib.ListN.{length, get_or}
use lib.Seq.{paste, length-paste}
use lib.Dec.{leb}
use borrow.Author.Tests.{ltb-true, leb-true, lt-ltb, le-ltb, le-leb, lt-leb, eq-eqb}
use Rattle.std.specs.Prelude.{Option, None, Some}
use Rattle.std.proofs.lemmas.Option.{none-some}
use Rattle.endian.specs.Pick.{pick}
use Rattle.endian.specs.Numbers.{bytes_of}
use Rattle.endian.proofs.Numbers.{length-bytes_of, number-split}
use Rattle.endian.proofs.Places.{number-byte, number_same, number-stored, part-before, part-behind}
use Rattle.wal.specs.Entry.{Entry}
use Rattle.wal.specs.Read.{length_at}
use Rattle.wal.specs.Prefix.{Met, Stands, said, before}
use Rattle.rules.specs.Shape.{both, is_change, is_on, page_of, slot_of, top_on}
use Rattle.rules.specs.Mend.{top_of}
use Rattle.rules.proofs.Tests.{both_true, true-both, false-true}
use Rattle.states.specs.Clash.{clash_after}
use Rattle.cells.specs.Cell.{start_of, cell_of, Blank}
use Rattle.cells.proofs.CellLaws.{start-rises, cell_below, cell-one}
use Rattle.clash.specs.Newest.{on_slot, kept, Newest}
use Rattle.clash.specs.First.{is_in, clash_in}
use Rattle.clash.specs.Group.{Ground, cell_in, Group, Known, cell_for, noted}
use Rattle.clash.proofs.NewestLaws.{kept-below, newest-first, newest-kept, newest-new, off-slot, off-none, on-own, no-clash}

-- ---- which entries have a cell

in-true : (lo hi : ℕ) (e : Entry) → is_in lo hi e ≡ true → (lo ≤ page_of e) × (page_of e < hi)
unfolding is_in
in-true lo hi e h = let a = both_true (leb lo (page_of e)) _ h in (leb-true _ _ a.0, ltb-true _ _ a.1)

module _ (starts : List ℕ) (lo hi : ℕ) (e : Entry) where
  pub no-change-cell : is_change e ≡ false → cell_for starts lo hi e ≡ None
  unfolding cell_for
  no-change-cell h = rw h

  low-cell : is_change e ≡ true → page_of e < lo → cell_for starts lo hi e ≡ None
  unfolding cell_for is_in
  low-cell h l = rw (h, lt-leb lo (page_of e) l)

  high-cell : is_change e ≡ true → lo ≤ page_of e → hi ≤ page_of e → cell_for starts lo hi e ≡ None
  unfolding cell_for is_in
  high-cell h l k = rw (h, le-leb lo (page_of e) l, le-ltb (page_of e) hi k)

  own-cell : is_change e ≡ true → lo ≤ page_of e → page_of e < hi → cell_for starts lo hi e ≡ Some (get_or starts (page_of e) 0 - get_or starts lo 0 + slot_of e)
  unfolding cell_for is_in
  own-cell h l k = rw (h, le-leb lo (page_of e) l, lt-ltb (page_of e) hi k)

-- by the page that was read, or the group's end
module _ (starts : List ℕ) (lo hi : ℕ) (e : Entry) (change : is_change e ≡ true) (i : ℕ) (is : i ≡ min (page_of e) hi) where
  pub read_low : lo ≤ hi → i < lo → cell_for starts lo hi e ≡ None
  read_low o h = low-cell starts lo hi e change (omega arith)

  pub read-high : lo ≤ i → hi ≤ i → cell_for starts lo hi e ≡ None
  read-high l h = high-cell starts lo hi e change (omega arith) (omega arith)

  module _ (l : lo ≤ i) (h : i < hi) where
    pub read-page : i ≡ page_of e
    read-page = omega arith

    pub read-own : (k c : ℕ) → k ≡ slot_of e → c ≡ get_or starts i 0 - get_or starts lo 0 + k → Some c ≡ cell_for starts lo hi e
    read-own k c q z = ap Some (z ∙ ap₂ (λ (x y : ℕ). get_or starts x 0 - get_or starts lo 0 + y) read-page q) ∙ sym (own-cell starts lo hi e change (omega arith) (omega arith))

-- an entry without a cell does not clash there
clash-out : (lo hi : ℕ) (s : List ℕ) (at : ℕ) → both (is_change (said s at)) (is_in lo hi (said s at)) ≡ false → clash_in lo hi s at ≡ false
clash-out lo hi s at b = go (is_change (said s at)) refl (is_in lo hi (said s at)) b
  where
    go : (x : Bool) → is_change (said s at) ≡ x → (y : Bool) → both x y ≡ false → both y (clash_after (before s at) (said s at)) ≡ false
    go true q true b = false-true (sym b)
    go x q false b = refl
    go false q true b = no-clash (before s at) (said s at) q

-- by its cell
cell-none : (starts : List ℕ) (lo hi : ℕ) (s : List ℕ) (at : ℕ) → cell_for starts lo hi (said s at) ≡ None → clash_in lo hi s at ≡ false
unfolding cell_for
cell-none starts lo hi s at e = go (both (is_change (said s at)) (is_in lo hi (said s at))) refl e
  where
    go : (b : Bool) → both (is_change (said s at)) (is_in lo hi (said s at)) ≡ b → pick b (Some (get_or starts (page_of (said s at)) 0 - get_or starts lo 0 + slot_of (said s at))) None ≡ None → clash_in lo hi s at ≡ false
    go true q z = absurd (none-some _ (sym z))
    go false q z = clash-out lo hi s at q

-- an entry with the cell c
record Own (starts : List ℕ) (lo hi : ℕ) (e : Entry) (c : ℕ) : Type 0 where
  pub change : is_change e ≡ true
  pub low : lo ≤ page_of e
  pub high : page_of e < hi
  pub cell : c ≡ get_or starts (page_of e) 0 - get_or starts lo 0 + slot_of e
  pub inside : is_in lo hi e ≡ true

own : (starts : List ℕ) (lo hi : ℕ) (e : Entry) (c : ℕ) → Some c ≡ cell_for starts lo hi e → Own starts lo hi e c
unfolding cell_for
own starts lo hi e c n = go (both (is_change e) (is_in lo hi e)) refl n
  where
    go : (b : Bool) → both (is_change e) (is_in lo hi e) ≡ b → Some c ≡ pick b (Some (get_or starts (page_of e) 0 - get_or starts lo 0 + slot_of e)) None → Own starts lo hi e c
    go true q n =
        let a = both_true (is_change e) _ q in
        let b = in-true lo hi e a.1 in
        record { change = a.0; low = b.0; high = b.1; cell = cc; inside = a.1 }
    go false q n = absurd (none-some _ (sym n))

-- what is known of its cell
module _ {s starts space : List ℕ} {lo hi at : ℕ} (k : Known s starts space lo hi at) where
  pub no_cell : None ≡ cell_for starts lo hi (said s at) → clash_in lo hi s at ≡ false
  no_cell e = cell-none starts lo hi s at (sym e)

  module _ (c : ℕ) (is : Some c ≡ cell_for starts lo hi (said s at)) where
    at_own : Own starts lo hi (said s at) c
    at_own = own starts lo hi (said s at) c is

    pub own-change : is_change (said s at) ≡ true
    own-change = at_own.change

    pub own-fits : c < 327680
    own-fits = let o = at_own in omega (arith, o.cell, k.fits o.change o.low o.high)

    pub own-tells : Newest s at (page_of (said s at)) (slot_of (said s at)) (cell_in space c)
    own-tells = let o = at_own in ap (cell_in space) o.cell ∙ k.tells o.change o.low o.high

    pub own-clash : {r : Bool} → r ≡ clash_after (before s at) (said s at) → r ≡ clash_in lo hi s at
    own-clash e = e ∙ sym (rw at_own.inside)

module _ (t : ℕ) (space : List ℕ) where
  pub noted-none : space ≡ noted false None t space
  unfolding noted
  noted-none = refl

  pub noted-clash : (c : Option ℕ) → space ≡ noted true c t space
  unfolding noted
  noted-clash None = refl
  noted-clash (Some c) = refl

  pub noted-new : (c : ℕ) → paste space (2 * c) (bytes_of 2 (kept t)) 2 ≡ noted false (Some c) t space
  unfolding noted
  noted-new c = refl

-- ---- cells of two bytes

-- a cell that was stored, and any other
module _ (space : List ℕ) (c u : ℕ) (room : 2 * c + 2 ≤ length space) where
  cell-stored : cell_in (paste space (2 * c) (bytes_of 2 (kept u)) 2) c ≡ kept u
  cell-stored = number-stored 2 (2 * c) (kept u) space room (kept-below u)

  cell_other : (d : ℕ) → (d ≡ c → ⊥) → cell_in (paste space (2 * c) (bytes_of 2 (kept u)) 2) d ≡ cell_in space d
  cell_other d n =
      number_same 2 (2 * d) (2 * d) _ space
      (elim (dec_lt d c) [
        | yes l ↦ part-before space (bytes_of 2 (kept u)) (2 * c) 2 (length-bytes_of 2 (kept u)) room (2 * d) 2 (omega arith)
        | no l ↦ part-behind space (bytes_of 2 (kept u)) (2 * c) 2 (length-bytes_of 2 (kept u)) room (2 * d) 2 (omega arith)
      ])

cell-blank : (space : List ℕ) (c : ℕ) → Blank space → cell_in space c ≡ 0
cell-blank space c b =
    omega (arith, number-split 1 1 (2 * c) space, number-byte (2 * c) space, number-byte (2 * c + 1) space, b.at (2 * c), b.at (2 * c + 1))

-- ---- the cell of the entry at `at`
module _ {s starts space : List ℕ} {limit lo hi at : ℕ} (g : Group s starts space limit lo hi at) (m : Met s at) (h : Stands s at) (before-limit : at < limit) where
  top-own : is_change (said s at) ≡ true → slot_of (said s at) < top_of (page_of (said s at)) g.ground.es
  unfolding top_on is_on
  top-own c =
      let r : top_on (page_of (said s at)) (said s at) ≡ suc (slot_of (said s at)) = rw (c, eq-eqb (page_of (said s at)) (page_of (said s at)) refl) in
      omega (arith, g.ground.reach at m before-limit (page_of (said s at)))

  module _ (c : is_change (said s at) ≡ true) (l : lo ≤ page_of (said s at)) (k : page_of (said s at) < hi) where
    cell-is : get_or starts (page_of (said s at)) 0 - get_or starts lo 0 + slot_of (said s at) ≡ cell_of g.ground.es lo (page_of (said s at)) (slot_of (said s at))
    unfolding cell_of
    cell-is =
        let b = g.ground.begin in
        let f = g.ground in
        let x : get_or starts (page_of (said s at)) 0 ≡ start_of g.ground.es (page_of (said s at)) = b.at (page_of (said s at)) (omega (arith, f.within)) in
        let y : get_or starts lo 0 ≡ start_of g.ground.es lo = b.at lo (omega (arith, f.within)) in
        rw (x, y)

    cell-fits : cell_of g.ground.es lo (page_of (said s at)) (slot_of (said s at)) < 327680
    cell-fits =
        let f = g.ground in
        let b = g.ground.begin in
        omega (arith, cell_below g.ground.es lo (page_of (said s at)) (slot_of (said s at)) l (top-own c) hi k, f.size, b.at hi f.within, b.at lo (omega (arith, f.order, f.within)), start-rises g.ground.es lo hi (omega (arith, f.order)))

    cell-tells : Newest s at (page_of (said s at)) (slot_of (said s at)) (cell_in space (get_or starts (page_of (said s at)) 0 - get_or starts lo 0 + slot_of (said s at)))
    cell-tells = ap (cell_in space) cell-is ∙ g.tell (page_of (said s at)) (slot_of (said s at)) l k (top-own c)

    stored : (x : ℕ) → x ≡ cell_of g.ground.es lo (page_of (said s at)) (slot_of (said s at)) → Group s starts (paste space (2 * x) (bytes_of 2 (kept (said s at).txn)) 2) limit lo hi (at + length_at s at)
    stored x e =
        record {
          ground = g.ground;
          long = length-paste space (2 * x) (bytes_of 2 (kept (said s at).txn)) 2 room (omega (arith, length-bytes_of 2 (kept (said s at).txn))) ∙ g.long;
          tell = λ i j li ih ji. tell i j li ih ji (ℕ_discrete (cell_of g.ground.es lo i j) x);
        }
      where
        room : 2 * x + 2 ≤ length space
        room = omega (arith, g.long, cell-fits)

        tell : (i j : ℕ) → lo ≤ i → i < hi → j < top_of i g.ground.es → Dec (cell_of g.ground.es lo i j ≡ x)
            → Newest s (at + length_at s at) i j (cell_in (paste space (2 * x) (bytes_of 2 (kept (said s at).txn)) 2) (cell_of g.ground.es lo i j))
        tell i j li ih ji (yes z) =
            let o = cell-one g.ground.es lo i (page_of (said s at)) j (slot_of (said s at)) li l ji (top-own c) (z ∙ e) in
            rw (z, cell-stored space x (said s at).txn room, o.0, o.1) (newest-new s at m h (page_of (said s at)) (slot_of (said s at)) (on-own (said s at) c))
        tell i j li ih ji (no z) =
            cell_other space x (said s at).txn room (cell_of g.ground.es lo i j) z
            ∙ newest-kept s at m h i j (off-slot i j (said s at) (λ p q. z (ap₂ (cell_of g.ground.es lo) p q ∙ sym e))) (g.tell i j li ih ji)

  -- an entry without a cell alters none
  skipped : both (is_change (said s at)) (is_in lo hi (said s at)) ≡ false → Group s starts space limit lo hi (at + length_at s at)
  unfolding is_in
  skipped b =
      record {
        ground = g.ground;
        long = g.long;
        tell = λ i k li ih ki. newest-kept s at m h i k (off i k li ih (is_change (said s at)) refl) (g.tell i k li ih ki);
      }
    where
      out : (i k : ℕ) → lo ≤ i → i < hi → is_in lo hi (said s at) ≡ false → on_slot i k (said s at) ≡ false
      out i k li ih q = off-slot i k (said s at) (λ e f. false-true (sym q ∙ true-both (le-leb lo (page_of (said s at)) (omega arith)) (lt-ltb (page_of (said s at)) hi (omega arith))))

      off : (i k : ℕ) → lo ≤ i → i < hi → (x : Bool) → is_change (said s at) ≡ x → on_slot i k (said s at) ≡ false
      off i k li ih true q = out i k li ih (rw q at b)
      off i k li ih false q = off-none i k (said s at) q

  starts-rise : lo ≤ page_of (said s at) → page_of (said s at) < hi → get_or starts lo 0 ≤ get_or starts (page_of (said s at)) 0
  starts-rise l k =
      let f = g.ground in
      let b = g.ground.begin in
      omega (arith, b.at lo (omega (arith, f.within)), b.at (page_of (said s at)) (omega (arith, f.within)), start-rises g.ground.es lo (page_of (said s at)) l)

  -- what a step asks
  pub known : Known s starts space lo hi at
  known =
      record {
        rises = λ c l k. starts-rise l k;
        fits = λ c l k. omega (arith, cell-fits c l k, cell-is c l k);
        tells = λ c l k. cell-tells c l k;
      }

  -- and what it leaves, where there is no clash
  pub next-group : (r : Bool) → r ≡ clash_in lo hi s at → r ≡ false → Group s starts (noted r (cell_for starts lo hi (said s at)) (said s at).txn space) limit lo hi (at + length_at s at)
  unfolding noted cell_for
  next-group r is z = rw z (go (both (is_change (said s at)) (is_in lo hi (said s at))) refl)
    where
      cell : ℕ
      cell = get_or starts (page_of (said s at)) 0 - get_or starts lo 0 + slot_of (said s at)

      go : (b : Bool) → both (is_change (said s at)) (is_in lo hi (said s at)) ≡ b
          → Group s starts (noted false (pick b (Some cell) None) (said s at).txn space) limit lo hi (at + length_at s at)
      go true q =
          let a = both_true (is_change (said s at)) _ q in
          let b = in-true lo hi (said s at) a.1 in
          stored a.0 b.0 b.1 cell (cell-is a.0 b.0 b.1)
      go false q = skipped q

-- a group at the first place
pub group-first : {s starts space : List ℕ} {limit lo hi : ℕ} → Ground s starts limit lo hi → length space ≡ 655360 → Blank space → Group s starts space limit lo hi 32
group-first {s} {starts} {space} {limit} {lo} {hi} g l b = record { ground = g; long = l; tell = λ i k li ih ki. cell-blank space (cell_of g.es lo i k) b ∙ newest-first s i k }
