-- The bytes that the first slots of a page and their tuples need, slot by slot. Assumes nothing.
use Prim.Native.Nat.{ℕ, suc, ◌+◌, ◌*◌, ◌≤◌, max}
use mathlib.Core.Path.{◌≡◌, refl, ap, ◌∙◌}
use mathlib.Core.List.{List}
use native.Mathlib.Numerals.{add-one}
use native.Mathlib.Omega.{arith}
use lib.ListN.{length}
use Rattle.wal.specs.Walk.{entries}
use Rattle.page.specs.Layout.{count_of, slot_at}
use Rattle.page.specs.Packed.{tab, room_for}
use Rattle.page.proofs.Tables.{length-tab, tab-bytes}
use Rattle.rules.specs.Mend.{committed, top_of, decided, slots_for}
use Rattle.change.specs.declared.Image.{Image}
use Rattle.change.specs.Tuples.{Stood}
use Rattle.images.specs.Page.{PageCells, Sound}
use Rattle.images.proofs.Kept.{count_small}

-- what slot k of page i, which is p, is to hold
abbrev pub held : List ℕ → List ℕ → ℕ → ℕ → List ℕ
held s p i k = decided (committed (entries s)) (entries s) i k (slot_at p k)

-- sum is what the first k slots need
pub record Summing (s p : List ℕ) (i k sum : ℕ) : Type 0 where
  pub is : sum ≡ room_for (tab k (held s p i))
  pub small : sum ≤ 16324 * k

-- one slot more
room_next : (k : ℕ) (f : ℕ → List ℕ) → room_for (tab (k + 1) f) ≡ room_for (tab k f) + 4 + length (f k)
room_next k f = rw (add-one k) (omega (arith, length-tab k f, length-tab (suc k) f, tab-bytes k f))

module _ {s p : List ℕ} {i : ℕ} where
  pub summing-none : Summing s p i 0 0
  summing-none = record { is = refl; small = omega arith }

  pub summing-next : {k sum : ℕ} {m : Image} → Summing s p i k sum → Stood s p m (held s p i k) → Summing s p i (k + 1) (sum + (4 + m.length))
  summing-next {k} {sum} {m} h t = record { is = omega (arith, h.is, t.long, room_next k (held s p i)); small = omega (arith, h.small, t.lies.short) }

  pub summing-all : {n k sum : ℕ} → n ≡ max (count_of p) (top_of i (entries s)) → k ≡ n → Summing s p i k sum → sum ≡ room_for (slots_for (committed (entries s)) (entries s) i p)
  unfolding slots_for
  summing-all e z h = h.is ∙ ap (λ (x : ℕ). room_for (tab x (held s p i))) (z ∙ e)

-- there are few
pub slots-few : {s cells p : List ℕ} {i top n : ℕ} → PageCells s i top cells → n ≡ max (count_of p) (top_of i (entries s)) → Sound p → n ≤ 4080
slots-few d e g = omega (arith, e, count_small g, d.top-is, d.fits)
