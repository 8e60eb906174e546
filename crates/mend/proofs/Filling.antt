-- The working page on its way to the slots that a page is to have.
-- Assumes nothing.
use mathlib.Core.Path.{◌≡◌, ap}
use Prim.Native.Nat.{ℕ, ◌+◌, ◌-◌, ◌*◌, ◌≤◌, ◌<◌, max}
use native.Mathlib.Omega.{arith}
use mathlib.Core.List.{List}
use lib.ListN.{length}
use Rattle.wal.specs.Walk.{entries}
use Rattle.page.specs.Layout.{page_bytes, body_bytes, body_of, count_of, slot_at}
use Rattle.page.specs.Packed.{tab, tuple_bytes, room_for, body}
use Rattle.page.specs.Writer.{with_slot}
use Rattle.page.proofs.Tables.{length-tab}
use Rattle.page.proofs.Packing.{Packing, packing-room, packing-next}
use Rattle.rules.specs.Mend.{committed, top_of, decided, slots_for}
use Rattle.change.specs.Tuples.{tuple_in, Stood}
use Rattle.change.specs.declared.Image.{Image}

-- what slot k of page i, which is p, is to hold by the log s
abbrev pub wanted : List ℕ → ℕ → List ℕ → ℕ → List ℕ
wanted s i p k = decided (committed (entries s)) (entries s) i k (slot_at p k)

-- and all its slots
abbrev pub all_wanted : List ℕ → ℕ → List ℕ → List (List ℕ)
all_wanted s i p = slots_for (committed (entries s)) (entries s) i p

module _ (s p : List ℕ) (i n : ℕ) (e : n ≡ max (count_of p) (top_of i (entries s))) where
  pub wanted-all : tab n (wanted s i p) ≡ all_wanted s i p
  unfolding slots_for
  wanted-all = rw e

  module _ (fits : room_for (all_wanted s i p) ≤ body_bytes) where
    fits-tab : room_for (tab n (wanted s i p)) ≤ body_bytes
    fits-tab = rw wanted-all fits

    -- slots take four bytes each
    pub wanted-few : n ≤ 4080
    wanted-few = omega (arith, length-tab n (wanted s i p), fits-tab)

    module _ {w : List ℕ} {k top : ℕ} (q : Packing w k top (wanted s i p)) (more : k < n) {m : Image} (t : Stood s p m (wanted s i p k)) where
      pub fill-room : (length w ≡ page_bytes) × (4 * k + 4 + m.length ≤ top) × (top ≤ body_bytes)
      fill-room = (q.long, omega (arith, t.long, packing-room n (wanted s i p) fits-tab q more), omega (arith, q.start))

      pub fill-next : (v : List ℕ) (r : ℕ) → length v ≡ length w → r ≡ top - m.length → v ≡ with_slot w k top (tuple_in s p m) → Packing v (k + 1) r (wanted s i p)
      fill-next v r lv er ev =
          packing-next n (wanted s i p) fits-tab q more v (tuple_in s p m) r lv t.is (omega (arith, t.long, ap length t.is)) ev

  pub fill-all : {w : List ℕ} {k top : ℕ} → k ≡ n → Packing w k top (wanted s i p) → (top ≡ body_bytes - tuple_bytes (all_wanted s i p)) × (body_of w ≡ body (all_wanted s i p))
  fill-all z q = (rw (z, wanted-all) at q.start, rw (z, wanted-all) at q.holds)
