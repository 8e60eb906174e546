-- A working page on its way to a packed page: from zeros, slot by slot, to the header.
-- Assumes nothing.
use mathlib.Core.Path.{◌≡◌, refl, ap, ◌∙◌}
use Prim.Native.Nat.{ℕ, suc, ◌+◌, ◌-◌, ◌*◌, ◌≤◌, ◌<◌}
use native.Mathlib.Numerals.{add-one}
use native.Mathlib.Omega.{arith}
use mathlib.Core.List.{List, [], ◌++◌, append_assoc, append-nil}
use lib.ListN.{length, drop, replicate, length-replicate, replicate-append-replicate}
use lib.Seq.{paste, drop_at, length-paste}
use Rattle.endian.specs.Numbers.{bytes_of}
use Rattle.page.specs.Layout.{page_bytes, head_bytes, body_bytes, body_of}
use Rattle.page.specs.Packed.{Head, packed, body, tab, slot_bytes, tuple_bytes, room_for}
use Rattle.page.specs.Writer.{with_slot, front_of, back_of, sealed}
use Rattle.page.proofs.Tables.{length-tab, tab-bytes, tab-bytes-le}
use Rattle.page.proofs.Writing.{tab-step}
use Rattle.page.proofs.Pasting.{paste-behind}

-- the body of the working page w holds the first k tuples of f, the last of which starts at `top`
pub record Packing (w : List ℕ) (k top : ℕ) (f : ℕ → List ℕ) : Type 0 where
  pub long : length w ≡ page_bytes
  pub start : top ≡ body_bytes - tuple_bytes (tab k f)
  pub holds : body_of w ≡ body (tab k f)

zeros : (h b : ℕ) → drop h (replicate {A = ℕ} (h + b) 0) ≡ replicate b 0 ++ []
zeros h b =
    rw (append-nil (replicate {A = ℕ} b 0), ← replicate-append-replicate {A = ℕ} h b 0)
    (drop_at (replicate h 0) (replicate b 0) h (length-replicate h 0))

pub packing-none : (f : ℕ → List ℕ) → Packing (replicate page_bytes 0) 0 body_bytes f
unfolding body
packing-none f = record { long = length-replicate {0} {A = ℕ} page_bytes 0; start = refl; holds = zeros head_bytes body_bytes }

-- one slot more, as the body has it
slot-behind : (w t : List ℕ) (k top : ℕ) → head_bytes + 4 * k + 4 ≤ length w
    → body_of (with_slot w k top t) ≡ paste (paste (body_of w) (4 * k) (slot_bytes top t) 4) (top - length t) t (length t)
unfolding with_slot bytes_of
slot-behind w t k top r =
    let s : List ℕ = slot_bytes top t in
    let v : List ℕ = paste w (head_bytes + 4 * k) s 4 in
    let l : length v ≡ length w = length-paste w (head_bytes + 4 * k) s 4 r (omega arith) in
    paste-behind v t head_bytes (top - length t) (length t) (omega arith)
    ∙ ap (λ (b : List ℕ). paste b (top - length t) t (length t)) (paste-behind w s head_bytes (4 * k) 4 (omega arith))

module _ (n : ℕ) (f : ℕ → List ℕ) (fits : room_for (tab n f) ≤ body_bytes) where
  upto : (k : ℕ) → k ≤ n → 4 * k + tuple_bytes (tab k f) ≤ body_bytes
  upto k l = omega (arith, length-tab n f, tab-bytes-le k n f l)

  module _ {w : List ℕ} {k top : ℕ} (p : Packing w k top f) (more : k < n) where
    -- there is room for the next tuple
    pub packing-room : 4 * k + 4 + length (f k) ≤ top
    packing-room = omega (arith, p.start, tab-bytes k f, upto (suc k) more)

    pub packing-next : (v t : List ℕ) (r : ℕ) → length v ≡ length w → t ≡ f k → r ≡ top - length t → v ≡ with_slot w k top t → Packing v (k + 1) r f
    packing-next v t r lv et er ev =
        let room : 4 * k + 4 + length (f k) ≤ top = packing-room in
        let same : length t ≡ length (f k) = ap length et in
        record {
          long = lv ∙ p.long;
          start = rw (add-one k) (omega (arith, p.start, tab-bytes k f));
          holds = ap body_of ev ∙ slot-behind w t k top (omega (arith, p.long, p.start)) ∙ rw (p.holds, et, add-one k) (tab-step k f top (omega (arith, p.start)) p.start);
        }

-- under its header it is the packed page
pub packing-sealed : (h : Head) (n : ℕ) (f : ℕ → List ℕ) {w : List ℕ} {top : ℕ} → Packing w n top f → sealed h n top (body_of w) ≡ packed h (tab n f)
unfolding packed front_of back_of
packing-sealed h n f p = rw (p.holds, p.start, length-tab n f) (simp append_assoc)
